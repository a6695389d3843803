-- The bytes of a word, from the lowest on.
use Rattle.std.proofs.Common.{rules}
use Rattle.words.proofs.Moves.{word_put}
use Rattle.words.proofs.bytes.put_bytes.Goals as goal

pub returns : goal.returns
returns c = search (word_put, rules)
