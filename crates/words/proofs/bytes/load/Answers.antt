-- The bytes of the words that are read whole, and those behind them.
use Rattle.std.proofs.Common.{rules}
use Rattle.words.proofs.Moves.{loaded}
use Rattle.words.proofs.bytes.load.Goals as goal

pub returns : goal.returns
returns c = search (loaded, rules)
