-- The words that the data has whole, and those behind them.
use Rattle.std.proofs.Common.{rules}
use Rattle.words.proofs.Moves.{stored}
use Rattle.words.proofs.bytes.store.Goals as goal

pub returns : goal.returns
returns c = search (stored, rules)
