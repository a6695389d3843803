-- The bytes that the element holds, and those behind them.
use Rattle.element.proofs.Readings.{sent_both}
use Rattle.element.proofs.memory.Element.write_sent.Goals as goal

pub returns : goal.returns
returns c = sent_both _ _ _ _ _ _ _ _ c.min-held.ensures c.load.ensures c.fill_sent.ensures c.requires.1
