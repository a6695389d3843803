-- The bytes in turn: each is the one as sent, and those before it stay.
use Rattle.std.proofs.Common.{arith}
use Rattle.words.proofs.Runs.{filled}
use Rattle.element.proofs.Readings.{one_more_at}
use Rattle.element.proofs.memory.Element.fill_sent.Goals as goal

pub loop-i-init : goal.loop-i-init
loop-i-init c = λ k h. absurd (omega (arith, h))

pub loop-i-preserved : goal.loop-i-preserved
loop-i-preserved c =
    one_more_at _ c.loop-i.out c.loop-i.i c.sent_byte.result (omega (arith, c.loop-i.auto.out, c.loop-i-test.true))
    c.loop-i.invariant c.sent_byte.ensures

pub returns : goal.returns
returns c =
    filled _ c.loop-i.out _ c.loop-i.auto.out (λ k h. c.loop-i.invariant k (omega (arith, h, c.loop-i-test.false)))
