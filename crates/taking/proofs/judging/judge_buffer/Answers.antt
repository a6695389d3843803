-- A buffer's bit is one of 64, since the state is fit.
use Rattle.std.proofs.Common.{rules}
use Rattle.taking.proofs.Judgements.{bit_inside}
use Rattle.taking.proofs.judging.judge_buffer.Goals as goal

pub test-requires : goal.test-requires
test-requires c = bit_inside _ _ _ c.in_ok-judge_fit.ensures _ (search rules)
