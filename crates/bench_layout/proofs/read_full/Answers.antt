-- A further read puts its bytes behind those that stand there.
use Rattle.std.proofs.Common.{rules}
use Rattle.bench_layout.proofs.Further.{front, read_more}
use Rattle.bench_layout.proofs.read_full.Goals as goal

pub loop-done-preserved : goal.loop-done-preserved
loop-done-preserved g c = (
  search rules,
  search rules,
  read_more _ _ _ _ _ _
      (front c.loop-done.input c.read.new.buf _ c.loop-done.done c.in_ok-n.n c.loop-done.invariant.0 c.in_ok-n.ensures.bound.0)
      c.loop-done.invariant.2 c.in_ok-n.ensures.bytes.0,
)
