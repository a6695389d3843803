-- The shared places can be looked at once layout and rings are found fit.
use Rattle.engine.proofs.Sounds.{shared_can}
use Rattle.engine.proofs.fitness.judge_fit.Goals as goal

pub shared_unfit-requires : goal.shared_unfit-requires
shared_unfit-requires c = shared_can c.args.s _ _ c.check.ensures c.if-is_err.ensures.value c.if-rings_unfit.ensures
