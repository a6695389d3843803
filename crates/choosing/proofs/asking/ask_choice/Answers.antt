-- Where neither 20 nor 30 applies, the choice can be told.
use Rattle.choosing.proofs.Picks.{can_choose}
use Rattle.choosing.proofs.asking.ask_choice.Goals as goal

pub choose-requires : goal.choose-requires
choose-requires c = can_choose _ _ _ _ c.in_ok-judge_fit.ensures c.in_ok-judge_output.ensures
