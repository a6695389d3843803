-- Some place differs exactly where the lowest that does is one of the ring's.
use Rattle.std.proofs.Common.{rules, arith, tests, refl, ◌∙◌}
use Rattle.std.proofs.iter.Serving.{serving}
use Rattle.std.proofs.lemmas.Iterator.{YieldsList-from_range}
use Rattle.engine.specs.Fitness.{differs}
use Rattle.engine.proofs.Cases.{shared_most}
use Rattle.engine.proofs.Unfitness.{any_differs, any_folded}
use Rattle.engine.proofs.fitness.shared_unfit.Goals as goal

pub fold-requires-clause-callable : goal.fold-requires-clause-callable
fold-requires-clause-callable c = grind (serving, arith, shared_most)

pub returns : goal.returns
returns c =
    let size = c.shared_circle-circle.result.size in
    any_folded (differs c.args.s) _ (λ a x b q k. search (rules, tests))
    (YieldsList-from_range 0 size size refl (omega arith)) _ c.fold.ensures.ran
    ∙ any_differs c.args.s _ c.shared_circle-circle.ensures.size
