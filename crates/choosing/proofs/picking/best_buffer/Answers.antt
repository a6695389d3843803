-- The candidates come in the order of their numbers, and each has a place.
use Rattle.std.proofs.Common.{rules, arith, tests, refl, ◌∙◌}
use Rattle.std.proofs.lemmas.Iterator.{YieldsList-from_range}
use Rattle.std.proofs.lemmas.Iterator.Consumers.{YieldsList-at, YieldsList-from_filter}
use Rattle.choosing.specs.Choosing.{is_candidate}
use Rattle.choosing.specs.Needs.{rank_in}
use Rattle.choosing.proofs.Picks.{inside, callable, least, has_place, scan_is}
use Rattle.choosing.proofs.picking.best_buffer.Goals as goal

pub reduce-requires-clause-callable : goal.reduce-requires-clause-callable
reduce-requires-clause-callable c =
    let a = c.tx_area-a.result in
    let one = is_candidate c.args.s in
    let rank = rank_in c.args.mem.now a in
    callable one rank _ _ (λ m x k q h. search (rules, tests)) _ a.count
    (λ m x l h. search (has_place c.args.s _ m a c.requires c.tx_area-a.ensures l, has_place c.args.s _ x a c.requires c.tx_area-a.ensures h, rules))
    _ _
    (YieldsList-from_filter _ one
    (YieldsList-at c.filter.ensures.source (YieldsList-from_range 0 a.count a.count refl (omega arith)))
    c.filter.ensures.closure (λ x b q h. search (rules, tests)))
    (inside one rank a.count 0 a.count (omega arith))

pub returns : goal.returns
returns c =
    let a = c.tx_area-a.result in
    let one = is_candidate c.args.s in
    least one (rank_in c.args.mem.now a) _ _ (λ m x k q h. search (rules, tests))
    (YieldsList-from_filter _ one
    (YieldsList-at c.filter.ensures.source (YieldsList-from_range 0 a.count a.count refl (omega arith)))
    c.filter.ensures.closure (λ x b q h. search (rules, tests)))
    c.reduce.result c.reduce.ensures.ran
    ∙ scan_is c.args.s c.args.mem.now a c.tx_area-a.ensures
