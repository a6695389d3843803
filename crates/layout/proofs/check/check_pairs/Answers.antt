-- Kept in both loops: the search that is left, of pairs from i on and of partners from j on, is the whole one.
use mathlib.Core.Path.{refl}
use Rattle.layout.proofs.Searches.{partner_from, partner_on, pair_found, pair_on, pair_none}
use borrow.Author.Rules.{rules}
use Rattle.layout.proofs.check.check_pairs.Goals as goal

pub pairs-init : goal.pairs-init
pairs-init c = (search rules, refl, refl)

pub loop-j-init : goal.loop-j-init
loop-j-init c = (search rules, search (partner_from, rules))

pub loop-j-preserved : goal.loop-j-preserved
loop-j-preserved c = (search rules, search (partner_on, rules))

pub pairs-preserved : goal.pairs-preserved
pairs-preserved c = (search rules, search rules, search (pair_on, rules))

pub returns-after-pairs : goal.returns-after-pairs
returns-after-pairs c = search (pair_none, rules)

pub returns-then-shares : goal.returns-then-shares
returns-then-shares c = search (pair_found, rules)
