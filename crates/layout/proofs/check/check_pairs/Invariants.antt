-- Kept in both loops: the search that is left, of pairs from i on and of partners from j on, is the whole one.
use Rattle.std.proofs.Common.{◌≡◌, ◌-◌, length, get_or, Ok}
use Rattle.words.specs.Least.{least_from}
use Rattle.layout.specs.Sections.{none}
use Rattle.layout.specs.Verdict.{partner, has_partner}
use Rattle.layout.proofs.Searches.{shares_with}
use Rattle.layout.proofs.check.check_pairs.Given as goal

abbrev pub invariant-loop-j : goal.invariant-loop-j
invariant-loop-j l =
    (l.found ≡ Ok tt) × (partner l.s l.i ≡ least_from (shares_with l.s (get_or l.s l.i none)) l.j (7 - l.j))

abbrev pub invariant-pairs : goal.invariant-pairs
invariant-pairs l =
    (length l.s ≡ 7) × (l.found ≡ Ok tt) × (least_from (has_partner l.s) 0 7 ≡ least_from (has_partner l.s) l.i (7 - l.i))
