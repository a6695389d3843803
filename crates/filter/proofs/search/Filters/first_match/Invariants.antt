-- No element that was passed matches.
use Prim.Native.Nat.{ℕ, ◌<◌}
use mathlib.Core.Path.{◌≡◌}
use mathlib.Core.Bool.{false}
use Rattle.filter.specs.Search.{matches_at}
use Rattle.filter.proofs.search.Filters.first_match.Given as goal

abbrev pub invariant-loop-i : goal.invariant-loop-i
invariant-loop-i l = (k : ℕ) → k < l.i → matches_at l.self.mem.now l.self.list l.id k ≡ false
