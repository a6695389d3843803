-- A change in one of the engine's own sections leaves the words that are in none of them, as those of the filter lists.
-- Assumes nothing.
use Prim.Native.Nat.{ℕ, ◌+◌, ◌≤◌, ◌<◌}
use mathlib.Core.Path.{◌≡◌, refl, sym, ◌∙◌}
use mathlib.Core.Bool.{Bool, true, false}
use mathlib.Core.List.{List}
use mathlib.Core.Logic.{inl, inr}
use native.Mathlib.Omega.{arith}
use borrow.Author.Tests.{ltb-true, ltb-false, leb-true, leb-false}
use lib.Dec.{ltb, leb}
use lib.ListN.{get_or}
use Rattle.words.specs.Ranges.{range_end, Outside, SameIn, OnlyIn}
use Rattle.registers.specs.declared.Registers.{Registers}
use Rattle.layout.specs.Legal.{Has, Legal}
use Rattle.filter.specs.Search.{list_of, list_range}
use Rattle.places.specs.Areas.{area_range, area_end}
use Rattle.areas.specs.Own.{own, written_sections, OnlySections}
use Rattle.areas.proofs.Sections.{areas_are_sections}

module _ (g : Registers) (began mem : List ℕ) (rest : OnlySections g written_sections began mem) where
  -- a change in an own section leaves the rest
  pub rest_kept : (i : ℕ) → i < 5 → (next : List ℕ) → OnlyIn (area_range (own g i)) mem next
      → OnlySections g written_sections began next
  rest_kept i h next kept = record {
    size = kept.size ∙ rest.size;
    words = λ k free. kept.outside k
        (go k (free (2 + i) (record { from = omega arith; below = omega arith })) (ltb k (own g i).start.0) refl
        (leb (area_end (own g i)) k) refl)
        ∙ rest.words k free;
  }
    where
      go : (k : ℕ) → (Has g (2 + i) k → ⊥) → (t : Bool) → ltb k (own g i).start.0 ≡ t
          → (u : Bool) → leb (area_end (own g i)) k ≡ u → Outside (area_range (own g i)) k
      go k free true e u f = inl (ltb-true k (own g i).start.0 e)
      go k free false e true f = inr (leb-true (area_end (own g i)) k f)
      go k free false e false f =
          absurd (free ((areas_are_sections g i k h).0 (record {
            from = ltb-false k (own g i).start.0 e;
            below = leb-false (area_end (own g i)) k f;
          })))

  -- the filter lists are as at the start
  pub lists_stay : (words : ℕ) → Legal g words → (xtd : Bool) → SameIn (list_range (list_of g xtd)) mem began
  lists_stay words legal xtd = record { size = sym rest.size; within = go xtd }
    where
      word : (j k : ℕ) → j < 2 → Has g j k → get_or began k 0 ≡ get_or mem k 0
      word j k l has =
          sym (rest.words k (λ i in-i other.
          legal.apart j i k (omega (arith, in-i.from)) (omega (arith, in-i.below)) has other))

      go : (x : Bool) → let r = list_range (list_of g x) in
          (k : ℕ) → r.from ≤ k → k < range_end r → get_or began k 0 ≡ get_or mem k 0
      go true k a b = word 1 k (omega arith) (record { from = a; below = omega arith })
      go false k a b = word 0 k (omega arith) (record { from = a; below = omega arith })
