-- A store in one place of an area: what it changes, and what it leaves as it was.
-- Assumes nothing.
use Prim.Native.Nat.{ℕ, ◌+◌, ◌≤◌, ◌<◌}
use mathlib.Core.Path.{◌≡◌, refl}
use mathlib.Core.Bool.{Bool, true, false}
use mathlib.Core.List.{List}
use native.Mathlib.Nat.{mul-le-mul_right}
use native.Mathlib.Omega.{arith}
use lib.Dec.{ltb}
use lib.ListN.{length}
use borrow.Author.Tests.{ltb-true, ltb-false}
use Rattle.words.specs.Ranges.{SameIn, OnlyIn}
use Rattle.words.specs.Runs.{splice}
use Rattle.words.proofs.Parts.{part_same, part_put, part_below, part_above}
use Rattle.words.proofs.Ranges.{only_wider, splice_only}
use Rattle.places.specs.Areas.{area_range, area_end, place_in, place_range, words_at}
use Rattle.places.specs.declared.Area.{Area}

-- an element lies in its area
pub element_inside : (a : Area) (p : ℕ) → p < a.count → place_in a p + a.each ≤ area_end a
element_inside a p h = omega (arith, mul-le-mul_right a.each h)

-- the elements of an area that is as it was are as they were
pub element_kept : (a : Area) (mem next : List ℕ) → area_end a ≤ length mem → SameIn (area_range a) mem next → (p : ℕ)
    → p < a.count
    → words_at a p next ≡ words_at a p mem
element_kept a mem next r f p h =
    let e = element_inside a p h in
    part_same (place_in a p) a.each next mem (omega (arith, f.size)) (omega arith)
    (λ i l. f.within (place_in a p + i) (omega arith) (omega arith))

module _ (a : Area) (mem : List ℕ) (r : area_end a ≤ length mem) (p : ℕ) (h : p < a.count) (ws : List ℕ)
    (w : length ws ≡ a.each) where
  room : place_in a p + length ws ≤ length mem
  room = omega (arith, element_inside a p h)

  pub store_there : words_at a p (splice mem (place_in a p) ws) ≡ ws
  store_there = rw w at (part_put mem (place_in a p) ws room)

  pub store_other : (o : ℕ) → (o ≡ p → ⊥) → o < a.count → words_at a o (splice mem (place_in a p) ws) ≡ words_at a o mem
  store_other o n l = go (ltb o p) refl
    where
      go : (b : Bool) → ltb o p ≡ b → words_at a o (splice mem (place_in a p) ws) ≡ words_at a o mem
      go true e =
          let before : o < p = ltb-true o p e in
          part_below mem (place_in a p) ws room (place_in a o) a.each
          (omega (arith, mul-le-mul_right a.each before))
      go false e =
          let behind : p < o = omega (arith, ltb-false o p e) in
          part_above mem (place_in a p) ws room (place_in a o) a.each
          (omega (arith, mul-le-mul_right a.each behind)) (omega (arith, element_inside a o l))

  -- of the memory, the element's own words change, and so the area's
  pub store_own : OnlyIn (place_range a p) mem (splice mem (place_in a p) ws)
  store_own = rw w at (splice_only mem (place_in a p) ws room)

  pub store_kept : OnlyIn (area_range a) mem (splice mem (place_in a p) ws)
  store_kept =
      only_wider (area_range a) (place_range a p) mem (splice mem (place_in a p) ws) (omega arith) (element_inside a p h)
      store_own
