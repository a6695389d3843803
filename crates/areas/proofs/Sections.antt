-- The engine's own sections as areas: they have the sections' words, and lie apart.
-- Assumes nothing.
use Prim.Native.Nat.{ℕ, zero, suc, ◌+◌, ◌*◌, ◌≤◌, ◌<◌}
use mathlib.Core.Path.{◌≡◌, refl}
use mathlib.Core.Bool.{Bool, true, false}
use mathlib.Core.Logic.{◌⊎◌, inl, inr}
use native.Mathlib.Omega.{arith}
use lib.Dec.{ltb}
use lib.ListN.{get_or}
use borrow.Author.Tests.{ltb-true, ltb-false}
use Rattle.words.proofs.Ranges.{apart_sym}
use Rattle.places.specs.Areas.{area_range, Apart}
use Rattle.places.specs.declared.Area.{Area}
use Rattle.registers.specs.declared.Registers.{Registers}
use Rattle.layout.specs.Legal.{Legal}
use Rattle.layout.specs.Sections.{none, sections_of}
use Rattle.layout.specs.Verdict.{end}
use Rattle.layout.specs.declared.sections.Section.{Section}
use Rattle.layout.proofs.Table.{section_words, has_within, within_has}
use Rattle.layout.proofs.Accepted.{sections_apart}
use Rattle.areas.specs.Areas.{fifo_area}
use Rattle.areas.specs.Own.{own}
use Rattle.areas.specs.Promises.{AreasAreSections, AreasLieApart}

pub own_fifo : (g : Registers) (fifo : ℕ) → fifo ≤ 1 → own g fifo ≡ fifo_area g fifo
own_fifo g zero h = refl
own_fifo g (suc zero) h = refl
own_fifo g (suc (suc k)) h = absurd (omega arith)

module _ (g : Registers) where
  pub own_start : (i : ℕ) → i < 5 → (get_or (sections_of g) (2 + i) none).start.0 ≡ (own g i).start.0
  own_start zero h = refl
  own_start (suc zero) h = refl
  own_start (suc (suc zero)) h = refl
  own_start (suc (suc (suc zero))) h = refl
  own_start (suc (suc (suc (suc zero)))) h = refl
  own_start (suc (suc (suc (suc (suc i))))) h = absurd (omega arith)

  pub own_size : (i : ℕ) → i < 5 → (get_or (sections_of g) (2 + i) none).words ≡ (own g i).count * (own g i).each
  own_size zero h = section_words _ _ _
  own_size (suc zero) h = section_words _ _ _
  own_size (suc (suc zero)) h = section_words _ _ _
  own_size (suc (suc (suc zero))) h = section_words _ _ _
  own_size (suc (suc (suc (suc zero)))) h = section_words _ _ _
  own_size (suc (suc (suc (suc (suc i))))) h = absurd (omega arith)

-- sections that lie apart are areas that do
areas_apart : (a b : Area) (s t : Section) → s.start.0 ≡ a.start.0 → s.words ≡ a.count * a.each
    → t.start.0 ≡ b.start.0 → t.words ≡ b.count * b.each
    → (end s ≤ t.start.0) ⊎ (end t ≤ s.start.0) → Apart a b
areas_apart a b s t e f p q (inl h) = inl (omega (arith, h, e, f, p))
areas_apart a b s t e f p q (inr h) = inr (omega (arith, h, e, p, q))

module _ (g : Registers) (words : ℕ) (legal : Legal g words) where
  own_before : (i j : ℕ) → i < j → j < 5 → Apart (own g i) (own g j)
  own_before i j a b =
      areas_apart (own g i) (own g j) _ _ (own_start g i (omega arith)) (own_size g i (omega arith)) (own_start g j b)
      (own_size g j b)
      (sections_apart g words legal (2 + i) (2 + j) (omega arith) (omega arith))

  pub own_apart : (i j : ℕ) → i < 5 → j < 5 → (i ≡ j → ⊥) → Apart (own g i) (own g j)
  own_apart i j a b ne = go (ltb i j) refl
    where
      go : (t : Bool) → ltb i j ≡ t → Apart (own g i) (own g j)
      go true e = own_before i j (ltb-true i j e) b
      go false e =
          apart_sym (area_range (own g j)) (area_range (own g i)) (own_before j i (omega (arith, ne, ltb-false i j e)) a)

pub areas_lie_apart : AreasLieApart
areas_lie_apart g words h i j a b ne = own_apart g words h i j a b ne

-- word k of an area is one of its section, and the other way round
pub areas_are_sections : AreasAreSections
areas_are_sections g i k l = (
  λ h. within_has g (2 + i) k
      (record {
        from = omega (arith, h.from, own_start g i l);
        below = omega (arith, h.below, own_start g i l, own_size g i l);
      }),
  λ h. let w = has_within g (2 + i) k h in
      record {
        from = omega (arith, w.from, own_start g i l);
        below = omega (arith, w.below, own_start g i l, own_size g i l);
      },
)
