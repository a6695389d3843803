-- The cases of a new element in a ring, and what is shown of them all.
-- Assumes nothing.
use Prim.Native.Nat.{ℕ, ◌≤◌, ◌<◌}
use mathlib.Core.Path.{◌≡◌, refl}
use mathlib.Core.Bool.{Bool, true, false, not, ◌||◌}
use borrow.Author.Tests.{ltb-true, ltb-false}
use native.Mathlib.Omega.{arith}
use Rattle.std.proofs.Common.{Some, None}
use lib.Dec.{eqb, ltb}
use Rattle.words.specs.Choice.{pick}
use Rattle.ring.specs.Rings.{Fit, put_place, pushed, overwritten}
use Rattle.ring.specs.declared.Ring.{Ring}
use Rattle.ring.proofs.Places.{place_lt}
use Rattle.places.specs.Slots.{take_rule}
use Rattle.places.specs.declared.Taken.{Taken}

module _ (size : ℕ) (overwrites : Bool) (q : Ring) where
  -- a ring that gives way has places, and all are held
  pub has_places : (eqb size 0 || not overwrites) ≡ false → 0 < size
  has_places z = grind arith

  pub all_held : Fit q size → size ≤ q.fill → q.fill ≡ size
  all_held f h = omega (arith, f.room)

-- what is shown of every case is shown of what becomes of it
module _ (size : ℕ) (overwrites : Bool) (q : Ring) (P : Taken → Type 0)
    (put : q.fill < size → P (record { slot = Some (put_place q size); ring = pushed q }))
    (lost : size ≤ q.fill → (eqb size 0 || not overwrites) ≡ true → P (record { slot = None; ring = q }))
    (over : size ≤ q.fill → 0 < size → (eqb size 0 || not overwrites) ≡ false
    → P (record { slot = Some q.oldest; ring = overwritten q size })) where
  pub take_cases : P (take_rule size overwrites q)
  unfolding take_rule
  take_cases = go (ltb q.fill size) refl (eqb size 0 || not overwrites) refl
    where
      go : (b : Bool) → ltb q.fill size ≡ b → (c : Bool) → (eqb size 0 || not overwrites) ≡ c
          → P
          (pick b (record { slot = Some (put_place q size); ring = pushed q })
          (pick c (record { slot = None; ring = q }) (record { slot = Some q.oldest; ring = overwritten q size })))
      go true x c y = put (ltb-true q.fill size x)
      go false x true y = lost (ltb-false q.fill size x) y
      go false x false y = over (ltb-false q.fill size x) (has_places size overwrites q y) y

-- a slot's place is one of the ring's
pub taken_within : (size : ℕ) (overwrites : Bool) (q : Ring) → Fit q size → (p : ℕ)
    → (take_rule size overwrites q).slot ≡ Some p → p < size
taken_within size overwrites q f p =
    take_cases size overwrites q (λ (t : Taken). t.slot ≡ Some p → p < size)
    (λ l e. let same : put_place q size ≡ p = cc in omega (arith, place_lt q size q.fill (omega arith)))
    (λ l z e. let n : ◌≡◌ {A = ℕ} 0 1 = cc in absurd (omega arith))
    (λ l s z e. let same : q.oldest ≡ p = cc in omega (arith, f.place))
