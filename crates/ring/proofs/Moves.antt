-- What each move does to the places that are held: place i of the new ring is place i, 1 + i or k + i of the old.
-- Assumes nothing.
use mathlib.Core.Path.{◌≡◌, refl, sym, ap, ◌∙◌}
use mathlib.Core.Bool.{true, ◌&&◌, ◌||◌, not}
use Prim.Native.Nat.{ℕ, ◌+◌, ◌-◌, ◌≤◌, ◌<◌}
use native.Mathlib.Numerals.{add-one}
use native.Mathlib.Omega.{arith}
use lib.Dec.{ltb, leb, eqb}
use Rattle.ring.specs.Rings.{Fit, place_after, put_place, pushed, overwritten, age, held, released_through, released}
use Rattle.ring.specs.declared.Ring.{Ring}
use Rattle.ring.proofs.Places.{place_lt, age_lt, place_released, place_round, place_age, age_place, age_oldest}
use Rattle.ring.proofs.Places.{age_injective, released_through_is}
use Rattle.ring.proofs.Holding.{held_inside, held_age, full_held}
use Rattle.ring.proofs.Fitness.{fit_overwritten, fit_released}

pub place_pushed : (r : Ring) (size i : ℕ) → place_after (pushed r) size i ≡ place_after r size i
unfolding place_after
place_pushed r size i = refl

pub age_pushed : (r : Ring) (size q : ℕ) → age (pushed r) size q ≡ age r size q
unfolding age
age_pushed r size q = refl

module _ (r : Ring) (size : ℕ) (fit : Fit r size) where
  -- a place is held after a push where it was, or is the put place
  pub held_pushed : r.fill < size → (q : ℕ) → held (pushed r) size q ≡ (held r size q || eqb q (put_place r size))
  unfolding held
  held_pushed h q = grind (arith, place_age r size fit q, age_place r size fit r.fill h, age_pushed r size q, place_lt)

  -- after an overwrite every place is held
  pub held_overwritten : 0 < size → r.fill ≡ size → (q : ℕ) → held (overwritten r size) size q ≡ ltb q size
  held_overwritten h e q = full_held (overwritten r size) size (fit_overwritten r size fit h) e q

  module _ (k : ℕ) (h : k ≤ r.fill) (q : ℕ) (l : q < size) where
    -- what is kept is k places nearer to the oldest
    pub age_kept : k ≤ age r size q → age (released r size k) size q ≡ age r size q - k
    age_kept a =
        ap (age (released r size k) size)
        (sym
        (place_released r size k (age r size q - k)
        ∙ ap (place_after r size) (omega arith)
        ∙ place_age r size fit q l))
        ∙ age_place (released r size k) size (fit_released r size fit k h) (age r size q - k)
        (omega (arith, age_lt r size q (omega arith)))

    -- what is given up is as far away as it can be
    pub age_given_up : age r size q < k → age (released r size k) size q ≡ age r size q + size - k
    age_given_up a =
        ap (age (released r size k) size)
        (sym
        (place_released r size k (age r size q + size - k)
        ∙ ap (place_after r size) (omega arith)
        ∙ place_round r size (age r size q)
        ∙ place_age r size fit q l))
        ∙ age_place (released r size k) size (fit_released r size fit k h) (age r size q + size - k) (omega arith)

  -- of those held, the ones that are k places or more after the oldest stay
  pub held_released : (k : ℕ) → k ≤ r.fill → (q : ℕ)
      → held (released r size k) size q ≡ (held r size q && leb k (age r size q))
  unfolding held
  held_released k h q = grind (arith, age_kept k h q, age_given_up k h q, age_lt r size q)

  -- of those held, the ones after p stay
  pub held_released_through : (p : ℕ) → held r size p ≡ true → (q : ℕ)
      → held (released_through r size p) size q ≡ (held r size q && ltb (age r size p) (age r size q))
  held_released_through p e q =
      ap (λ (n : Ring). held n size q) (released_through_is r size fit p (held_inside r size p e))
      ∙ held_released (age r size p + 1) (omega (arith, held_age r size p e)) q
      ∙ ap (λ (n : ℕ). held r size q && leb n (age r size q)) (add-one (age r size p))

  -- of those held, all but the oldest stay
  pub held_released_oldest : 0 < r.fill → (q : ℕ)
      → held (released r size 1) size q ≡ (held r size q && not (eqb q r.oldest))
  held_released_oldest h q =
      grind (
        arith,
        held_released 1 h q,
        age_oldest r size fit,
        age_injective r size fit q r.oldest,
        held_inside r size q,
      )
