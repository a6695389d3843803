-- Which places a ring holds: those that are fewer than its fill after the oldest.
-- Assumes nothing.
use mathlib.Core.Path.{◌≡◌, refl, sym, subst}
use mathlib.Core.Bool.{Bool, true, false, and-false}
use mathlib.Core.Logic.{◌↔◌}
use Prim.Native.Nat.{ℕ, ◌≤◌, ◌<◌}
use native.Mathlib.Omega.{arith}
use lib.Dec.{ltb}
use borrow.Author.Tests.{ltb-true, lt-ltb, le-ltb}
use Rattle.words.proofs.Choices.{and_both}
use Rattle.ring.specs.Rings.{Fit, place_after, put_place, age, held}
use Rattle.ring.specs.declared.Ring.{Ring}
use Rattle.ring.proofs.Places.{place_lt, place_zero, age_place, age_lt, place_age}

module _ (r : Ring) (size p : ℕ) where
  pub is_held : p < size → age r size p < r.fill → held r size p ≡ true
  unfolding held
  is_held h k = rw (lt-ltb p size h, lt-ltb (age r size p) r.fill k)

  pub held_inside : held r size p ≡ true → p < size
  unfolding held
  held_inside e = ltb-true p size (and_both (ltb p size) (ltb (age r size p) r.fill) e).0

  pub held_age : held r size p ≡ true → age r size p < r.fill
  unfolding held
  held_age e = ltb-true (age r size p) r.fill (and_both (ltb p size) (ltb (age r size p) r.fill) e).1

  -- no place is held that is as many places after the oldest as are held, or more
  pub free_not_held : r.fill ≤ age r size p → held r size p ≡ false
  unfolding held
  free_not_held h = rw (le-ltb (age r size p) r.fill h, and-false)

  pub empty_not_held : r.fill ≡ 0 → held r size p ≡ false
  empty_not_held e = free_not_held (omega arith)

-- two tests that each pass where the other does are the same
pub same_test : (a b : Bool) → (a ≡ true → b ≡ true) → (b ≡ true → a ≡ true) → a ≡ b
same_test true b f g = sym (f refl)
same_test false true f g = g refl
same_test false false f g = refl

module _ (r : Ring) (size : ℕ) (fit : Fit r size) where
  pub held_place : (i : ℕ) → i < r.fill → held r size (place_after r size i) ≡ true
  held_place i h =
      is_held r size (place_after r size i) (place_lt r size i (omega arith))
      (omega (arith, age_place r size fit i (omega arith)))

  -- a place is held where it is the i-th from the oldest, for an i below the fill
  pub held_index : (p : ℕ) → (held r size p ≡ true) ↔ ((i : ℕ) × ((i < r.fill) × (place_after r size i ≡ p)))
  held_index p = (
    λ e. (age r size p, (held_age r size p e, place_age r size fit p (held_inside r size p e))),
    λ w. subst (λ (q : ℕ). held r size q ≡ true) w.1.1 (held_place w.0 w.1.0),
  )

  pub oldest_held : 0 < r.fill → held r size r.oldest ≡ true
  oldest_held h = subst (λ (q : ℕ). held r size q ≡ true) (place_zero r size fit) (held_place 0 h)

  pub put_not_held : r.fill < size → held r size (put_place r size) ≡ false
  put_not_held h = free_not_held r size (put_place r size) (omega (arith, age_place r size fit r.fill h))

  -- a full ring holds every place
  pub full_held : r.fill ≡ size → (q : ℕ) → held r size q ≡ ltb q size
  unfolding held
  full_held e q = grind (arith, age_lt r size q)
