-- What fits a size: the test and the record say the same, and each move keeps it.
-- Assumes nothing.
use mathlib.Core.Path.{◌≡◌, sym, subst}
use mathlib.Core.Bool.{true}
use Prim.Native.Nat.{ℕ, ◌+◌, ◌^◌, ◌≤◌, ◌<◌, max}
use native.Mathlib.Omega.{arith}
use lib.Dec.{ltb, leb}
use borrow.Author.Tests.{ltb-true, leb-true, lt-ltb, le-leb}
use Rattle.words.proofs.Choices.{and_both}
use Rattle.ring.specs.Rings.{Fit, fits, none_held, pushed, overwritten, age, held, released_through, released}
use Rattle.ring.specs.declared.Ring.{Ring}
use Rattle.ring.proofs.Places.{place_small, released_through_is}
use Rattle.ring.proofs.Holding.{held_inside, held_age}

pub fit_of_fits : (r : Ring) (size : ℕ) → size < 2 ^ 31 → fits r size ≡ true → Fit r size
unfolding fits
fit_of_fits r size h e =
    let b = and_both (ltb r.oldest (max 1 size)) (leb r.fill size) e in
    record { small = h; place = ltb-true r.oldest (max 1 size) b.0; room = leb-true r.fill size b.1 }

pub fits_of_fit : (r : Ring) (size : ℕ) → Fit r size → fits r size ≡ true
unfolding fits
fits_of_fit r size fit = rw (lt-ltb r.oldest (max 1 size) fit.place, le-leb r.fill size fit.room)

pub fit_none : (size : ℕ) → size < 2 ^ 31 → Fit none_held size
fit_none size h = record { small = h; place = omega arith; room = omega arith }

module _ (r : Ring) (size : ℕ) (fit : Fit r size) where
  pub fit_pushed : r.fill < size → Fit (pushed r) size
  fit_pushed h = record { small = fit.small; place = fit.place; room = omega arith }

  pub fit_overwritten : 0 < size → Fit (overwritten r size) size
  fit_overwritten h = record { small = fit.small; place = place_small r size fit 1 h; room = fit.room }

  pub fit_released : (k : ℕ) → k ≤ r.fill → Fit (released r size k) size
  fit_released k h = record { small = fit.small; place = place_small r size fit k (omega arith); room = omega arith }

  pub fit_released_through : (p : ℕ) → held r size p ≡ true → Fit (released_through r size p) size
  fit_released_through p e =
      subst (λ (n : Ring). Fit n size) (sym (released_through_is r size fit p (held_inside r size p e)))
      (fit_released (age r size p + 1) (omega (arith, held_age r size p e)))
