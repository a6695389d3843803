-- Places that are taken in turn: how many were taken tells the next one, and with the fill the oldest.
-- Assumes nothing.
use Prim.Native.Nat.{ℕ, ◌+◌, ◌-◌, ◌%◌, ◌≤◌}
use mathlib.Core.Path.{◌≡◌, sym, ap, ◌∙◌}
use native.Mathlib.Nat.{mod-add-mod, add-mod_right}
use native.Mathlib.Omega.{arith}
use Rattle.ring.specs.Rings.{Fit, place_after, put_place}
use Rattle.ring.specs.declared.Ring.{Ring}
use Rattle.ring.proofs.Places.{place_zero, place_round, place_released}

-- the place after one that is n in turn is n + 1 in turn
pub next_in_turn : (q : Ring) (size i n : ℕ) → place_after q size i ≡ n % size
    → place_after q size (i + 1) ≡ (n + 1) % size
unfolding place_after
next_in_turn q size i n e = sym (place_released q size i 1) ∙ rw e (mod-add-mod n size 1)

-- where the next place is that of the n-th in turn, the oldest place is that of the one so many before it as are held
pub oldest_in_turn : (q : Ring) (size n : ℕ) → Fit q size → put_place q size ≡ n % size → q.fill ≤ n
    → q.oldest ≡ (n - q.fill) % size
unfolding place_after
oldest_in_turn q size n fit t some =
    let f : ℕ = size - q.fill in
    let turn : 0 + size ≡ q.fill + f = omega (arith, fit.room) in
    let rest : n + f ≡ n - q.fill + size = omega (arith, fit.room) in
    sym (place_zero q size fit)
    ∙ sym (place_round q size 0)
    ∙ ap (place_after q size) turn
    ∙ sym (place_released q size q.fill f)
    ∙ ap (λ (p : ℕ). (p + f) % size) t
    ∙ mod-add-mod n size f
    ∙ ap (λ (m : ℕ). m % size) rest
    ∙ add-mod_right (n - q.fill) size
