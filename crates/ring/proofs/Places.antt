-- Places and ages in a circle, over any size: each is found again from the other. All reasoning on remainders is here.
-- Assumes nothing.
use mathlib.Core.Path.{◌≡◌, refl, sym, ap, ◌∙◌}
use mathlib.Core.Logic.{◌⊎◌, inl, inr}
use mathlib.Core.Bool.{Bool, true, false}
use Prim.Native.Nat.{ℕ, zero, suc, ◌+◌, ◌-◌, ◌%◌, ◌≤◌, ◌<◌, max}
use native.Mathlib.Nat.{mod-lt, mod-zero, mod-eq_of_lt, mod-eq-sub-mod, mod-add-mod, add-mod_right, add_assoc, zero-add}
use native.Mathlib.Omega.{arith}
use lib.Dec.{ltb}
use borrow.Author.Tests.{ltb-true, ltb-false}
use Rattle.ring.specs.Rings.{Fit, place_after, put_place, overwritten, age, released_through, released}
use Rattle.ring.specs.declared.Ring.{Ring}

-- a number below two turns is its remainder, or one turn more
abbrev Wrap : ℕ → ℕ → Type 0
Wrap size n = ((n < size) × (n % size ≡ n)) ⊎ ((size ≤ n) × (n % size + size ≡ n) × (n % size < max 1 size))

wrap : (size n : ℕ) → n < max 1 size + size → Wrap size n
wrap zero n h = let z : n ≡ 0 = omega arith in inr (omega arith, omega (arith, mod-zero n), omega (arith, mod-zero n))
wrap (suc m) n h = go (ltb n (suc m)) refl
  where
    go : (b : Bool) → ltb n (suc m) ≡ b → Wrap (suc m) n
    go true e = let l = ltb-true n (suc m) e in inl (l, mod-eq_of_lt l)
    go false e =
        let l = ltb-false n (suc m) e in
        let lo : n - suc m < suc m = omega arith in
        let q : n % suc m ≡ n - suc m = mod-eq-sub-mod l ∙ mod-eq_of_lt lo in
        inr (l, omega arith, omega arith)

module _ (r : Ring) (size : ℕ) where
  pub place_lt : (n : ℕ) → 0 < size → place_after r size n < size
  unfolding place_after
  place_lt n h = mod-lt (r.oldest + n) h

  pub age_lt : (p : ℕ) → 0 < size → age r size p < size
  unfolding age
  age_lt p h = mod-lt (p + size - r.oldest) h

  -- k places on, then i more
  pub place_released : (k i : ℕ) → place_after (released r size k) size i ≡ place_after r size (k + i)
  unfolding place_after
  place_released k i = rw (mod-add-mod, add_assoc)

  pub place_overwritten : (i : ℕ) → place_after (overwritten r size) size i ≡ place_after r size (1 + i)
  unfolding place_after
  place_overwritten i = place_released 1 i

  one_on : (k : ℕ) → (place_after r size k + 1) % size ≡ place_after r size (k + 1)
  unfolding place_after
  one_on k = place_released k 1

  -- a turn more is the same place
  pub place_round : (n : ℕ) → place_after r size (n + size) ≡ place_after r size n
  unfolding place_after
  place_round n = rw (← add_assoc, add-mod_right)

module _ (r : Ring) (size : ℕ) (fit : Fit r size) where
  pub place_zero : place_after r size 0 ≡ r.oldest
  unfolding place_after
  place_zero = go (wrap size (r.oldest + 0) (omega arith))
    where
      go : Wrap size (r.oldest + 0) → (r.oldest + 0) % size ≡ r.oldest
      go (inl e) = omega arith
      go (inr e) = omega arith

  -- also at size 0
  pub place_small : (n : ℕ) → n ≤ size → place_after r size n < max 1 size
  unfolding place_after
  place_small n h = go (wrap size (r.oldest + n) (omega arith))
    where
      go : Wrap size (r.oldest + n) → (r.oldest + n) % size < max 1 size
      go (inl e) = omega arith
      go (inr e) = omega arith

  -- a whole turn
  pub place_turn : place_after r size size ≡ r.oldest
  place_turn = ap (place_after r size) (sym (zero-add size)) ∙ place_round r size 0 ∙ place_zero

  -- a full ring puts at its oldest place
  pub put_full : r.fill ≡ size → put_place r size ≡ r.oldest
  put_full e = ap (place_after r size) e ∙ place_turn

  pub age_place : (k : ℕ) → k < size → age r size (place_after r size k) ≡ k
  unfolding place_after age
  age_place k h =
      go (wrap size (r.oldest + k) (omega arith))
      (wrap size ((r.oldest + k) % size + size - r.oldest) (omega (arith, place_lt r size k (omega arith))))
    where
      go : Wrap size (r.oldest + k) → Wrap size ((r.oldest + k) % size + size - r.oldest)
          → ((r.oldest + k) % size + size - r.oldest) % size ≡ k
      go (inl e) (inl f) = omega arith
      go (inl e) (inr f) = omega arith
      go (inr e) (inl f) = omega arith
      go (inr e) (inr f) = omega arith

  pub place_age : (p : ℕ) → p < size → place_after r size (age r size p) ≡ p
  unfolding place_after age
  place_age p h =
      go (wrap size (p + size - r.oldest) (omega arith))
      (wrap size (r.oldest + (p + size - r.oldest) % size) (omega (arith, age_lt r size p (omega arith))))
    where
      go : Wrap size (p + size - r.oldest) → Wrap size (r.oldest + (p + size - r.oldest) % size)
          → (r.oldest + (p + size - r.oldest) % size) % size ≡ p
      go (inl e) (inl f) = omega arith
      go (inl e) (inr f) = omega arith
      go (inr e) (inl f) = omega arith
      go (inr e) (inr f) = omega arith

  -- places fewer than the size apart differ
  pub place_injective : (i j : ℕ) → i < size → j < size → place_after r size i ≡ place_after r size j → i ≡ j
  place_injective i j h k e = sym (age_place i h) ∙ ap (age r size) e ∙ age_place j k

  pub age_injective : (p q : ℕ) → p < size → q < size → age r size p ≡ age r size q → p ≡ q
  age_injective p q h k e = sym (place_age p h) ∙ ap (place_after r size) e ∙ place_age q k

  pub age_oldest : 0 < size → age r size r.oldest ≡ 0
  age_oldest h = ap (age r size) (sym place_zero) ∙ age_place 0 h

  -- the place after p is one place more from the oldest
  pub place_next : (p : ℕ) → p < size → (p + 1) % size ≡ place_after r size (age r size p + 1)
  place_next p h = ap (λ (x : ℕ). (x + 1) % size) (sym (place_age p h)) ∙ one_on r size (age r size p)

  -- to give up all through p is to give up as many as p has places up to it
  pub released_through_is : (p : ℕ) → p < size → released_through r size p ≡ released r size (age r size p + 1)
  released_through_is p h = ap (λ (o : ℕ). record { oldest = o; fill = r.fill - (age r size p + 1) }) (place_next p h)

  -- to give up the oldest place alone
  pub released_oldest : 0 < size → released_through r size r.oldest ≡ released r size 1
  released_oldest h =
      released_through_is r.oldest (omega arith) ∙ ap (λ (k : ℕ). released r size (k + 1)) (age_oldest h)

  pub place_released_through : (p i : ℕ) → p < size
      → place_after (released_through r size p) size i ≡ place_after r size (age r size p + 1 + i)
  place_released_through p i h =
      ap (λ (n : Ring). place_after n size i) (released_through_is p h) ∙ place_released r size (age r size p + 1) i

  -- after a full ring's overwrite, the last place is the one that was the oldest
  pub overwritten_last : 0 < size → place_after (overwritten r size) size (size - 1) ≡ r.oldest
  overwritten_last h = place_overwritten r size (size - 1) ∙ ap (place_after r size) (omega arith) ∙ place_turn
