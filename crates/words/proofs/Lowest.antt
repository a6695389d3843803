-- The lowest number that passes a test: it passes, none below it does, and how a loop finds it.
-- Assumes nothing.
use Prim.Native.Nat.{ℕ, zero, suc, ◌+◌, ◌-◌, ◌≤◌, ◌<◌}
use mathlib.Core.Path.{◌≡◌, refl, sym, ap, ap₂, ◌∙◌}
use mathlib.Core.Bool.{Bool, true, false}
use native.Mathlib.Omega.{arith}
use borrow.Author.Tests.{eqb-true, eqb-false, ltb-true, ltb-false}
use lib.Dec.{eqb, ltb}
use Rattle.words.specs.Choice.{pick}
use Rattle.words.specs.Least.{least_from}
use Rattle.words.proofs.Choices.{pick_first, pick_second}

module _ (p : ℕ → Bool) where
  -- one step of the search
  pub least_here : (i n : ℕ) → 0 < n → p i ≡ true → least_from p i n ≡ i
  unfolding least_from
  least_here i zero h e = refl
  least_here i (suc n) h e = pick_first i (least_from p (suc i) n) e

  pub least_next : (i n : ℕ) → 0 < n → p i ≡ false → least_from p i n ≡ least_from p (i + 1) (n - 1)
  unfolding least_from
  least_next i zero h e = absurd (omega arith)
  least_next i (suc n) h e =
      let a : suc i ≡ i + 1 = omega arith in
      let b : n ≡ suc n - 1 = omega arith in
      pick_second i (least_from p (suc i) n) e ∙ ap₂ (least_from p) a b

  pub least_none : (i n : ℕ) → n ≡ 0 → least_from p i n ≡ i
  unfolding least_from
  least_none i zero h = refl
  least_none i (suc n) h = absurd (omega arith)

  pub least_from_above : (i n : ℕ) → i ≤ least_from p i n
  unfolding least_from
  least_from_above i zero = omega arith
  least_from_above i (suc n) = go (p i) (least_from_above (suc i) n)
    where
      go : (b : Bool) → suc i ≤ least_from p (suc i) n → i ≤ pick b i (least_from p (suc i) n)
      go true h = omega arith
      go false h = omega arith

  pub least_within : (i n : ℕ) → least_from p i n ≤ i + n
  unfolding least_from
  least_within i zero = omega arith
  least_within i (suc n) = go (p i) (least_within (suc i) n)
    where
      go : (b : Bool) → least_from p (suc i) n ≤ suc i + n → pick b i (least_from p (suc i) n) ≤ i + suc n
      go true h = omega arith
      go false h = omega arith

  pub least_passes : (i n : ℕ) → least_from p i n < i + n → p (least_from p i n) ≡ true
  unfolding least_from
  least_passes i zero h = absurd (omega arith)
  least_passes i (suc n) h = go (p i) refl h (least_passes (suc i) n)
    where
      go : (b : Bool) → p i ≡ b → pick b i (least_from p (suc i) n) < i + suc n
          → (least_from p (suc i) n < suc i + n → p (least_from p (suc i) n) ≡ true)
          → p (pick b i (least_from p (suc i) n)) ≡ true
      go true e l ih = e
      go false e l ih = ih (omega arith)

  pub least_below : (i n k : ℕ) → i ≤ k → k < least_from p i n → p k ≡ false
  unfolding least_from
  least_below i zero k a h = absurd (omega arith)
  least_below i (suc n) k a h = go (p i) refl h (least_below (suc i) n k)
    where
      go : (b : Bool) → p i ≡ b → k < pick b i (least_from p (suc i) n)
          → (suc i ≤ k → k < least_from p (suc i) n → p k ≡ false) → p k ≡ false
      go true e l ih = absurd (omega arith)
      go false e l ih = near (eqb i k) refl
        where
          near : (c : Bool) → eqb i k ≡ c → p k ≡ false
          near true f = sym (ap p (eqb-true i k f)) ∙ e
          near false f = ih (omega (arith, eqb-false i k f)) l

  -- a number that passes, with none below it that does, is the lowest
  pub least_is : (i n k : ℕ) → i ≤ k → k < i + n → p k ≡ true → ((j : ℕ) → i ≤ j → j < k → p j ≡ false)
      → least_from p i n ≡ k
  least_is i n k a b e none = go (ltb (least_from p i n) k) refl
    where
      go : (c : Bool) → ltb (least_from p i n) k ≡ c → least_from p i n ≡ k
      go true f =
          let l = ltb-true (least_from p i n) k f in
          let z : true ≡ false = sym (least_passes i n (omega arith)) ∙ none (least_from p i n) (least_from_above i n) l in
          cc
      go false f = last (ltb k (least_from p i n)) refl
        where
          last : (d : Bool) → ltb k (least_from p i n) ≡ d → least_from p i n ≡ k
          last true g = let z : true ≡ false = sym e ∙ least_below i n k a (ltb-true k (least_from p i n) g) in cc
          last false g = omega (arith, ltb-false (least_from p i n) k f, ltb-false k (least_from p i n) g)

  -- where none passes, there is none
  pub least_absent : (i n : ℕ) → ((j : ℕ) → i ≤ j → j < i + n → p j ≡ false) → least_from p i n ≡ i + n
  least_absent i n none = go (ltb (least_from p i n) (i + n)) refl
    where
      go : (c : Bool) → ltb (least_from p i n) (i + n) ≡ c → least_from p i n ≡ i + n
      go true f =
          let l = ltb-true (least_from p i n) (i + n) f in
          let z : true ≡ false = sym (least_passes i n l) ∙ none (least_from p i n) (least_from_above i n) l in
          cc
      go false f = omega (arith, ltb-false (least_from p i n) (i + n) f, least_within i n)

-- a loop that looks at i, i + 1, .. below n: what it looks for is the lowest of those that are left
pub look_start : (p : ℕ → Bool) (n : ℕ) → least_from p 0 n ≡ least_from p 0 (n - 0)
look_start p n = let e : n ≡ n - 0 = omega arith in ap (least_from p 0) e

module _ (p : ℕ → Bool) (whole i n : ℕ) (left : whole ≡ least_from p i (n - i)) where
  pub look_found : i < n → p i ≡ true → i ≡ whole
  look_found h e = sym (left ∙ least_here p i (n - i) (omega arith) e)

  pub look_on : i < n → p i ≡ false → whole ≡ least_from p (i + 1) (n - (i + 1))
  look_on h e =
      let m : n - i - 1 ≡ n - (i + 1) = omega arith in
      left ∙ least_next p i (n - i) (omega arith) e ∙ ap (least_from p (i + 1)) m

  pub look_done : i ≤ n → n ≤ i → n ≡ whole
  look_done h l = let e : n ≡ i = omega arith in e ∙ sym (left ∙ least_none p i (n - i) (omega arith))

-- two tests that agree have the same lowest number
pub least_same : (p q : ℕ → Bool) (i n : ℕ) → ((k : ℕ) → i ≤ k → k < i + n → p k ≡ q k)
    → least_from p i n ≡ least_from q i n
unfolding least_from
least_same p q i zero h = refl
least_same p q i (suc n) h =
    ap (λ (b : Bool). pick b i (least_from p (suc i) n)) (h i (omega arith) (omega arith))
    ∙ ap (pick (q i) i) (least_same p q (suc i) n (λ k a b. h k (omega arith) (omega arith)))
