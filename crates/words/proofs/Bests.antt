-- The best of some candidates: it is one, none is better, it is the only such one, and how a loop finds it.
-- Assumes nothing.
use Prim.Native.Nat.{ℕ, zero, suc, ◌+◌, ◌≤◌, ◌<◌}
use mathlib.Core.Path.{◌≡◌, refl, sym, ap, ◌∙◌}
use mathlib.Core.Bool.{Bool, true, false}
use mathlib.Core.Logic.{◌↔◌, inl, inr}
use native.Mathlib.Numerals.{add-one}
use native.Mathlib.Omega.{arith}
use borrow.Author.Tests.{ltb-true, ltb-false, eqb-true, eqb-false}
use lib.Dec.{ltb, eqb}
use Rattle.words.specs.Best.{Best, nobody, somebody, better, best_below, AsGood, Wins, NoneBelow}
use Rattle.words.specs.Choice.{pick}

-- what holds of the best below n
abbrev pub IsBest : (ℕ → Bool) → (ℕ → ℕ) → ℕ → Best → Type 0
IsBest candidate rank n nobody = NoneBelow candidate n
IsBest candidate rank n (somebody b) = Wins candidate rank n b

module _ (candidate : ℕ → Bool) (rank : ℕ → ℕ) where
  -- a number more
  none_more : (n : ℕ) → NoneBelow candidate n → candidate n ≡ false → NoneBelow candidate (suc n)
  none_more n h e k l = go (eqb k n) refl
    where
      go : (c : Bool) → eqb k n ≡ c → candidate k ≡ false
      go true f = ap candidate (eqb-true k n f) ∙ e
      go false f = h k (omega (arith, eqb-false k n f))

  still : (n b : ℕ) → Wins candidate rank n b → (candidate n ≡ true → AsGood rank b n) → Wins candidate rank (suc n) b
  still n b w g = record { below = omega (arith, w.below); one = w.one; best = λ k l e. go k l e (eqb k n) refl }
    where
      go : (k : ℕ) → k < suc n → candidate k ≡ true → (c : Bool) → eqb k n ≡ c → AsGood rank b k
      go k l e true f = let q = eqb-true k n f in rw q (g (sym (ap candidate q) ∙ e))
      go k l e false f = w.best k (omega (arith, eqb-false k n f)) e

  first_one : (n : ℕ) → NoneBelow candidate n → candidate n ≡ true → Wins candidate rank (suc n) n
  first_one n h e = record { below = omega arith; one = e; best = λ k l t. go k l t (eqb k n) refl }
    where
      go : (k : ℕ) → k < suc n → candidate k ≡ true → (c : Bool) → eqb k n ≡ c → AsGood rank n k
      go k l t true f = let q = eqb-true k n f in inr (ap rank (sym q), omega arith)
      go k l t false f =
          let z : true ≡ false = sym t ∙ h k (omega (arith, eqb-false k n f)) in
          absurd (let y : ◌≡◌ {A = ℕ} 0 1 = cc in omega arith)

  overtaken : (n b : ℕ) → Wins candidate rank n b → candidate n ≡ true → rank n < rank b → Wins candidate rank (suc n) n
  overtaken n b w e h = record { below = omega arith; one = e; best = λ k l t. go k l t (eqb k n) refl }
    where
      go : (k : ℕ) → k < suc n → candidate k ≡ true → (c : Bool) → eqb k n ≡ c → AsGood rank n k
      go k l t true f = let q = eqb-true k n f in inr (ap rank (sym q), omega arith)
      go k l t false f = near (w.best k (omega (arith, eqb-false k n f)) t)
        where
          near : AsGood rank b k → AsGood rank n k
          near (inl a) = inl (omega arith)
          near (inr a) = inl (omega (arith, a.0))

  step : (n : ℕ) (m : Best) → IsBest candidate rank n m → (c : Bool) → candidate n ≡ c
      → IsBest candidate rank (suc n) (pick c (better rank m n) m)
  step n nobody h true e = first_one n h e
  step n nobody h false e = none_more n h e
  step n (somebody b) h true e = go (ltb (rank n) (rank b)) refl
    where
      go : (c : Bool) → ltb (rank n) (rank b) ≡ c → IsBest candidate rank (suc n) (pick c (somebody n) (somebody b))
      go true f = overtaken n b h e (ltb-true (rank n) (rank b) f)
      go false f = still n b h (λ t. near (eqb (rank b) (rank n)) refl)
        where
          near : (c : Bool) → eqb (rank b) (rank n) ≡ c → AsGood rank b n
          near true g = inr (eqb-true (rank b) (rank n) g, omega (arith, h.below))
          near false g = inl (omega (arith, ltb-false (rank n) (rank b) f, eqb-false (rank b) (rank n) g))
  step n (somebody b) h false e =
      still n b h (λ t. let z : true ≡ false = sym t ∙ e in absurd (let y : ◌≡◌ {A = ℕ} 0 1 = cc in omega arith))

  pub is_best : (n : ℕ) → IsBest candidate rank n (best_below candidate rank n)
  unfolding best_below
  is_best zero = λ k l. absurd (omega arith)
  is_best (suc n) = step n (best_below candidate rank n) (is_best n) (candidate n) refl

  -- the best is a candidate, and none is better
  pub best_wins : (n b : ℕ) → best_below candidate rank n ≡ somebody b → Wins candidate rank n b
  best_wins n b e = rw e at (is_best n)

  -- there is none exactly where no number is a candidate
  pub best_none : (n : ℕ) → (best_below candidate rank n ≡ nobody) ↔ NoneBelow candidate n
  best_none n = (λ e. rw e at (is_best n), back (best_below candidate rank n) refl)
    where
      back : (m : Best) → best_below candidate rank n ≡ m → NoneBelow candidate n → m ≡ nobody
      back nobody e h = refl
      back (somebody b) e h = let z : true ≡ false = sym (best_wins n b e).one ∙ h b (best_wins n b e).below in cc

  -- of two that win, neither has the smaller rank or number
  wins_once : (n a b : ℕ) → Wins candidate rank n a → Wins candidate rank n b → a ≡ b
  wins_once n a b v w = go (v.best b w.below w.one) (w.best a v.below v.one)
    where
      go : AsGood rank a b → AsGood rank b a → a ≡ b
      go (inl p) (inl q) = absurd (omega arith)
      go (inl p) (inr q) = absurd (omega (arith, q.0))
      go (inr p) (inl q) = absurd (omega (arith, p.0))
      go (inr p) (inr q) = omega (arith, p.1, q.1)

  -- whatever is best is the best
  pub best_only : (n : ℕ) (m : Best) → IsBest candidate rank n m → best_below candidate rank n ≡ m
  best_only n m h = go (best_below candidate rank n) m (is_best n) h
    where
      go : (x y : Best) → IsBest candidate rank n x → IsBest candidate rank n y → x ≡ y
      go nobody nobody p q = refl
      go nobody (somebody b) p q = let z : true ≡ false = sym q.one ∙ p b q.below in cc
      go (somebody a) nobody p q = let z : true ≡ false = sym p.one ∙ q a p.below in cc
      go (somebody a) (somebody b) p q = ap somebody (wins_once n a b p q)

  -- a loop that looks at 0, 1, .. has the best of those that it passed
  pub best_start : nobody ≡ best_below candidate rank 0
  unfolding best_below
  best_start = refl

  module _ (i : ℕ) (m : Best) (so : m ≡ best_below candidate rank i) where
    pub best_turn : (next : Best) → next ≡ pick (candidate i) (better rank m i) m
        → next ≡ best_below candidate rank (i + 1)
    unfolding best_below
    best_turn next e = e ∙ rw (so, add-one)

    pub best_done : (n : ℕ) → i ≤ n → n ≤ i → m ≡ best_below candidate rank n
    best_done n h l = so ∙ ap (best_below candidate rank) (omega arith)

-- the same candidates with the same ranks have the same best
pub best_same : (c d : ℕ → Bool) (rank other : ℕ → ℕ) (n : ℕ) → ((k : ℕ) → k < n → c k ≡ d k)
    → ((k : ℕ) → k < n → c k ≡ true → rank k ≡ other k)
    → best_below c rank n ≡ best_below d other n
best_same c d rank other n p q = best_only c rank n (best_below d other n) (go (best_below d other n) (is_best d other n))
  where
    go : (m : Best) → IsBest d other n m → IsBest c rank n m
    go nobody h = λ k l. p k l ∙ h k l
    go (somebody b) h =
        record { below = h.below; one = one; best = λ k l e. good k l e (h.best k l (sym (p k l) ∙ e)) }
      where
        one : c b ≡ true
        one = p b h.below ∙ h.one

        good : (k : ℕ) → k < n → c k ≡ true → AsGood other b k → AsGood rank b k
        good k l e (inl a) = inl (omega (arith, q b h.below one, q k l e))
        good k l e (inr a) = inr (q b h.below one ∙ a.0 ∙ sym (q k l e), a.1)
