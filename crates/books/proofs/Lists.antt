-- The laws of tallies, of those that pass a test, of what is true of each, and of numbers that count up or rise.
-- Assumes nothing.
use Prim.Native.Nat.{ℕ, zero, suc, ◌+◌, ◌≤◌, ◌<◌}
use mathlib.Core.Path.{◌≡◌, refl, sym, ap, ◌∙◌}
use mathlib.Core.Bool.{Bool, true, false, not}
use mathlib.Core.List.{List, [], ◌∷◌, ◌++◌, map}
use native.Mathlib.Omega.{arith}
use lib.ListN.{length, take, drop, get_or, take-append-drop}
use borrow.Author.Tests.{ne_eqb}
use Rattle.words.specs.Choice.{pick}
use Rattle.books.specs.Lists.{tally, those, others, Each, is_number, Numbered, Rising}

module _ {A : Type 0} where
  pub length_snoc : (xs : List A) (x : A) → length (xs ++ x ∷ []) ≡ suc (length xs)
  length_snoc [] x = refl
  length_snoc (y ∷ xs) x = ap suc (length_snoc xs x)

  -- ---- what is true of each

  pub each_index : (P : A → Type 0) (d : A) (xs : List A) → ((i : ℕ) → i < length xs → P (get_or xs i d)) → Each P xs
  each_index P d [] f = tt
  each_index P d (x ∷ xs) f = (f 0 (omega arith), each_index P d xs (λ i h. f (suc i) (omega arith)))

  pub each_first : (P : A → Type 0) (d : A) (xs : List A) → 0 < length xs → Each P xs → P (get_or xs 0 d)
  each_first P d [] h e = absurd (omega arith)
  each_first P d (x ∷ xs) h e = e.0

  pub each_snoc : (P : A → Type 0) (xs : List A) (x : A) → Each P xs → P x → Each P (xs ++ x ∷ [])
  each_snoc P [] x e p = (p, tt)
  each_snoc P (y ∷ xs) x e p = (e.0, each_snoc P xs x e.1 p)

  pub each_map : (P Q : A → Type 0) (xs : List A) → ((x : A) → P x → Q x) → Each P xs → Each Q xs
  each_map P Q [] f e = tt
  each_map P Q (x ∷ xs) f e = (f x e.0, each_map P Q xs f e.1)

  -- ---- tallies, and those that pass

  module _ (q : A → Bool) where
    pub tally_one : (x : A) → tally q (x ∷ []) ≡ pick (q x) 1 0
    unfolding tally
    tally_one x = omega arith

    pub tally_append : (xs ys : List A) → tally q (xs ++ ys) ≡ tally q xs + tally q ys
    unfolding tally
    tally_append [] ys = omega arith
    tally_append (x ∷ xs) ys = omega (arith, tally_append xs ys)

    pub tally_cut : (n : ℕ) (xs : List A) → tally q (take n xs) + tally q (drop n xs) ≡ tally q xs
    tally_cut n xs = sym (tally_append (take n xs) (drop n xs)) ∙ ap (tally q) (take-append-drop n xs)

    pub tally_some : (d : A) (xs : List A) (i : ℕ) → i < length xs → q (get_or xs i d) ≡ true → 0 < tally q xs
    unfolding tally
    tally_some d [] i h y = absurd (omega arith)
    tally_some d (x ∷ xs) zero h y = rw y (omega arith)
    tally_some d (x ∷ xs) (suc i) h y = omega (arith, tally_some d xs i (omega arith) y)

    pub those_one : (x : A) → those q (x ∷ []) ≡ pick (q x) (x ∷ []) []
    unfolding those
    those_one x = refl

    pub those_append : (xs ys : List A) → those q (xs ++ ys) ≡ those q xs ++ those q ys
    unfolding those
    those_append [] ys = refl
    those_append (x ∷ xs) ys = grind (arith, those_append xs ys)

    pub length_those : (xs : List A) → length (those q xs) ≡ tally q xs
    unfolding tally those
    length_those [] = refl
    length_those (x ∷ xs) = grind (arith, length_those xs)

    pub those_all : (xs : List A) → Each (λ x. q x ≡ true) xs → those q xs ≡ xs
    unfolding those
    those_all [] e = refl
    those_all (x ∷ xs) e = rw e.0 (ap (λ (r : List A). x ∷ r) (those_all xs e.1))

    pub those_none : (xs : List A) → Each (λ x. q x ≡ false) xs → those q xs ≡ []
    unfolding those
    those_none [] e = refl
    those_none (x ∷ xs) e = rw e.0 (those_none xs e.1)

    pub tally_all : (xs : List A) → Each (λ x. q x ≡ true) xs → tally q xs ≡ length xs
    tally_all xs e = sym (length_those xs) ∙ ap length (those_all xs e)

    pub tally_none : (xs : List A) → Each (λ x. q x ≡ false) xs → tally q xs ≡ 0
    tally_none xs e = sym (length_those xs) ∙ ap length (those_none xs e)

    -- those that pass do, and what is true of each is true of them
    pub each_passes : (xs : List A) → Each (λ x. q x ≡ true) (those q xs)
    unfolding those
    each_passes [] = tt
    each_passes (x ∷ xs) = grind (arith, each_passes xs)

    pub each_those : (P : A → Type 0) (xs : List A) → Each P xs → Each P (those q xs)
    unfolding those
    each_those P [] e = tt
    each_those P (x ∷ xs) e = grind (arith, each_those P xs)

    -- where none passes, what follows for those that do not
    pub each_unless : (P Q : A → Type 0) (xs : List A) → tally q xs ≡ 0
        → ((x : A) → q x ≡ false → P x → Q x) → Each P xs → Each Q xs
    unfolding tally
    each_unless P Q [] z f e = tt
    each_unless P Q (x ∷ xs) z f e = grind (arith, each_unless P Q xs)

  -- ---- two tests

  module _ (q p : A → Bool) where
    pub tally_split : (xs : List A) → tally q (those p xs) + tally q (others p xs) ≡ tally q xs
    unfolding tally those
    tally_split [] = refl
    tally_split (x ∷ xs) = grind (arith, tally_split xs)

    pub those_those : (xs : List A) → those q (those p xs) ≡ those p (those q xs)
    unfolding those
    those_those [] = refl
    those_those (x ∷ xs) = grind (arith, those_those xs)

  -- none that passes p passes q
  module _ (q p : A → Bool) (apart : (x : A) → p x ≡ true → q x ≡ false) (xs : List A) where
    none_both : Each (λ x. q x ≡ false) (those p xs)
    none_both = each_map (λ x. p x ≡ true) (λ x. q x ≡ false) (those p xs) apart (each_passes p xs)

    pub those_both : those q (those p xs) ≡ []
    those_both = those_none q (those p xs) none_both

    pub tally_both : tally q (those p xs) ≡ 0
    tally_both = tally_none q (those p xs) none_both

    pub those_apart : those q (others p xs) ≡ those q xs
    those_apart =
        those_those q (λ x. not (p x)) xs
        ∙ those_all (λ x. not (p x)) (those q xs)
        (each_map (λ x. q x ≡ true) (λ x. not (p x) ≡ true) (those q xs) (λ x. go (p x) (apart x)) (each_passes q xs))
      where
        go : {x : A} (t : Bool) → (t ≡ true → q x ≡ false) → q x ≡ true → not t ≡ true
        go true f y = sym (f refl) ∙ y
        go false f y = refl

-- ---- members seen by what f gives of them

module _ {A B : Type 0} (f : A → B) (q : B → Bool) where
  pub tally_seen : (xs : List A) → tally q (map f xs) ≡ tally (λ x. q (f x)) xs
  unfolding tally
  tally_seen [] = refl
  tally_seen (x ∷ xs) = ap (λ (n : ℕ). pick (q (f x)) 1 0 + n) (tally_seen xs)

  none_seen : (xs : List A) → Each (λ y. q y ≡ false) (map f xs) → Each (λ x. q (f x) ≡ false) xs
  none_seen [] e = tt
  none_seen (x ∷ xs) e = (e.0, none_seen xs e.1)

  -- the first passes, and none behind it
  module _ (d : B) where
    pub those_first : (xs : List A) → q (get_or (map f xs) 0 d) ≡ true → Each (λ y. q y ≡ false) (drop 1 (map f xs))
        → those (λ x. q (f x)) xs ≡ take 1 xs
    unfolding those
    those_first [] y e = refl
    those_first (x ∷ xs) y e = rw y (ap (λ (r : List A). x ∷ r) (those_none (λ x. q (f x)) xs (none_seen xs e)))

    pub others_first : (xs : List A) → q (get_or (map f xs) 0 d) ≡ true → Each (λ y. q y ≡ false) (drop 1 (map f xs))
        → others (λ x. q (f x)) xs ≡ drop 1 xs
    unfolding those
    others_first [] y e = refl
    others_first (x ∷ xs) y e =
        rw y
        (those_all (λ x. not (q (f x))) xs
        (each_map (λ x. q (f x) ≡ false) (λ x. not (q (f x)) ≡ true) xs (λ x n. ap not n) (none_seen xs e)))

-- ---- numbers

module _ {A : Type 0} (number : A → ℕ) where
  pub numbered_snoc : (lo : ℕ) (xs : List A) (x : A) → Numbered number lo xs → number x ≡ lo + length xs
      → Numbered number lo (xs ++ x ∷ [])
  numbered_snoc lo [] x s h = (omega arith, tt)
  numbered_snoc lo (y ∷ xs) x s h = (s.0, numbered_snoc (suc lo) xs x s.1 (omega arith))

  -- a number below the count is nobody's, one inside it exactly one's
  numbered_below : (lo : ℕ) (xs : List A) (n : ℕ) → Numbered number lo xs → n < lo → tally (is_number number n) xs ≡ 0
  unfolding tally
  numbered_below lo [] n s h = refl
  numbered_below lo (x ∷ xs) n s h =
      rw (ne_eqb (number x) n (omega arith)) (omega (arith, numbered_below (suc lo) xs n s.1 (omega arith)))

  pub numbered_once : (lo : ℕ) (xs : List A) (n : ℕ) → Numbered number lo xs → lo ≤ n → n < lo + length xs
      → tally (is_number number n) xs ≡ 1
  unfolding tally
  numbered_once lo [] n s h l = absurd (omega arith)
  numbered_once lo (x ∷ xs) n s h l = grind (arith, numbered_once (suc lo) xs n s.1, numbered_below (suc lo) xs n s.1)

  pub rising_snoc : (lo : ℕ) (xs : List A) (x : A) (hi : ℕ) → Rising number lo xs hi → hi ≤ number x
      → Rising number lo (xs ++ x ∷ []) (suc (number x))
  rising_snoc lo [] x hi r h = (omega arith, omega arith)
  rising_snoc lo (y ∷ xs) x hi r h = (r.0, rising_snoc (suc (number y)) xs x hi r.1 h)

  pub rising_wider : (lo lo' : ℕ) (xs : List A) (hi hi' : ℕ) → lo' ≤ lo → hi ≤ hi'
      → Rising number lo xs hi → Rising number lo' xs hi'
  rising_wider lo lo' [] hi hi' a b r = omega arith
  rising_wider lo lo' (x ∷ xs) hi hi' a b r =
      let n = suc (number x) in (omega arith, rising_wider n n xs hi hi' (omega arith) b r.1)

  -- with some taken out of the middle
  pub rising_cut : (lo : ℕ) (xs ys : List A) (hi n : ℕ) → Rising number lo (xs ++ ys) hi
      → Rising number lo (xs ++ drop n ys) hi
  rising_cut lo [] ys hi zero r = r
  rising_cut lo [] [] hi (suc n) r = r
  rising_cut lo [] (y ∷ ys) hi (suc n) r =
      rising_cut lo [] ys hi n (rising_wider (suc (number y)) lo ys hi hi (omega arith) (omega arith) r.1)
  rising_cut lo (x ∷ xs) ys hi n r = (r.0, rising_cut (suc (number x)) xs ys hi n r.1)
