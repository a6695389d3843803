-- A word is what its kind's mask keeps of it exactly where each bit in no named field is 0: one law for every kind.
-- Assumes nothing.
use Prim.Native.Nat.{ℕ, zero, suc, ◌/◌, ◌%◌, ◌^◌, ◌≤◌, ◌<◌, min}
use mathlib.Core.Path.{◌≡◌, refl, sym, ap, ◌∙◌}
use mathlib.Core.Bool.{Bool, true, false, ◌&&◌, beq, and-false}
use mathlib.Core.List.{List, [], ◌∷◌}
use mathlib.Core.Logic.{◌↔◌}
use native.Mathlib.Nat.{div-eq_of_lt, lt_of_lt_of_le}
use native.Mathlib.Omega.{arith}
use borrow.Author.Tests.{eqb-false, ltb-true, ltb-false, lt-leb}
use lib.Arith.{bin_ind}
use lib.Bits.{bit_and, and_step, and_zero_l}
use lib.Dec.{T, eqb, ltb, leb, lit<}
use lib.Pow.{pow_mono}
use Rattle.words.specs.Fields.{mask_of, in_field, RestZero}
use Rattle.words.specs.Bits.{bit}
use Rattle.words.proofs.BitLaws.{bit_suc, bit_of_and}
use Rattle.words.proofs.Choices.{and_left, and_right, T_true}

low_bit : (x y : ℕ) → x < 2 → (y ≡ 0 → x ≡ 0) → min x y ≡ x
low_bit x zero h f = omega (arith, f refl)
low_bit x (suc y) h f = omega arith

-- a mask keeps a word that has none but its bits
kept : (w m : ℕ) → ((k : ℕ) → bit m k ≡ 0 → bit w k ≡ 0) → bit_and w m ≡ w
kept =
    bin_ind (λ (w : ℕ). (m : ℕ) → ((k : ℕ) → bit m k ≡ 0 → bit w k ≡ 0) → bit_and w m ≡ w)
    (λ m f. and_zero_l m)
    (λ w ih m f.
    let e : bit_and (w / 2) (m / 2) ≡ w / 2 = ih (m / 2) (λ k z. sym (bit_suc w k) ∙ f (suc k) (bit_suc m k ∙ z)) in
    let l : min (w % 2) (m % 2) ≡ w % 2 =
    low_bit (w % 2) (m % 2) (omega arith) (λ z. let g = f 0 (omega arith) in omega arith) in
    omega (arith, and_step w m))

bits_kept : (w m : ℕ) → bit_and w m ≡ w → (k : ℕ) → bit m k ≡ 0 → bit w k ≡ 0
bits_kept w m e k z = omega (arith, bit_of_and w m k, ap (λ (x : ℕ). bit x k) e)

-- a test that antt computes: below place n, the mask's bits are those in a field
unfoldable pub agrees : List (ℕ × ℕ) → ℕ → Bool
agrees fs zero = true
agrees fs (suc n) = beq (in_field fs n) (eqb (bit (mask_of fs) n) 1) && agrees fs n

unfoldable pub below32 : List (ℕ × ℕ) → Bool
below32 [] = true
below32 (f ∷ fs) = ltb f.0 32 && below32 fs

beq_eq : (a b : Bool) → T (beq a b) → a ≡ b
beq_eq true true t = refl
beq_eq true false t = absurd t
beq_eq false true t = absurd t
beq_eq false false t = refl

agree_at : (fs : List (ℕ × ℕ)) (n : ℕ) → T (agrees fs n) → (k : ℕ) → k < n → in_field fs k ≡ eqb (bit (mask_of fs) k) 1
unfolding agrees
agree_at fs zero t k h = absurd (omega arith)
agree_at fs (suc n) t k h =
    go (ltb k n) refl
    (agree_at fs n (and_right (beq (in_field fs n) (eqb (bit (mask_of fs) n) 1)) (agrees fs n) t) k)
  where
    here : in_field fs n ≡ eqb (bit (mask_of fs) n) 1
    here = beq_eq _ _ (and_left (beq (in_field fs n) (eqb (bit (mask_of fs) n) 1)) (agrees fs n) t)

    go : (b : Bool) → ltb k n ≡ b → (k < n → in_field fs k ≡ eqb (bit (mask_of fs) k) 1)
        → in_field fs k ≡ eqb (bit (mask_of fs) k) 1
    go true e ih = ih (ltb-true k n e)
    go false e ih = let l = ltb-false k n e in let q : k ≡ n = omega arith in rw q here

no_field : (fs : List (ℕ × ℕ)) → T (below32 fs) → (k : ℕ) → 32 ≤ k → in_field fs k ≡ false
unfolding below32
no_field [] t k h = refl
no_field (f ∷ fs) t k h =
    let l = ltb-true f.0 32 (T_true _ (and_left (ltb f.0 32) (below32 fs) t)) in
    let z : leb k f.0 ≡ false = lt-leb k f.0 (omega arith) in
    rw (z, and-false) (no_field fs (and_right (ltb f.0 32) (below32 fs) t) k h)

-- one law for every kind: the three tests compute at a list of fields
module _ (fs : List (ℕ × ℕ)) (agree : T (agrees fs 32)) (fields : T (below32 fs))
    (mask : T (ltb (mask_of fs) (2 ^ 32))) where
  mask_off : (k : ℕ) → in_field fs k ≡ false → bit (mask_of fs) k ≡ 0
  mask_off k z = go (ltb k 32) refl
    where
      go : (b : Bool) → ltb k 32 ≡ b → bit (mask_of fs) k ≡ 0
      go true e =
          let n = eqb-false (bit (mask_of fs) k) 1 (sym (agree_at fs 32 agree k (ltb-true k 32 e)) ∙ z) in omega arith
      go false e = ap (λ (x : ℕ). x % 2) (div-eq_of_lt (lt_of_lt_of_le (lit< mask) (pow_mono (ltb-false k 32 e))))

  rest_off : (k : ℕ) → bit (mask_of fs) k ≡ 0 → in_field fs k ≡ false
  rest_off k z = go (ltb k 32) refl
    where
      go : (b : Bool) → ltb k 32 ≡ b → in_field fs k ≡ false
      go true e = agree_at fs 32 agree k (ltb-true k 32 e) ∙ ap (λ (x : ℕ). eqb x 1) z
      go false e = no_field fs fields k (ltb-false k 32 e)

  pub unnamed : (w : ℕ) → (bit_and w (mask_of fs) ≡ w) ↔ RestZero fs w
  unnamed w = (λ e k z. bits_kept w (mask_of fs) e k (mask_off k z), λ h. kept w (mask_of fs) (λ k z. h k (rest_off k z)))
