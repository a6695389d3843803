-- The number of set bits of a word is how many of its bits are set.
-- Assumes nothing.
use mathlib.Core.Path.{◌≡◌, refl, sym, ap, ap₂, ◌∙◌}
use mathlib.Core.Bool.{Bool}
use Prim.Native.Nat.{ℕ, zero, suc, ◌+◌, ◌^◌, ◌/◌, ◌%◌, ◌<◌}
use native.Mathlib.Nat.{pow-suc}
use native.Mathlib.Omega.{arith}
use lib.Count.{ones, ones_step}
use Rattle.words.specs.Choice.{pick}
use Rattle.words.specs.Bits.{is_set, how_many}
use Rattle.words.proofs.BitLaws.{bit_zero, bit_suc}

-- counted from the lowest bit on
up : (p : ℕ → Bool) (n : ℕ) → how_many p (suc n) ≡ pick (p 0) 1 0 + how_many (λ k. p (suc k)) n
unfolding how_many
up p zero = refl
up p (suc n) = ap (λ (x : ℕ). pick (p (suc n)) 1 0 + x) (up p n) ∙ omega arith

pub many_same : (p q : ℕ → Bool) (n : ℕ) → ((k : ℕ) → k < n → p k ≡ q k) → how_many p n ≡ how_many q n
unfolding how_many
many_same p q zero h = refl
many_same p q (suc n) h =
    ap₂ (λ (b : Bool) (m : ℕ). pick b 1 0 + m) (h n (omega arith)) (many_same p q n (λ k l. h k (omega arith)))

one_of : (x : ℕ) → x < 2 → pick (lib.Dec.eqb x 1) 1 0 ≡ x
one_of zero h = refl
one_of (suc zero) h = refl
one_of (suc (suc x)) h = absurd (omega arith)

pub ones_many : (k w : ℕ) → w < 2 ^ k → ones w ≡ how_many (is_set w) k
unfolding how_many ones lib.Count.ones_in
ones_many zero w h = let z : w ≡ 0 = omega arith in rw z
ones_many (suc k) w h =
    ones_step w
    ∙ ap₂ ◌+◌ (sym (one_of (w % 2) (omega arith)) ∙ ap (λ (x : ℕ). pick (lib.Dec.eqb x 1) 1 0) (sym (bit_zero w)))
    (ones_many k (w / 2) (omega (arith, pow-suc 2 k))
    ∙ many_same (is_set (w / 2)) (λ n. is_set w (suc n)) k
    (λ n l. ap (λ (x : ℕ). lib.Dec.eqb x 1) (sym (bit_suc w n))))
    ∙ sym (up (is_set w) k)
