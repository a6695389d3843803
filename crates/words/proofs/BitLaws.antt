-- The laws of bits, once over the width: setting and clearing, the lowest clear one, and that the bits make the word.
-- Assumes nothing.
use mathlib.Core.Path.{◌≡◌, refl, sym, ap, ◌∙◌}
use Prim.Native.Nat.{ℕ, zero, suc, ◌+◌, ◌-◌, ◌^◌, ◌/◌, ◌%◌, ◌<◌, ◌≤◌, max, min}
use native.Mathlib.Nat.{max-zero, pow-suc, not-suc-le-zero, le_of_suc-le-suc}
use native.Mathlib.Nat.{div-lt_iff_lt-mul, div-le_self}
use native.Mathlib.Omega.{arith}
use mathlib.Core.Bool.{Bool, true, false}
use borrow.Author.Tests.{ltb-true, ltb-false}
use lib.Dec.{ltb}
use lib.Bits.{and_le_l, or_lt}
use lib.Pow.{pow-lt, pow_pos, shr-shr}
use lib.Count.{count_trailing_zeros, under, trailing_le}
pub use Rattle.std.proofs.lemmas.Nat.Bits.{bit_at_lowest as bit_zero, bit_at-suc as bit_suc, bit_at-zero as bit_of_zero}
pub use Rattle.std.proofs.lemmas.Nat.Bits.{bit_at-lt as bit_lt, bit_at_or as bit_of_or, bit_at_and as bit_of_and}
pub use Rattle.std.proofs.lemmas.Nat.Bits.{bit_at-pow_same as bit_pow_same, bit_at-pow_other as bit_pow_other}
pub use Rattle.std.proofs.lemmas.Nat.Bits.{same_from_bits_below as same_bits}
use Rattle.words.specs.Bits.{bit, with_bit, without_mask, without_bit, LowestClear}

-- bit m of a word shifted down by n
pub bit_shifted : (w n m : ℕ) → bit (w / 2 ^ n) m ≡ bit w (n + m)
bit_shifted w n m = ap (λ (x : ℕ). x % 2) (shr-shr w n m)

-- ---- a set bit

max_one : (x : ℕ) → x < 2 → max x 1 ≡ 1
max_one zero h = refl
max_one (suc zero) h = refl
max_one (suc (suc x)) h = absurd (not-suc-le-zero (le_of_suc-le-suc (le_of_suc-le-suc h)))

pub set_same : (w n : ℕ) → bit (with_bit w n) n ≡ 1
unfolding with_bit
set_same w n = bit_of_or w (2 ^ n) n ∙ ap (max (bit w n)) (bit_pow_same n) ∙ max_one (bit w n) (bit_lt w n)

pub set_other : (w n m : ℕ) → (m ≡ n → ⊥) → bit (with_bit w n) m ≡ bit w m
unfolding with_bit
set_other w n m h = bit_of_or w (2 ^ n) m ∙ ap (max (bit w m)) (bit_pow_other n m h) ∙ max-zero (bit w m)

pub set_lt : (k w n : ℕ) → w < 2 ^ k → n < k → with_bit w n < 2 ^ k
unfolding with_bit
set_lt k w n h l = or_lt k w (2 ^ n) h (pow-lt l)

-- ---- the lowest clear bit

-- every bit below a number's trailing zeros is 0, and the bit there is 1
pub trailing_below : (k n m : ℕ) → m < count_trailing_zeros k n → bit n m ≡ 0
unfolding count_trailing_zeros
trailing_below zero n m h = absurd (not-suc-le-zero h)
trailing_below (suc k) n m h = go (λ i. trailing_below k (n / 2) i) (n % 2) m refl h
  where
    go : ((i : ℕ) → i < count_trailing_zeros k (n / 2) → bit (n / 2) i ≡ 0) → (d m : ℕ) → n % 2 ≡ d
        → m < under d (count_trailing_zeros k (n / 2)) → bit n m ≡ 0
    go rest zero zero e l = bit_zero n ∙ e
    go rest zero (suc m) e l = bit_suc n m ∙ rest m (le_of_suc-le-suc l)
    go rest (suc d) m e l = absurd (not-suc-le-zero l)

pub trailing_at : (k n : ℕ) → count_trailing_zeros k n < k → bit n (count_trailing_zeros k n) ≡ 1
unfolding count_trailing_zeros
trailing_at zero n h = absurd (not-suc-le-zero h)
trailing_at (suc k) n h = go (trailing_at k (n / 2)) (n % 2) refl h
  where
    go : (count_trailing_zeros k (n / 2) < k → bit (n / 2) (count_trailing_zeros k (n / 2)) ≡ 1) → (d : ℕ) → n % 2 ≡ d
        → under d (count_trailing_zeros k (n / 2)) < suc k → bit n (under d (count_trailing_zeros k (n / 2))) ≡ 1
    go rest zero e l = bit_suc n (count_trailing_zeros k (n / 2)) ∙ rest (le_of_suc-le-suc l)
    go rest (suc d) e l = bit_zero n ∙ omega arith

-- the bits of the complement
pub bit_not : (k a m : ℕ) → a < 2 ^ k → m < k → bit ((2 ^ k - 1) - a) m ≡ 1 - bit a m
bit_not zero a m h l = absurd (not-suc-le-zero l)
bit_not (suc k) a zero h l =
    bit_zero ((2 ^ suc k - 1) - a) ∙ omega (arith, pow-suc 2 k) ∙ ap (λ (x : ℕ). 1 - x) (sym (bit_zero a))
bit_not (suc k) a (suc m) h l =
    bit_suc ((2 ^ suc k - 1) - a) m
    ∙ ap (λ (x : ℕ). bit x m) (omega (arith, pow-suc 2 k))
    ∙ bit_not k (a / 2) m (omega (arith, pow-suc 2 k)) (le_of_suc-le-suc l)
    ∙ ap (λ (x : ℕ). 1 - x) (sym (bit_suc a m))

pub lowest : (k w : ℕ) → w < 2 ^ k → LowestClear k w (count_trailing_zeros k ((2 ^ k - 1) - w))
lowest k w h = record {
  within = trailing_le k ((2 ^ k - 1) - w);
  below = λ m l.
      let n = bit_not k w m h (omega (arith, trailing_le k ((2 ^ k - 1) - w))) in
      omega (arith, bit_lt w m, trailing_below k ((2 ^ k - 1) - w) m l);
  clear = λ l.
      let z = count_trailing_zeros k ((2 ^ k - 1) - w) in
      omega (arith, bit_lt w z, bit_not k w z h l, trailing_at k ((2 ^ k - 1) - w) l);
}

-- a word has one lowest clear bit
lowest_below : (k w n m : ℕ) → LowestClear k w n → LowestClear k w m → n < m → ⊥
lowest_below k w n m a b h = omega (arith, b.below n h, a.clear (omega (arith, b.within)))

pub lowest_one : (k w n m : ℕ) → LowestClear k w n → LowestClear k w m → n ≡ m
lowest_one k w n m a b = go (ltb n m) refl (ltb m n) refl
  where
    go : (s : Bool) → ltb n m ≡ s → (t : Bool) → ltb m n ≡ t → n ≡ m
    go true e t f = absurd (lowest_below k w n m a b (ltb-true n m e))
    go false e true f = absurd (lowest_below k w m n b a (ltb-true m n f))
    go false e false f = omega (arith, ltb-false n m e, ltb-false m n f)

-- ---- cleared bits

-- a bit of the mask is cleared, and every other is as it was
pub cleared_bit : (k w mask n : ℕ) → mask < 2 ^ k → n < k
    → bit (without_mask k w mask) n ≡ min (bit w n) (1 - bit mask n)
unfolding without_mask
cleared_bit k w mask n h l = bit_of_and w (2 ^ k - 1 - mask) n ∙ ap (min (bit w n)) (bit_not k mask n h l)

pub cleared_le : (k w mask : ℕ) → without_mask k w mask ≤ w
unfolding without_mask
cleared_le k w mask = and_le_l w (2 ^ k - 1 - mask)

pub cleared_same : (k w n : ℕ) → n < k → bit (without_bit k w n) n ≡ 0
cleared_same k w n h = omega (arith, cleared_bit k w (2 ^ n) n (pow-lt h) h, bit_pow_same n)

pub cleared_other : (k w n m : ℕ) → n < k → m < k → (m ≡ n → ⊥) → bit (without_bit k w n) m ≡ bit w m
cleared_other k w n m h l ne = omega (arith, cleared_bit k w (2 ^ n) m (pow-lt h) l, bit_pow_other n m ne, bit_lt w m)

-- a clear bit stays clear, also one past the word
pub cleared_clear : (k w mask n : ℕ) → bit w n ≡ 0 → bit (without_mask k w mask) n ≡ 0
unfolding without_mask
cleared_clear k w mask n z = omega (arith, bit_of_and w (2 ^ k - 1 - mask) n)

-- ---- the bits make the word

below_own_power : (w : ℕ) → w < 2 ^ w
below_own_power zero = omega arith
below_own_power (suc w) = omega (arith, below_own_power w)

-- a word with no bit at n or above is below 2 ^ n
pub below_power : (w n : ℕ) → ((m : ℕ) → n ≤ m → bit w m ≡ 0) → w < 2 ^ n
below_power w n none =
    let small : w / 2 ^ n < 2 ^ w = omega (arith, below_own_power w, div-le_self w (2 ^ n)) in
    let nothing : w / 2 ^ n ≡ 0
    = same_bits w (w / 2 ^ n) 0 small (pow_pos w)
    (λ m l. bit_shifted w n m ∙ none (n + m) (omega arith) ∙ sym (bit_of_zero m)) in
    omega (arith, (div-lt_iff_lt-mul {k = 2 ^ n} {x = w} {y = 1} (pow_pos n)).0 (omega arith))
