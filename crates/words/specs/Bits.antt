-- The bits of a word.
use Rattle.std.specs.Prelude.{ℕ, zero, suc, ◌+◌, ◌-◌, ◌^◌, ◌/◌, ◌%◌, ◌<◌, ◌≤◌, ◌≡◌, Bool, eqb}
use Rattle.std.specs.Int.Bits.{bit_or, bit_and}
use Rattle.words.specs.Choice.{pick}

-- bit n of a word, 0 or 1
abbrev pub bit : ℕ → ℕ → ℕ
bit w n = w / 2 ^ n % 2

-- whether bit n is set
abbrev pub is_set : ℕ → ℕ → Bool
is_set w n = eqb (bit w n) 1

-- a word with bit n set
unfoldable pub with_bit : ℕ → ℕ → ℕ
with_bit w n = bit_or w (2 ^ n)

-- a word of k bits with those of a mask cleared
unfoldable pub without_mask : ℕ → ℕ → ℕ → ℕ
without_mask k w mask = bit_and w (2 ^ k - 1 - mask)

-- a word of k bits with bit n cleared
abbrev pub without_bit : ℕ → ℕ → ℕ → ℕ
without_bit k w n = without_mask k w (2 ^ n)

-- n is the lowest clear bit of a word's k bits, or k where all k are set
pub record LowestClear (k w n : ℕ) : Type 0 where
  pub within : n ≤ k
  pub below : (m : ℕ) → m < n → bit w m ≡ 1
  pub clear : n < k → bit w n ≡ 0

-- how many of 0 .. n - 1 pass a test
unfoldable pub how_many : (ℕ → Bool) → ℕ → ℕ
how_many p zero = 0
how_many p (suc n) = pick (p n) 1 0 + how_many p n
