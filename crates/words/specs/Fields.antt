-- Fields of a word, each by its highest and its lowest bit.
use Rattle.std.specs.Prelude.{ℕ, ◌+◌, ◌-◌, ◌/◌, ◌%◌, ◌^◌, ◌≡◌, Bool, false, ◌&&◌, ◌||◌, List, [], ◌∷◌, eqb, leb}
use Rattle.std.specs.Int.Bits.{bit_and}
use Rattle.words.specs.Bits.{bit}

-- bits high:low of a word, as a number
abbrev pub bits : ℕ → ℕ → ℕ → ℕ
bits high low w = w / 2 ^ low % 2 ^ (high + 1 - low)

-- the word that has exactly the bits of some fields set
abbrev pub mask_of : List (ℕ × ℕ) → ℕ
mask_of [] = 0
mask_of (f ∷ fs) = 2 ^ (f.0 + 1) - 2 ^ f.1 + mask_of fs

-- no bit is set but those of the fields
abbrev pub only_named : List (ℕ × ℕ) → ℕ → Bool
only_named fs w = eqb (bit_and w (mask_of fs)) w

-- bit k is in one of the fields
abbrev pub in_field : List (ℕ × ℕ) → ℕ → Bool
in_field [] k = false
in_field (f ∷ fs) k = leb f.1 k && leb k f.0 || in_field fs k

-- every bit that is in none of the fields is 0
abbrev pub RestZero : List (ℕ × ℕ) → ℕ → Type 0
RestZero fs w = (k : ℕ) → in_field fs k ≡ false → bit w k ≡ 0
