-- The eight element sizes, by their code.
use Rattle.std.specs.Prelude.{ℕ, [], ◌∷◌, get_or}

-- data bytes
abbrev pub element_bytes : ℕ → ℕ
element_bytes code = get_or (8 ∷ 12 ∷ 16 ∷ 20 ∷ 24 ∷ 32 ∷ 48 ∷ 64 ∷ []) code 0

-- words, the two of the header included
abbrev pub element_words : ℕ → ℕ
element_words code = get_or (4 ∷ 5 ∷ 6 ∷ 7 ∷ 8 ∷ 10 ∷ 14 ∷ 18 ∷ []) code 0
