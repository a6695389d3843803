-- Bytes in words: byte 4k + j of the data stands in bits 8j + 7 to 8j of word k.
use Rattle.std.specs.Prelude.{ℕ, ◌+◌, ◌*◌, ◌/◌, ◌%◌, ◌^◌, List, get_or}

-- byte j of a word
abbrev pub byte_of : ℕ → ℕ → ℕ
byte_of w j = w / 2 ^ (8 * j) % 256

-- word k of the data: a byte that is not there is 0
unfoldable pub word_of : List ℕ → ℕ → ℕ
word_of d k =
    get_or d (4 * k) 0 + get_or d (4 * k + 1) 0 * 2 ^ 8 + get_or d (4 * k + 2) 0 * 2 ^ 16 + get_or d (4 * k + 3) 0 * 2 ^ 24

-- byte i of the words from word at on
unfoldable pub byte_in : List ℕ → ℕ → ℕ → ℕ
byte_in mem at i = byte_of (get_or mem (at + i / 4) 0) (i % 4)
