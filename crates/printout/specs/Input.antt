-- The bench program's input: which inputs are read, and the registers that they give.
use Rattle.std.specs.Prelude.{ℕ, zero, suc, ◌+◌, ◌*◌, ◌%◌, ◌<◌, ◌≡◌, Bool, true, false, not, ◌&&◌, List, eqb, ltb, length, get_or}
use Rattle.std.specs.Char.{digit_value}
use Prim.Native.Char.{code}
use Rattle.words.specs.Choice.{pick}
use Rattle.words.specs.Least.{least_from}
use Rattle.registers.specs.Given.{registers_from}
use Rattle.registers.specs.declared.Registers.{Registers}

-- a byte that may stand at place k: a newline after each eight hex digits, of either case, and a digit elsewhere
unfoldable pub in_place : ℕ → ℕ → Bool
in_place b k = pick (eqb (k % 9) 8) (eqb b (code "\n")) (ltb (digit_value b) 16)

abbrev pub out_of_place : List ℕ → ℕ → Bool
out_of_place s k = not (in_place (get_or s k 0) k)

-- the first of the 108 places that has another byte, 108 where none has
abbrev pub first_out : List ℕ → ℕ
first_out s = least_from (out_of_place s) 0 108

-- twelve lines of eight hex digits, each with its newline
unfoldable pub readable : List ℕ → Bool
readable s = eqb (length s) 108 && eqb (first_out s) 108

-- nine bytes are one line
abbrev pub LineRead : List ℕ → Type 0
LineRead s = (k : ℕ) → k < 9 → in_place (get_or s k 0) k ≡ true

-- the number that the first k digits from place at on make, most significant first
unfoldable pub number_from : List ℕ → ℕ → ℕ → ℕ
number_from s at zero = 0
number_from s at (suc k) = number_from s at k * 16 + digit_value (get_or s (at + k) 0)

-- the number on line i
abbrev pub number : List ℕ → ℕ → ℕ
number s i = number_from s (9 * i) 8

-- the memory of document 01's bench cases
abbrev pub bench_words : ℕ
bench_words = 2560

-- the lines in their order; FD, the rate switch and the memory's length are no part of the input
abbrev pub registers_of : List ℕ → Registers
registers_of s = registers_from (number s) false false bench_words
