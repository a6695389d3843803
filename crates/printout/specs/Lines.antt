-- The bench program's input, said from the words that it writes down: twelve lines of eight hex digits.
use Rattle.std.specs.Prelude.{ℕ, ◌+◌, ◌-◌, ◌*◌, ◌/◌, ◌%◌, ◌^◌, ◌<◌, ◌≡◌, false, List, ◌⊎◌, length, get_or, codes}
use Prim.Native.Char.{code}
use Rattle.registers.specs.declared.Registers.{Registers}

-- a byte writes hex digit d, in either case
abbrev pub Writes : ℕ → ℕ → Type 0
Writes b d = (b ≡ get_or (codes "0123456789abcdef") d 0) ⊎ (b ≡ get_or (codes "0123456789ABCDEF") d 0)

-- eight digits of a 32-bit word from place at on, the most significant first, and a newline
pub record Line (w : ℕ) (s : List ℕ) (at : ℕ) : Type 0 where
  pub word : w < 2 ^ 32
  pub digits : (k : ℕ) → k < 8 → Writes (get_or s (at + k) 0) (w / 16 ^ (7 - k) % 16)
  pub newline : get_or s (at + 8) 0 ≡ code "\n"

-- twelve such lines, and nothing after them
pub record TwelveLines (ws : List ℕ) (s : List ℕ) : Type 0 where
  pub size : length s ≡ 108
  pub line : (i : ℕ) → i < 12 → Line (get_or ws i 0) s (9 * i)

-- the registers of twelve words in the paper's order, the last the number of Rx buffers; FD and the rate switch are
-- off, and the memory has 2,560 words
abbrev pub twelve_registers : List ℕ → Registers
twelve_registers ws = record {
  sidfc = record { word = get_or ws 0 0 };
  xidfc = record { word = get_or ws 1 0 };
  rxf0c = record { word = get_or ws 2 0 };
  rxf1c = record { word = get_or ws 3 0 };
  rxbc = record { word = get_or ws 4 0 };
  rxesc = record { word = get_or ws 5 0 };
  txefc = record { word = get_or ws 6 0 };
  txbc = record { word = get_or ws 7 0 };
  txesc = record { word = get_or ws 8 0 };
  gfc = record { word = get_or ws 9 0 };
  xidam = record { word = get_or ws 10 0 };
  buffers = get_or ws 11 0;
  fdon = false;
  rateon = false;
  memory = 2560;
}
