-- What is promised of the printout: statements only.
use Rattle.std.specs.Prelude.{ℕ, ◌≤◌, ◌≡◌, List, ◌↔◌, length, take, codes}
use Rattle.printout.specs.Printed.{report, printed}
use Rattle.printout.specs.Lines.{TwelveLines, twelve_registers}

-- no input goes without an answer
abbrev pub AlwaysAnswers : Type 0
AlwaysAnswers = (s : List ℕ) → take 7 (printed s) ≡ codes "layout "

-- and no answer is over 512 bytes
abbrev pub Short : Type 0
Short = (s : List ℕ) → length (printed s) ≤ 512

-- an input that is twelve words in hex digits, a line each: what is printed is the report of these words
abbrev pub ReadsTheWords : Type 0
ReadsTheWords = (ws s : List ℕ) → TwelveLines ws s → printed s ≡ report (twelve_registers ws)

-- any other, and no such one, is unread
abbrev pub UnreadIsExact : Type 0
UnreadIsExact = (s : List ℕ) → (printed s ≡ codes "layout unread\n") ↔ ((ws : List ℕ) → TwelveLines ws s → ⊥)
