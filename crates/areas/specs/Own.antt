-- The words of an engine's own sections, by section: 0 and 1 the filter lists, 2 and 3 the FIFOs, 4 Rx buffers, 5
-- events, 6 Tx buffers.
use Rattle.std.specs.Prelude.{ℕ, ◌≡◌, List, [], ◌∷◌, length, get_or}
use Rattle.words.specs.Ranges.{Range, range, Inside}
use Rattle.places.specs.declared.Area.{Area}
use Rattle.registers.specs.declared.Registers.{Registers}
use Rattle.layout.specs.Legal.{Has}
use Rattle.areas.specs.Areas.{fifo_area, buffer_area, event_area, tx_area}

-- section 2 + i as an area, i from 0 to 4
abbrev pub own : Registers → ℕ → Area
own g i =
    get_or (fifo_area g 0 ∷ fifo_area g 1 ∷ buffer_area g ∷ event_area g ∷ tx_area g ∷ []) i
    (record { start = record { 0 = 0 }; count = 0; each = 0 })

-- the sections that a receive and the reads of frames go by; those that sending goes by; and those that a call may
-- write
abbrev pub receiving_sections : Range
receiving_sections = range 0 5

abbrev pub sending_sections : Range
sending_sections = range 5 2

abbrev pub written_sections : Range
written_sections = range 2 5

-- as long as before, with the same words in these sections
pub record SameSections (g : Registers) (sections : Range) (before last : List ℕ) : Type 0 where
  pub size : length last ≡ length before
  pub words : (i k : ℕ) → Inside sections i → Has g i k → get_or last k 0 ≡ get_or before k 0

-- as long as before, and only in these sections may it differ
pub record OnlySections (g : Registers) (sections : Range) (before last : List ℕ) : Type 0 where
  pub size : length last ≡ length before
  pub words : (k : ℕ) → ((i : ℕ) → Inside sections i → Has g i k → ⊥) → get_or last k 0 ≡ get_or before k 0
