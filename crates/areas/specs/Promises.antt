-- What is promised of the areas: statements only.
use Rattle.std.specs.Prelude.{ℕ, ◌+◌, ◌*◌, ◌≤◌, ◌<◌, ◌≡◌, ◌↔◌}
use Rattle.words.specs.Ranges.{Inside}
use Rattle.places.specs.Areas.{area_range, Apart, Roomy}
use Rattle.registers.specs.Fields.{filters11, filters11_start, filters29, filters29_start}
use Rattle.registers.specs.declared.Registers.{Registers}
use Rattle.layout.specs.Legal.{Has, Legal}
use Rattle.areas.specs.Own.{own}

-- an area has exactly the words of its section: FIFO 0 and 1 those of 2 and 3, Rx buffers 4, events 5, Tx buffers 6
abbrev pub AreasAreSections : Type 0
AreasAreSections = (g : Registers) (i k : ℕ) → i < 5 → Inside (area_range (own g i)) k ↔ Has g (2 + i) k

-- both filter lists and each area lie in a memory of so many words; a list without elements has no word there
pub record LiesInside (g : Registers) (words : ℕ) : Type 0 where
  pub list11 : 0 < filters11 g → filters11_start g + filters11 g ≤ words
  pub list29 : 0 < filters29 g → filters29_start g + 2 * filters29 g ≤ words
  pub areas : (i : ℕ) → i < 5 → Roomy (own g i) words

-- those of a legal layout do, whatever the length of its memory
abbrev pub LegalLiesInside : Type 0
LegalLiesInside = (g : Registers) (words : ℕ) → Legal g words → LiesInside g words

-- and no two of its areas share a word
abbrev pub AreasLieApart : Type 0
AreasLieApart =
    (g : Registers) (words : ℕ) → Legal g words → (i j : ℕ) → i < 5 → j < 5 → (i ≡ j → ⊥)
    → Apart (own g i) (own g j)
