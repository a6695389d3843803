-- Both lists lie in the memory, and what stands in the words of an element.
-- Assumes nothing.
use Prim.Native.Nat.{ℕ, ◌+◌, ◌-◌, ◌*◌, ◌≤◌}
use mathlib.Core.Path.{◌≡◌}
use mathlib.Core.Bool.{Bool, true, false}
use mathlib.Core.List.{List}
use lib.ListN.{get_or}
use Rattle.registers.specs.Fields.{filters11, filters11_start, filters29, filters29_start}
use Rattle.registers.specs.declared.Registers.{Registers}
use Rattle.filter.specs.Elements.{element11, element29}
use Rattle.filter.specs.Search.{list_of, filter_at}
use Rattle.filter.specs.Needs.{Fits, ListsFit}
use Rattle.filter.specs.declared.filters.FilterElement.{FilterElement}
use Rattle.filter.specs.declared.lists.FilterList.{FilterList}

-- both lists lie in the memory where each does
pub lists_fit : (g : Registers) (words : ℕ)
    → filters11 g ≤ words - filters11_start g → filters11 g ≤ 128
    → 2 * filters29 g ≤ words - filters29_start g → filters29 g ≤ 64
    → ListsFit g words
lists_fit g words room11 most11 room29 most29 = record { lists = each; few = record { short = most11; long = most29 } }
  where
    each : (xtd : Bool) → Fits (list_of g xtd) words
    each true = record { room = room29 }
    each false = record { room = room11 }

-- element i, by its words
module _ (mem : List ℕ) (l : FilterList) (i : ℕ) (e : FilterElement) where
  pub element_long : l.xtd ≡ true
      → e ≡ element29 (get_or mem (l.start.0 + 2 * i) 0) (get_or mem (l.start.0 + 2 * i + 1) 0) → e ≡ filter_at mem l i
  unfolding filter_at
  element_long h d = rw h d

  pub element_short : l.xtd ≡ false → e ≡ element11 (get_or mem (l.start.0 + i) 0) → e ≡ filter_at mem l i
  unfolding filter_at
  element_short h d = rw h d
