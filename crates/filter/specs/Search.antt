-- The filter list of a kind, and the search in it.
use Rattle.std.specs.Prelude.{ℕ, ◌+◌, ◌*◌, ◌≤◌, Bool, List, get_or}
use Rattle.words.specs.Choice.{pick}
use Rattle.words.specs.Least.{least_from}
use Rattle.words.specs.Ranges.{Range, range}
use Rattle.registers.specs.Fields.{filters11, filters11_start, filters29, filters29_start, xidam_mask}
use Rattle.registers.specs.declared.Registers.{Registers}
use Rattle.filter.specs.Elements.{element11, element29}
use Rattle.filter.specs.Matching.{matches}
use Rattle.filter.specs.declared.filters.FilterElement.{FilterElement}
use Rattle.filter.specs.declared.lists.FilterList.{FilterList}

-- the list of a kind: SIDFC's, or XIDFC's of 29 bits
abbrev pub list_of : Registers → Bool → FilterList
list_of g xtd = record {
  xtd = xtd;
  start = record { 0 = pick xtd (filters29_start g) (filters11_start g) };
  count = pick xtd (filters29 g) (filters11 g);
  xidam = xidam_mask g;
}

-- how many words a list has: one for an element, two for one of 29 bits
abbrev pub list_words : FilterList → ℕ
list_words l = pick l.xtd (2 * l.count) l.count

-- where they stand
abbrev pub list_range : FilterList → Range
list_range l = range l.start.0 (list_words l)

-- element i
unfoldable pub filter_at : List ℕ → FilterList → ℕ → FilterElement
filter_at mem l i =
    pick l.xtd
    (element29 (get_or mem (l.start.0 + 2 * i) 0) (get_or mem (l.start.0 + 2 * i + 1) 0))
    (element11 (get_or mem (l.start.0 + i) 0))

-- element i matches an identifier
abbrev pub matches_at : List ℕ → FilterList → ℕ → ℕ → Bool
matches_at mem l id i = matches l.xtd l.xidam (filter_at mem l i) id

-- the search: the lowest element that matches, or the count where none does
unfoldable pub first_match : List ℕ → FilterList → ℕ → ℕ
first_match mem l id = least_from (matches_at mem l id) 0 l.count

-- both counts are within their most
pub record FewFilters (g : Registers) : Type 0 where
  pub short : filters11 g ≤ 128
  pub long : filters29 g ≤ 64
