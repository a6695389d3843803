-- What helpers ask of their callers; a reader of the promises need not read it.
use Rattle.std.specs.Prelude.{ℕ, ◌-◌, ◌≤◌, Bool}
use Rattle.registers.specs.declared.Registers.{Registers}
use Rattle.filter.specs.Search.{list_of, list_words, FewFilters}
use Rattle.filter.specs.declared.lists.FilterList.{FilterList}

-- a list lies in a memory of so many words. One of count 0 has no words, wherever it starts
pub record Fits (l : FilterList) (words : ℕ) : Type 0 where
  pub room : list_words l ≤ words - l.start.0

-- what an accepted layout gives: both lists lie in the memory, and their counts are within their most
pub record ListsFit (g : Registers) (words : ℕ) : Type 0 where
  pub lists : (xtd : Bool) → Fits (list_of g xtd) words
  pub few : FewFilters g
