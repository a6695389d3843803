-- Places in a row, and two lists that have the same in them, or everywhere else.
use Rattle.std.specs.Prelude.{ℕ, ◌+◌, ◌≤◌, ◌<◌, ◌≡◌, List, ◌⊎◌, length, get_or}

pub record Range : Type 0 where
  pub from : ℕ
  pub count : ℕ

abbrev pub range : ℕ → ℕ → Range
range from count = record { from = from; count = count }

-- the first n places
abbrev pub front : ℕ → Range
front n = range 0 n

-- the place behind it
abbrev pub range_end : Range → ℕ
range_end r = r.from + r.count

-- place k is one of them
pub record Inside (r : Range) (k : ℕ) : Type 0 where
  pub from : r.from ≤ k
  pub below : k < range_end r

-- place k is before them or behind them
abbrev pub Outside : Range → ℕ → Type 0
Outside r k = (k < r.from) ⊎ (range_end r ≤ k)

-- one ends before the other begins
abbrev pub ApartFrom : Range → Range → Type 0
ApartFrom r q = (range_end r ≤ q.from) ⊎ (range_end q ≤ r.from)

-- as long as before, with the same in a range
pub record SameIn (r : Range) (before last : List ℕ) : Type 0 where
  pub size : length last ≡ length before
  pub within : (k : ℕ) → r.from ≤ k → k < range_end r → get_or last k 0 ≡ get_or before k 0

-- as long as before, and only in a range may it differ
pub record OnlyIn (r : Range) (before last : List ℕ) : Type 0 where
  pub size : length last ≡ length before
  pub outside : (k : ℕ) → Outside r k → get_or last k 0 ≡ get_or before k 0
