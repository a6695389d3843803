-- Where elements stand: place by place, in an area of the memory.
use Rattle.std.specs.Prelude.{ℕ, ◌+◌, ◌*◌, ◌≤◌, ◌<◌, List}
use Rattle.words.specs.Ranges.{Range, range, range_end, ApartFrom}
use Rattle.words.specs.Runs.{part}
use Rattle.places.specs.declared.Area.{Area}

-- the words of an area
abbrev pub area_range : Area → Range
area_range a = range a.start.0 (a.count * a.each)

-- the first word behind it
abbrev pub area_end : Area → ℕ
area_end a = range_end (area_range a)

-- one ends before the other starts
abbrev pub Apart : Area → Area → Type 0
Apart a b = ApartFrom (area_range a) (area_range b)

-- the first word of the element at a place
abbrev pub place_in : Area → ℕ → ℕ
place_in a place = a.start.0 + place * a.each

-- where the words of that element stand, and what they are
abbrev pub place_range : Area → ℕ → Range
place_range a place = range (place_in a place) a.each

abbrev pub words_at : Area → ℕ → List ℕ → List ℕ
words_at a place mem = part (place_in a place) a.each mem

-- an area that lies in a memory of so many words. The bounds keep sums of addresses small: no element of either
-- family has more than 19 words, and 4,352 words are the most that a box will have
pub record Roomy (a : Area) (words : ℕ) : Type 0 where
  pub few : a.count ≤ 64
  pub header : 2 ≤ a.each
  pub most : a.each ≤ 19
  pub memory : words ≤ 4352
  pub room : area_end a ≤ words

-- a place of such an area
pub record HasPlace (a : Area) (place words : ℕ) : Type 0 where
  pub room : Roomy a words
  pub within : place < a.count
