-- A legal layout, said by the words of the memory and with no order of tests. It has its own table of the sections.
use Rattle.std.specs.Prelude.{ℕ, ◌+◌, ◌*◌, ◌/◌, ◌≤◌, ◌<◌, ◌≡◌, List, [], ◌∷◌, ◌⊎◌, get_or}
use Rattle.words.specs.Fields.{RestZero}
use Rattle.registers.specs.Kinds
use Rattle.registers.specs.Fields
use Rattle.registers.specs.declared.Registers.{Registers}

-- the memory has the length that was given: at least one word, at most 4,352
pub record RightMemory (r : Registers) (words : ℕ) : Type 0 where
  pub some : 0 < Fields.memory_words r
  pub most : Fields.memory_words r ≤ 4352
  pub lent : words ≡ Fields.memory_words r

-- the given length is 0, or above 4,352, or not the memory's
abbrev pub WrongMemory : Registers → ℕ → Type 0
WrongMemory r words =
    (Fields.memory_words r ≡ 0) ⊎ (4352 < Fields.memory_words r) ⊎ (words ≡ Fields.memory_words r → ⊥)

-- every bit that the paper does not name is 0
pub record Named (r : Registers) : Type 0 where
  pub sidfc : RestZero Kinds.sidfc r.sidfc.word
  pub xidfc : RestZero Kinds.xidfc r.xidfc.word
  pub rxf0c : RestZero Kinds.rxfc r.rxf0c.word
  pub rxf1c : RestZero Kinds.rxfc r.rxf1c.word
  pub rxbc : RestZero Kinds.rxbc r.rxbc.word
  pub rxesc : RestZero Kinds.rxesc r.rxesc.word
  pub txefc : RestZero Kinds.txefc r.txefc.word
  pub txbc : RestZero Kinds.txbc r.txbc.word
  pub txesc : RestZero Kinds.txesc r.txesc.word
  pub gfc : RestZero Kinds.gfc r.gfc.word
  pub xidam : RestZero Kinds.xidam r.xidam.word

-- every count is within its most, and the Tx buffers together too
pub record Counted (r : Registers) : Type 0 where
  pub filters11 : Fields.filters11 r ≤ 128
  pub filters29 : Fields.filters29 r ≤ 64
  pub fifo0 : Fields.fifo_size r 0 ≤ 64
  pub fifo1 : Fields.fifo_size r 1 ≤ 64
  pub buffers : Fields.buffers r ≤ 64
  pub events : Fields.event_size r ≤ 32
  pub dedicated : Fields.dedicated r ≤ 32
  pub shared : Fields.shared r ≤ 32
  pub together : Fields.tx_count r ≤ 32

-- the counts, each with the section that it counts for and its most: the Tx buffers have two
pub record CountRow : Type 0 where
  pub section : ℕ
  pub count : ℕ
  pub most : ℕ

abbrev pub count_row : ℕ → ℕ → ℕ → CountRow
count_row s n m = record { section = s; count = n; most = m }

abbrev pub count_table : Registers → List CountRow
count_table r =
    count_row 0 (Fields.filters11 r) 128
    ∷ count_row 1 (Fields.filters29 r) 64
    ∷ count_row 2 (Fields.fifo_size r 0) 64
    ∷ count_row 3 (Fields.fifo_size r 1) 64
    ∷ count_row 4 (Fields.buffers r) 64
    ∷ count_row 5 (Fields.event_size r) 32
    ∷ count_row 6 (Fields.dedicated r) 32
    ∷ count_row 6 (Fields.shared r) 32
    ∷ []

abbrev pub count_of : Registers → ℕ → CountRow
count_of r n = get_or (count_table r) n (count_row 0 0 0)

-- some count of section i is over its most
pub record TooMany (r : Registers) (i : ℕ) : Type 0 where
  pub row : ℕ
  pub inside : row < 8
  pub section : (count_of r row).section ≡ i
  pub above : (count_of r row).most < (count_of r row).count

-- none is
abbrev pub WithinMost : Registers → Type 0
WithinMost r = (n : ℕ) → n < 8 → (count_of r n).count ≤ (count_of r n).most

-- the words of an element by its size code: two of header, and a quarter of its data bytes
abbrev pub words_by_size : ℕ → ℕ
words_by_size code = 2 + get_or (8 ∷ 12 ∷ 16 ∷ 20 ∷ 24 ∷ 32 ∷ 48 ∷ 64 ∷ []) code 0 / 4

-- where each section starts, how many elements it has, and how many words each has
pub record SectionRow : Type 0 where
  pub start : ℕ
  pub count : ℕ
  pub each : ℕ

abbrev pub section_row : ℕ → ℕ → ℕ → SectionRow
section_row s n e = record { start = s; count = n; each = e }

abbrev pub section_table : Registers → List SectionRow
section_table r =
    section_row (Fields.filters11_start r) (Fields.filters11 r) 1
    ∷ section_row (Fields.filters29_start r) (Fields.filters29 r) 2
    ∷ section_row (Fields.fifo_start r 0) (Fields.fifo_size r 0) (words_by_size (Fields.fifo_code r 0))
    ∷ section_row (Fields.fifo_start r 1) (Fields.fifo_size r 1) (words_by_size (Fields.fifo_code r 1))
    ∷ section_row (Fields.buffers_start r) (Fields.buffers r) (words_by_size (Fields.buffer_code r))
    ∷ section_row (Fields.event_start r) (Fields.event_size r) 2
    ∷ section_row (Fields.tx_start r) (Fields.tx_count r) (words_by_size (Fields.tx_code r))
    ∷ []

-- row i
abbrev pub row_of : Registers → ℕ → SectionRow
row_of r i = get_or (section_table r) i (section_row 0 0 0)

-- word k of the memory is section i's: no word is, of a section of count 0
pub record Has (r : Registers) (i k : ℕ) : Type 0 where
  pub from : (row_of r i).start ≤ k
  pub below : k < (row_of r i).start + (row_of r i).count * (row_of r i).each

pub record Legal (r : Registers) (words : ℕ) : Type 0 where
  pub memory : RightMemory r words
  pub named : Named r
  pub counted : Counted r
  pub inside : (i k : ℕ) → i < 7 → Has r i k → k < words
  pub apart : (i j k : ℕ) → i < j → j < 7 → Has r i k → Has r j k → ⊥
