-- What is promised of the search and of where a frame goes (demand 2): statements only.
use Rattle.std.specs.Prelude.{ℕ, ◌+◌, ◌*◌, ◌≤◌, ◌<◌, min, ◌≡◌, Bool, true, false, ◌&&◌, Option, Some, None, List, ◌↔◌, ◌⊎◌, get_or}
use Rattle.words.specs.Fields.{bits}
use Rattle.words.specs.Bits.{bit}
use Rattle.words.specs.Ranges.{SameIn}
use Rattle.registers.specs.Fields.{buffers}
use Rattle.registers.specs.declared.Registers.{Registers}
use Rattle.frame.specs.declared.Frame.{Frame}
use Rattle.filter.specs.Matching.{seen, matches}
use Rattle.filter.specs.Search.{list_of, list_range, filter_at, matches_at, first_match, FewFilters}
use Rattle.filter.specs.Destination.{Goes, to_fifo, to_buffer, discarded, reason, meaning, remote_out, non_matching}
use Rattle.filter.specs.Destination.{destination}
use Rattle.filter.specs.declared.filters.FilterElement.{FilterElement}
use Rattle.filter.specs.declared.lists.FilterList.{FilterList}
use Rattle.filter.specs.declared.Reason.TheVariants.{Remote, Reject, NoMatch, PriorityOnly, Debug, Misfiled}
use Rattle.filter.specs.declared.Reason.TheVariants.{Locked}
use Rattle.filter.specs.declared.Destination.{Destination}

-- ---- the search

-- element i matches, and none below it does
pub record FirstIs (mem : List ℕ) (l : FilterList) (id i : ℕ) : Type 0 where
  pub within : i < l.count
  pub here : matches_at mem l id i ≡ true
  pub before : (j : ℕ) → j < i → matches_at mem l id j ≡ false

abbrev pub NoneMatches : List ℕ → FilterList → ℕ → Type 0
NoneMatches mem l id = (j : ℕ) → j < l.count → matches_at mem l id j ≡ false

-- the search answers an element exactly where it is the first that matches, and the count exactly where none does
pub record SearchTells (mem : List ℕ) (l : FilterList) (id : ℕ) : Type 0 where
  pub found : (i : ℕ) → ((i < l.count) × (first_match mem l id ≡ i)) ↔ FirstIs mem l id i
  pub none : (first_match mem l id ≡ l.count) ↔ NoneMatches mem l id

abbrev pub SearchIsFirstMatch : Type 0
SearchIsFirstMatch = (mem : List ℕ) (l : FilterList) (id : ℕ) → SearchTells mem l id

-- ---- what an element matches

-- XIDAM clears bits of an identifier of 29 bits alone
pub record SeenTells (xtd : Bool) (xidam id : ℕ) : Type 0 where
  pub short : xtd ≡ false → seen xtd xidam id ≡ id
  pub long : xtd ≡ true → (k : ℕ) → bit (seen xtd xidam id) k ≡ min (bit id k) (bit xidam k)

-- each action and type, by order and bit by bit
pub record MatchTells (xtd : Bool) (xidam : ℕ) (e : FilterElement) (id : ℕ) : Type 0 where
  pub off : e.action ≡ 0 → matches xtd xidam e id ≡ false
  pub buffer : e.action ≡ 7 → (matches xtd xidam e id ≡ true) ↔ (seen xtd xidam id ≡ e.id1)
  pub range : 0 < e.action → e.action < 7 → e.filtertype ≡ 0
      → (matches xtd xidam e id ≡ true) ↔ ((e.id1 ≤ seen xtd xidam id) × (seen xtd xidam id ≤ e.id2))
  pub either : 0 < e.action → e.action < 7 → e.filtertype ≡ 1
      → (matches xtd xidam e id ≡ true) ↔ ((seen xtd xidam id ≡ e.id1) ⊎ (seen xtd xidam id ≡ e.id2))
  pub bitwise : 0 < e.action → e.action < 7 → e.filtertype ≡ 2
      → (matches xtd xidam e id ≡ true) ↔ ((k : ℕ) → bit e.id2 k ≡ 1 → bit (seen xtd xidam id) k ≡ bit e.id1 k)
  pub short : 0 < e.action → e.action < 7 → e.filtertype ≡ 3 → xtd ≡ false → matches xtd xidam e id ≡ false
  pub long : 0 < e.action → e.action < 7 → e.filtertype ≡ 3 → xtd ≡ true
      → (matches xtd xidam e id ≡ true) ↔ ((e.id1 ≤ id) × (id ≤ e.id2))

abbrev pub MatchIsByType : Type 0
MatchIsByType =
    (xtd : Bool) (xidam : ℕ) (e : FilterElement) (id : ℕ) → SeenTells xtd xidam id × MatchTells xtd xidam e id

-- ---- where a frame goes

-- element i, which is e, decides: action by action
pub record ActionTells (g : Registers) (newdata : ℕ) (e : FilterElement) (i : ℕ) (d : Goes) : Type 0 where
  pub fifo0 : e.action ≡ 1 → d ≡ to_fifo 0 false (Some i)
  pub fifo1 : e.action ≡ 2 → d ≡ to_fifo 1 false (Some i)
  pub reject : e.action ≡ 3 → d ≡ discarded (reason Reject) (Some i)
  pub priority : e.action ≡ 4 → d ≡ discarded (reason PriorityOnly) (Some i)
  pub priority0 : e.action ≡ 5 → d ≡ to_fifo 0 true (Some i)
  pub priority1 : e.action ≡ 6 → d ≡ to_fifo 1 true (Some i)
  pub debug : e.action ≡ 7 → 0 < bits 10 9 e.id2 → d ≡ discarded (reason Debug) (Some i)
  pub misfiled : e.action ≡ 7 → bits 10 9 e.id2 ≡ 0 → buffers g ≤ bits 5 0 e.id2
      → d ≡ discarded (reason Misfiled) (Some i)
  pub locked : e.action ≡ 7 → bits 10 9 e.id2 ≡ 0 → bits 5 0 e.id2 < buffers g
      → bit newdata (bits 5 0 e.id2) ≡ 1
      → d ≡ discarded (reason Locked) (Some i)
  pub stored : e.action ≡ 7 → bits 10 9 e.id2 ≡ 0 → bits 5 0 e.id2 < buffers g
      → bit newdata (bits 5 0 e.id2) ≡ 0
      → d ≡ to_buffer (bits 5 0 e.id2) i

-- no element matches
pub record UnmatchedTells (anf : ℕ) (d : Goes) : Type 0 where
  pub fifo0 : anf ≡ 0 → d ≡ to_fifo 0 false None
  pub fifo1 : anf ≡ 1 → d ≡ to_fifo 1 false None
  pub out : 2 ≤ anf → d ≡ discarded (reason NoMatch) None

pub record DestinationTells (g : Registers) (mem : List ℕ) (f : Frame) (newdata : ℕ) : Type 0 where
  pub remote : (f.rtr && remote_out g f.xtd) ≡ true → destination g mem f newdata ≡ discarded (reason Remote) None
  pub unmatched : (f.rtr && remote_out g f.xtd) ≡ false → NoneMatches mem (list_of g f.xtd) f.id
      → UnmatchedTells (non_matching g f.xtd) (destination g mem f newdata)
  pub matched : (f.rtr && remote_out g f.xtd) ≡ false → (i : ℕ) → FirstIs mem (list_of g f.xtd) f.id i
      → ActionTells g newdata (filter_at mem (list_of g f.xtd) i) i (destination g mem f newdata)

abbrev pub DestinationIsByAction : Type 0
DestinationIsByAction = (g : Registers) (mem : List ℕ) (f : Frame) (newdata : ℕ) → DestinationTells g mem f newdata

-- the four fields of GFC, by kind and bit. A remote frame is out: RRFS is bit 1, of 11 bits, and RRFE bit 0, of 29
abbrev pub RemoteIsOut : Registers → Frame → Type 0
RemoteIsOut g f =
    (f.rtr ≡ true)
    × (((f.xtd ≡ false) × (bit g.gfc.word 1 ≡ 1)) ⊎ ((f.xtd ≡ true) × (bit g.gfc.word 0 ≡ 1)))

-- d is where a frame goes. No element matches: ANFS is bits 5:4, of 11 bits, and ANFE bits 3:2, of 29
pub record GfcTells (g : Registers) (mem : List ℕ) (f : Frame) (newdata : ℕ) (d : Goes) : Type 0 where
  pub remote : (d ≡ discarded (reason Remote) None) ↔ RemoteIsOut g f
  pub anfs : (RemoteIsOut g f → ⊥) → f.xtd ≡ false → NoneMatches mem (list_of g f.xtd) f.id
      → UnmatchedTells (bits 5 4 g.gfc.word) d
  pub anfe : (RemoteIsOut g f → ⊥) → f.xtd ≡ true → NoneMatches mem (list_of g f.xtd) f.id
      → UnmatchedTells (bits 3 2 g.gfc.word) d
  pub matched : (RemoteIsOut g f → ⊥) → (i : ℕ) → FirstIs mem (list_of g f.xtd) f.id i
      → ActionTells g newdata (filter_at mem (list_of g f.xtd) i) i d

abbrev pub DestinationIsByGfc : Type 0
DestinationIsByGfc =
    (g : Registers) (mem : List ℕ) (f : Frame) (newdata : ℕ) → GfcTells g mem f newdata (destination g mem f newdata)

-- ---- the lists by bits

-- e is the element of 11 bits in this word
pub record ShortTells (e : FilterElement) (s0 : ℕ) : Type 0 where
  pub filtertype : e.filtertype ≡ bits 31 30 s0
  pub action : e.action ≡ bits 29 27 s0
  pub id1 : e.id1 ≡ bits 26 16 s0
  pub id2 : e.id2 ≡ bits 10 0 s0

-- and of 29 bits in these two
pub record LongTells (e : FilterElement) (f0 f1 : ℕ) : Type 0 where
  pub action : e.action ≡ bits 31 29 f0
  pub id1 : e.id1 ≡ bits 28 0 f0
  pub filtertype : e.filtertype ≡ bits 31 30 f1
  pub id2 : e.id2 ≡ bits 28 0 f1

-- the two lists: how many elements, the words of element i, and XIDAM
pub record ListTells (g : Registers) (mem : List ℕ) : Type 0 where
  pub count11 : (list_of g false).count ≡ bits 23 16 g.sidfc.word
  pub count29 : (list_of g true).count ≡ bits 22 16 g.xidfc.word
  pub short : (i : ℕ)
      → ShortTells (filter_at mem (list_of g false) i) (get_or mem (bits 15 2 g.sidfc.word + i) 0)
  pub long : (i : ℕ) → let at = bits 15 2 g.xidfc.word + 2 * i in
      LongTells (filter_at mem (list_of g true) i) (get_or mem at 0) (get_or mem (at + 1) 0)
  pub xidam : (list_of g true).xidam ≡ bits 28 0 g.xidam.word

abbrev pub ListsAreByBits : Type 0
ListsAreByBits = (g : Registers) (mem : List ℕ) → ListTells g mem

-- ---- what is read

-- no word outside the list's section is looked at
abbrev pub SearchReadsItsList : Type 0
SearchReadsItsList =
    (l : FilterList) (m n : List ℕ) (id : ℕ) → SameIn (list_range l) m n → first_match m l id ≡ first_match n l id

-- nor outside that of the frame's own kind
abbrev pub DestinationReadsItsList : Type 0
DestinationReadsItsList =
    (g : Registers) (m n : List ℕ) (f : Frame) (newdata : ℕ) → SameIn (list_range (list_of g f.xtd)) m n
    → destination g m f newdata ≡ destination g n f newdata

-- ---- bounds

abbrev pub IndexBelow : ℕ → Option ℕ → Type 0
IndexBelow n m = (i : ℕ) → m ≡ Some i → i < n

-- a FIFO is 0 or 1, a buffer is below the count and its new-data bit is clear, and an index is below 128
abbrev pub Within : Registers → ℕ → Goes → Type 0
Within g newdata (to_fifo k priority m) = (k ≤ 1) × IndexBelow 128 m
Within g newdata (to_buffer b i) = (b < buffers g) × (bit newdata b ≡ 0) × (i < 128)
Within g newdata (discarded why m) = (why ≤ 6) × IndexBelow 128 m

abbrev pub DestinationIsWithin : Type 0
DestinationIsWithin =
    (g : Registers) (mem : List ℕ) (f : Frame) (newdata : ℕ) → FewFilters g
    → Within g newdata (destination g mem f newdata)

-- no two answers of the code mean the same, so no second answer meets the contract
abbrev pub OneAnswer : Type 0
OneAnswer = (a b : Destination) → meaning a ≡ meaning b → a ≡ b
