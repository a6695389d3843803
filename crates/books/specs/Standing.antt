-- That a ring of places in an area of the memory holds what the book says: so many places as the area has elements.
use Rattle.std.specs.Prelude.{ℕ, ◌≤◌, ◌<◌, ◌≡◌, List, length, get_or, Some}
use Rattle.ring.specs.Rings.{Fit, place_after, put_place}
use Rattle.ring.specs.declared.Ring.{Ring}
use Rattle.places.specs.Areas.{area_end, words_at}
use Rattle.places.specs.declared.Area.{Area}
use Rattle.books.specs.Ledgers.{Entry, Ledger, no_entry, expect_put}
use Rattle.books.specs.Balance.{Balanced}

-- an entry is the i-th held: its slot is i places after the oldest, and its words stand there
pub record Stands (a : Area) (q : Ring) (mem : List ℕ) (i : ℕ) (e : Entry) : Type 0 where
  pub named : e.slot ≡ Some (place_after q a.count i)
  pub there : words_at a (place_after q a.count i) mem ≡ e.words

-- the ring holds these entries, the oldest first, and nothing else
pub record Holds (a : Area) (es : List Entry) (q : Ring) (mem : List ℕ) : Type 0 where
  pub room : area_end a ≤ length mem
  pub ring : Fit q a.count
  pub fill : length es ≡ q.fill
  pub stands : (i : ℕ) → i < q.fill → Stands a q mem i (get_or es i no_entry)

-- the ring's put place is the book's
abbrev pub PutAgrees : ℕ → Ledger → Ring → Type 0
PutAgrees size l q = put_place q size ≡ expect_put size l

-- the ring, its elements and the book agree, and the book balances
pub record RingAgrees (a : Area) (l : Ledger) (q : Ring) (mem : List ℕ) : Type 0 where
  pub holds : Holds a l.held q mem
  pub put : PutAgrees a.count l q
  pub balanced : Balanced l
