-- That buffers hold exactly the pending requests: by bits, word for word in the memory, and shared ones in a circle;
-- and that sent and cancelled bits tell what became of each buffer's latest request.
use Rattle.std.specs.Prelude.{ℕ, ◌+◌, ◌%◌, ◌<◌, ◌≡◌, Bool, true, ◌&&◌, List, map, eqb, ltb}
use Rattle.words.specs.Bits.{bit}
use Rattle.words.specs.Runs.{run}
use Rattle.ring.specs.Rings.{Fit, place_after, put_place}
use Rattle.ring.specs.declared.Ring.{Ring}
use Rattle.places.specs.Areas.{words_at}
use Rattle.places.specs.declared.Area.{Area}
use Rattle.books.specs.Lists.{tally, Each}
use Rattle.books.specs.Requests.{Accepted, RequestBook, buffer_of, is_buffer, is_shared, waiting}
use Rattle.books.specs.Balance.{SentInOrder}

module _ {R : Type 0} where
  -- a request's words stand in its buffer, a place of an area
  pub record InBuffer (a : Area) (words : R → List ℕ) (mem : List ℕ) (e : Accepted R) : Type 0 where
    pub inside : e.buffer < a.count
    pub there : words_at a e.buffer mem ≡ words e.request

  -- the buffers of an area hold these requests and nothing else
  pub record BuffersHold (a : Area) (words : R → List ℕ) (es : List (Accepted R)) (pending : ℕ) (mem : List ℕ)
      : Type 0 where
    -- bit b of the pending word is how many requests buffer b has: one or none
    pub bits : (b : ℕ) → tally (is_buffer b) es ≡ bit pending b
    pub stands : Each (InBuffer a words mem) es

  -- the buffers from a first one on are used in a circle of some size, and it agrees with the book
  pub record CircleAgrees (first size : ℕ) (l : RequestBook R) (ring : Ring) : Type 0 where
    pub fit : Fit ring size
    -- those that wait have its held places, in the order in which they were accepted
    pub places : map buffer_of (waiting first l) ≡ run (λ i. first + place_after ring size i) 0 ring.fill
    -- how many it ever accepted tells the next one's place
    pub next : put_place ring size ≡ tally (is_shared first) l.requested % size
    pub order : SentInOrder first l

  -- ---- the latest request of each buffer

  -- x came after e, in the same buffer
  abbrev pub is_later : Accepted R → Accepted R → Bool
  is_later e x = is_buffer e.buffer x && ltb e.number x.number

  -- e is the latest request of a buffer: it is that buffer's, and of all those accepted none that is came after it
  unfoldable pub is_latest : List (Accepted R) → ℕ → Accepted R → Bool
  is_latest all buffer e = is_buffer buffer e && eqb (tally (is_later e) all) 0

  -- bit b of a word is set exactly where the latest request of buffer b is one of these: how many of them are it, one
  -- or none
  abbrev pub LatestAre : RequestBook R → List (Accepted R) → ℕ → Type 0
  LatestAre l these word = (b : ℕ) → tally (is_latest l.requested b) these ≡ bit word b

  -- the sent bit of a buffer is 1 exactly where its latest request was sent, the cancelled bit exactly where it was
  -- cancelled
  pub record BitsTell (l : RequestBook R) (sent_word cancelled_word : ℕ) : Type 0 where
    pub sent : LatestAre l l.sent sent_word
    pub cancelled : LatestAre l l.cancelled cancelled_word
    -- where one is pending it is the latest, so both bits are 0
    pub pending : Each (λ e. is_latest l.requested e.buffer e ≡ true) l.pending
