-- What is promised of the books: they balance, tell what the rules answer, and agree after each step. Statements only.
use Rattle.std.specs.Prelude.{ℕ, ◌+◌, ◌-◌, ◌%◌, ◌^◌, ◌≤◌, ◌<◌, ◌≡◌, Bool, true, false, ◌&&◌, List, [], ◌∷◌, ◌++◌, eqb, ltb, length, Option}
use Rattle.words.specs.Bits.{bit, is_set, with_bit, without_bit, how_many}
use Rattle.words.specs.Ranges.{SameIn, OnlyIn}
use Rattle.words.specs.Runs.{splice}
use Rattle.ring.specs.Rings.{Fit, none_held, put_place, pushed, held, released_through, released}
use Rattle.ring.specs.declared.Ring.{Ring}
use Rattle.places.specs.Areas.{area_range, area_end, Apart, place_in, words_at, Roomy}
use Rattle.places.specs.Slots.{take_rule, slot_memory}
use Rattle.places.specs.declared.Area.{Area}
use Rattle.books.specs.Lists.{tally, others}
use Rattle.books.specs.Ledgers.{Ledger, empty_ledger, is_held_at, entry_at, note_arrival, note_release}
use Rattle.books.specs.Ledgers.{expect_oldest, expect_slot}
use Rattle.books.specs.Requests.{Accepted, RequestBook, empty_requests, is_buffer, is_shared, oldest_waiting}
use Rattle.books.specs.Requests.{note_request, note_cancel, note_sent, has_pending, pending_in}
use Rattle.books.specs.Balance.{Balanced, RequestsBalanced}
use Rattle.books.specs.Standing.{RingAgrees}
use Rattle.books.specs.Pending.{BuffersHold, CircleAgrees, BitsTell}

-- ==== the book of a ring

-- ---- the book alone: it balances, whatever is noted

abbrev pub EmptyBalances : Type 0
EmptyBalances = Balanced empty_ledger

abbrev pub ArrivalBalances : Type 0
ArrivalBalances = (l : Ledger) → Balanced l → (size : ℕ) (ws : List ℕ) (s : Option ℕ) → Balanced (note_arrival size l ws s)

abbrev pub ReleaseBalances : Type 0
ReleaseBalances = (l : Ledger) → Balanced l → (p : ℕ) → Balanced (note_release l p)

-- ---- the start, and steps elsewhere

abbrev pub EmptyAgrees : Type 0
EmptyAgrees = (a : Area) (mem : List ℕ) → Roomy a (length mem) → RingAgrees a empty_ledger none_held mem

-- a step that changes an area apart from the ring's, and nothing else
abbrev pub ApartAgrees : Type 0
ApartAgrees =
    (a : Area) (l : Ledger) (q : Ring) (mem : List ℕ) → RingAgrees a l q mem
    → (b : Area) (next : List ℕ) → OnlyIn (area_range b) mem next → Apart b a → RingAgrees a l q next

-- ---- an arrival: the book tells its slot

abbrev pub ArrivalTold : Type 0
ArrivalTold =
    (a : Area) (l : Ledger) (q : Ring) (mem : List ℕ) → RingAgrees a l q mem
    → (overwrites : Bool) → (take_rule a.count overwrites q).slot ≡ expect_slot a.count overwrites l

abbrev pub ArrivalAgrees : Type 0
ArrivalAgrees =
    (a : Area) (l : Ledger) (q : Ring) (mem : List ℕ) → RingAgrees a l q mem
    → (overwrites : Bool) (ws : List ℕ) → length ws ≡ a.each
    → let t = take_rule a.count overwrites q in
    RingAgrees a (note_arrival a.count l ws t.slot) t.ring (slot_memory mem a ws t.slot)

-- no word outside the area changes, whatever the book
abbrev pub ArrivalKeeps : Type 0
ArrivalKeeps =
    (a : Area) (q : Ring) (mem : List ℕ) → area_end a ≤ length mem → Fit q a.count
    → (overwrites : Bool) (ws : List ℕ) → length ws ≡ a.each
    → OnlyIn (area_range a) mem (slot_memory mem a ws (take_rule a.count overwrites q).slot)

-- ---- an acknowledge: the book tells which places are held

abbrev pub ReleaseTold : Type 0
ReleaseTold =
    (a : Area) (l : Ledger) (q : Ring) (mem : List ℕ) → RingAgrees a l q mem
    → (p : ℕ) → held q a.count p ≡ is_held_at p l

abbrev pub ReleaseAgrees : Type 0
ReleaseAgrees =
    (a : Area) (l : Ledger) (q : Ring) (mem : List ℕ) → RingAgrees a l q mem
    → (p : ℕ) → held q a.count p ≡ true → RingAgrees a (note_release l p) (released_through q a.count p) mem

-- ---- a reader: the words of a held place, and the oldest place, also where none is held

abbrev pub WordsTold : Type 0
WordsTold =
    (a : Area) (l : Ledger) (q : Ring) (mem : List ℕ) → RingAgrees a l q mem
    → (p : ℕ) → held q a.count p ≡ true → words_at a p mem ≡ (entry_at p l.held).words

abbrev pub OldestTold : Type 0
OldestTold =
    (a : Area) (l : Ledger) (q : Ring) (mem : List ℕ) → RingAgrees a l q mem → q.oldest ≡ expect_oldest a.count l

-- ==== the book of requests, of any kind R

-- ---- the book alone: it balances, whatever is noted

abbrev pub NoRequestBalances : Type 1
NoRequestBalances = (R : Type 0) → RequestsBalanced (empty_requests {R = R})

abbrev pub RequestBalances : Type 1
RequestBalances =
    (R : Type 0) (l : RequestBook R) → RequestsBalanced l
    → (q : R) (buffer : ℕ) → RequestsBalanced (note_request l q buffer)

abbrev pub CancelBalances : Type 1
CancelBalances =
    (R : Type 0) (l : RequestBook R) → RequestsBalanced l → (buffer : ℕ) → RequestsBalanced (note_cancel l buffer)

abbrev pub SentBalances : Type 1
SentBalances =
    (R : Type 0) (l : RequestBook R) → RequestsBalanced l → (buffer : ℕ) → RequestsBalanced (note_sent l buffer)

-- ---- the buffers: nothing is pending, a step elsewhere, a request comes, and one goes

abbrev pub NonePending : Type 1
NonePending = (R : Type 0) (a : Area) (words : R → List ℕ) (mem : List ℕ) → BuffersHold a words [] 0 mem

abbrev pub BuffersElsewhere : Type 1
BuffersElsewhere =
    (R : Type 0) (a : Area) (words : R → List ℕ) (es : List (Accepted R)) (pending : ℕ) (mem : List ℕ)
    → BuffersHold a words es pending mem → area_end a ≤ length mem
    → (next : List ℕ) → SameIn (area_range a) mem next → BuffersHold a words es pending next

-- into a buffer of the area that has none
abbrev pub BufferFilled : Type 1
BufferFilled =
    (R : Type 0) (a : Area) (words : R → List ℕ) (es : List (Accepted R)) (pending : ℕ) (mem : List ℕ)
    → BuffersHold a words es pending mem → area_end a ≤ length mem
    → (e : Accepted R) → e.buffer < a.count → bit pending e.buffer ≡ 0 → length (words e.request) ≡ a.each
    → BuffersHold a words (es ++ e ∷ []) (with_bit pending e.buffer)
    (splice mem (place_in a e.buffer) (words e.request))

-- sent or cancelled: its bit is cleared, in a word of as many bits as there are buffers or more
abbrev pub BufferCleared : Type 1
BufferCleared =
    (R : Type 0) (a : Area) (words : R → List ℕ) (es : List (Accepted R)) (pending : ℕ) (mem : List ℕ)
    → BuffersHold a words es pending mem → (bits : ℕ) → a.count ≤ bits → (buffer : ℕ) → buffer < a.count
    → BuffersHold a words (others (is_buffer buffer) es) (without_bit bits pending buffer) mem

-- ---- what the book tells of the buffers: which are pending, their words, how many, and that no bit is set past them

abbrev pub PendingTold : Type 1
PendingTold =
    (R : Type 0) (a : Area) (words : R → List ℕ) (l : RequestBook R) (pending : ℕ) (mem : List ℕ)
    → BuffersHold a words l.pending pending mem → (buffer : ℕ) → has_pending l buffer ≡ is_set pending buffer

abbrev pub PendingWords : Type 1
PendingWords =
    (R : Type 0) (a : Area) (words : R → List ℕ) (l : RequestBook R) (pending : ℕ) (mem : List ℕ)
    → BuffersHold a words l.pending pending mem → (none : R) (buffer : ℕ) → has_pending l buffer ≡ true
    → words_at a buffer mem ≡ words (pending_in none l buffer)

abbrev pub PendingCounted : Type 1
PendingCounted =
    (R : Type 0) (a : Area) (words : R → List ℕ) (l : RequestBook R) (pending : ℕ) (mem : List ℕ)
    → BuffersHold a words l.pending pending mem → how_many (is_set pending) a.count ≡ length l.pending

abbrev pub PendingBelow : Type 1
PendingBelow =
    (R : Type 0) (a : Area) (words : R → List ℕ) (l : RequestBook R) (pending : ℕ) (mem : List ℕ)
    → BuffersHold a words l.pending pending mem → pending < 2 ^ a.count

-- ---- the circle: nothing waits, a step on a buffer before it, a request at its put place, and its oldest is sent

abbrev pub NoneWaits : Type 1
NoneWaits = (R : Type 0) (first size : ℕ) → size < 2 ^ 31 → CircleAgrees first size (empty_requests {R = R}) none_held

abbrev pub RequestedBefore : Type 1
RequestedBefore =
    (R : Type 0) (first size : ℕ) (l : RequestBook R) (ring : Ring) → CircleAgrees first size l ring
    → (q : R) (buffer : ℕ) → buffer < first → CircleAgrees first size (note_request l q buffer) ring

abbrev pub CancelledBefore : Type 1
CancelledBefore =
    (R : Type 0) (first size : ℕ) (l : RequestBook R) (ring : Ring) → CircleAgrees first size l ring
    → (buffer : ℕ) → buffer < first → CircleAgrees first size (note_cancel l buffer) ring

abbrev pub SentBefore : Type 1
SentBefore =
    (R : Type 0) (first size : ℕ) (l : RequestBook R) (ring : Ring) → CircleAgrees first size l ring
    → (buffer : ℕ) → buffer < first → CircleAgrees first size (note_sent l buffer) ring

abbrev pub RequestedNext : Type 1
RequestedNext =
    (R : Type 0) (first size : ℕ) (l : RequestBook R) (ring : Ring) → CircleAgrees first size l ring
    → (q : R) (buffer : ℕ) → ring.fill < size → buffer ≡ first + put_place ring size
    → CircleAgrees first size (note_request l q buffer) (pushed ring)

abbrev pub SentOldest : Type 1
SentOldest =
    (R : Type 0) (first size : ℕ) (l : RequestBook R) (ring : Ring) → CircleAgrees first size l ring
    → (buffer : ℕ) → 0 < ring.fill → buffer ≡ first + ring.oldest
    → CircleAgrees first size (note_sent l buffer) (released ring size 1)

-- ---- what the book tells of the circle: how many it holds, which places, its oldest place, and which is to be sent

abbrev pub CircleFilled : Type 1
CircleFilled =
    (R : Type 0) (first size : ℕ) (l : RequestBook R) (ring : Ring) → CircleAgrees first size l ring
    → ring.fill ≡ tally (is_shared first) l.pending

abbrev pub CircleHeld : Type 1
CircleHeld =
    (R : Type 0) (first size : ℕ) (l : RequestBook R) (ring : Ring) → CircleAgrees first size l ring
    → (p : ℕ) → p < size → has_pending l (first + p) ≡ held ring size p

-- those accepted took the places in turn
abbrev pub CircleOldest : Type 1
CircleOldest =
    (R : Type 0) (first size : ℕ) (l : RequestBook R) (ring : Ring) → CircleAgrees first size l ring
    → RequestsBalanced l
    → ring.oldest ≡ (tally (is_shared first) l.requested - tally (is_shared first) l.pending) % size

abbrev pub OldestFirst : Type 1
OldestFirst =
    (R : Type 0) (first size : ℕ) (l : RequestBook R) (ring : Ring) → CircleAgrees first size l ring
    → (buffer : ℕ) → first ≤ buffer
    → (ltb 0 ring.fill && eqb buffer (first + ring.oldest))
    ≡ (has_pending l buffer && eqb (oldest_waiting first l) buffer)

-- ---- the sent and cancelled bits: a request clears its buffer's, in words of as many bits as there are buffers or
-- more; a send and a cancel set their own

abbrev pub NoBits : Type 1
NoBits = (R : Type 0) → BitsTell (empty_requests {R = R}) 0 0

abbrev pub RequestClearsBits : Type 1
RequestClearsBits =
    (R : Type 0) (l : RequestBook R) (sent cancelled : ℕ) → BitsTell l sent cancelled → RequestsBalanced l
    → (bits : ℕ) → sent < 2 ^ bits → cancelled < 2 ^ bits
    → (q : R) (buffer : ℕ) → buffer < bits → has_pending l buffer ≡ false
    → BitsTell (note_request l q buffer) (without_bit bits sent buffer) (without_bit bits cancelled buffer)

abbrev pub SendSetsBit : Type 1
SendSetsBit =
    (R : Type 0) (l : RequestBook R) (sent cancelled : ℕ) → BitsTell l sent cancelled → RequestsBalanced l
    → (buffer : ℕ) → has_pending l buffer ≡ true → BitsTell (note_sent l buffer) (with_bit sent buffer) cancelled

abbrev pub CancelSetsBit : Type 1
CancelSetsBit =
    (R : Type 0) (l : RequestBook R) (sent cancelled : ℕ) → BitsTell l sent cancelled → RequestsBalanced l
    → (buffer : ℕ) → has_pending l buffer ≡ true → BitsTell (note_cancel l buffer) sent (with_bit cancelled buffer)
