-- What calls 7 to 11 tell, from the book, the registers and the inputs alone.
-- Refusal 20 is left out: it is never met.
use Rattle.std.specs.Prelude.{ℕ, ◌+◌, ◌*◌, ◌%◌, Bool, not, ◌&&◌, ◌||◌, List, [], ◌∷◌, eqb, ltb, leb, length}
use Rattle.words.specs.Choice.{pick}
use Rattle.words.specs.Best.{Best, nobody, somebody, best_below}
use Rattle.words.specs.Least.{least_from}
use Rattle.words.specs.Runs.{splice}
use Rattle.frame.specs.Arbitration.{rank_of}
use Rattle.frame.specs.Malformed.{malformed}
use Rattle.frame.specs.Sent.{sent_bytes}
use Rattle.frame.specs.declared.Frame.{Frame}
use Rattle.registers.specs.Fields.{dedicated, shared, tx_count, is_queue}
use Rattle.registers.specs.declared.Registers.{Registers}
use Rattle.element.specs.Bytes.{length_of}
use Rattle.element.specs.Elements.{event_element}
use Rattle.element.specs.declared.TxHeader.{TxHeader}
use Rattle.areas.specs.Areas.{tx_area, data_words}
use Rattle.shape.specs.Calls.{answers, effect, call}
use Rattle.shape.specs.Histories.{Told, told}
use Rattle.shape.specs.Refusals.{Refusals}
use Rattle.engine.specs.Calls.{◌when◌, output_refusals}
use Rattle.choosing.specs.Choosing.{form_sent, Next, none, send}
use Rattle.choosing.specs.declared.asking.Chosen.{Chosen}
use Rattle.reporting.specs.Reporting.{is_chosen}
use Rattle.books.specs.Lists.{tally}
use Rattle.books.specs.Requests.{is_shared, oldest_waiting, has_pending}
use Rattle.requests.specs.Requests.{Request, Book, request_in}

-- a call of the one shape where there is no world: its first refusal, or this answer and this output
abbrev pub expected : {A : Type 0} → List ℕ → Refusals → A → List ℕ → Told A
expected out rows a last = told (call (tt {0}) out rows (effect a (tt {0}) last))

-- ---- requests

-- call 7
unfoldable pub expect_dedicated : Registers → Book → ℕ → TxHeader → List ℕ → Told ℕ
expect_dedicated g l buffer h d =
    expected []
    (21 when malformed h.frame (length d) ∷ 23 when leb (dedicated g) buffer ∷ 24 when has_pending l buffer ∷ [])
    buffer []

-- the place in the shared part that a request takes, or their number where none is free. A queue's lowest with nothing
-- pending; a FIFO's are taken in a circle, so how many requests it ever accepted tells the next one, while fewer are
-- pending than it has
unfoldable pub free_shared : Registers → Book → ℕ
free_shared g l =
    pick (is_queue g)
    (least_from (λ p. not (has_pending l (dedicated g + p))) 0 (shared g))
    (pick (ltb (tally (is_shared (dedicated g)) l.pending) (shared g))
    (tally (is_shared (dedicated g)) l.requested % shared g)
    (shared g))

-- call 8
unfoldable pub expect_shared : Registers → Book → TxHeader → List ℕ → Told ℕ
expect_shared g l h d =
    expected []
    (21 when malformed h.frame (length d) ∷ 25 when leb (shared g) (free_shared g l) ∷ [])
    (dedicated g + free_shared g l) []

-- ---- cancel

-- a buffer of the shared part, where it is a FIFO
abbrev pub in_fifo : Registers → ℕ → Bool
in_fifo g buffer = leb (dedicated g) buffer && not (is_queue g)

-- call 9
unfoldable pub expect_cancel : Registers → Book → ℕ → Told (Unit {0})
expect_cancel g l buffer =
    expected []
    (23 when leb (tx_count g) buffer ∷ 26 when in_fifo g buffer ∷ 27 when not (has_pending l buffer) ∷ [])
    tt []

-- ---- the choice

-- what is pending, but of the shared FIFO its oldest only
unfoldable pub is_candidate : Registers → Book → ℕ → Bool
is_candidate g l buffer =
    has_pending l buffer && (not (in_fifo g buffer) || eqb (oldest_waiting (dedicated g) l) buffer)

-- the smallest rank of the requests' own frames, and on a tie the lower buffer number
abbrev pub rank_in : Book → ℕ → ℕ
rank_in l buffer = rank_of (request_in l buffer).header.frame

unfoldable pub best_of : Registers → Book → Best
best_of g l = best_below (is_candidate g l) (rank_in l) (tx_count g)

-- a request's frame as it is sent
abbrev pub form_of : Registers → Request → Bool → Frame
form_of g q passive = form_sent g q.header.frame passive

-- its bytes as they are sent: 0xCC past those that its buffer's element holds
abbrev pub bytes_sent : Registers → Request → Bool → List ℕ
bytes_sent g q passive = sent_bytes (4 * data_words (tx_area g)) q.bytes (length_of (form_of g q passive))

-- a request in a buffer as the choice tells it
abbrev pub chosen_of : Registers → Request → ℕ → Bool → Chosen
chosen_of g q buffer passive =
    let f = form_of g q passive in
    record { buffer = buffer; marker = q.header.marker; wish = q.header.wish; frame = f; count = length_of f }

abbrev pub next_of : Registers → Book → Bool → Best → Next
next_of g l passive nobody = none
next_of g l passive (somebody buffer) = send (chosen_of g (request_in l buffer) buffer passive)

abbrev pub output_of : Registers → Book → Bool → List ℕ → Best → List ℕ
output_of g l passive out nobody = out
output_of g l passive out (somebody buffer) = splice out 0 (bytes_sent g (request_in l buffer) passive)

-- call 10
unfoldable pub expect_choice : Registers → Book → Bool → List ℕ → Told Next
expect_choice g l passive out =
    expected out (output_refusals (length out)) (next_of g l passive (best_of g l)) (output_of g l passive out (best_of g l))

-- what it tells of a request that it chose
abbrev pub sends : Registers → Request → ℕ → Bool → List ℕ → Told Next
sends g q buffer passive out =
    record { says = answers (send (chosen_of g q buffer passive)); output = splice out 0 (bytes_sent g q passive) }

-- ---- the report

-- call 11
unfoldable pub expect_report : Registers → Book → ℕ → Told (Unit {0})
expect_report g l buffer =
    expected [] (23 when leb (tx_count g) buffer ∷ 28 when not (is_chosen (best_of g l) buffer) ∷ []) tt []

-- the event that an accepted report makes due, where the request wants one
abbrev pub event_for : Registers → Request → Bool → ℕ → List ℕ
event_for g q passive time = event_element q.header.marker (form_of g q passive) time
