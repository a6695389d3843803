-- What every call tells, from the book, the inputs, and the registers and filter words of the start.
-- Refusal 20 is left out: it is never met.
use Rattle.std.specs.Prelude.{ℕ, ◌-◌, ◌%◌, not, ◌&&◌, ◌||◌, List, [], ◌∷◌, ◌++◌, ltb, leb, length}
use Rattle.words.specs.Choice.{pick}
use Rattle.words.specs.Bits.{is_set}
use Rattle.words.specs.Runs.{splice}
use Rattle.frame.specs.Malformed.{malformed}
use Rattle.frame.specs.declared.Frame.{Frame}
use Rattle.registers.specs.Fields.{fifo_size, overwrites, buffers, event_size, dedicated, shared, is_queue}
use Rattle.registers.specs.declared.Registers.{Registers}
use Rattle.element.specs.Bytes.{rx_read, read_bytes}
use Rattle.element.specs.Headers.{event_header_in, headed}
use Rattle.element.specs.declared.EventHeader.{EventHeader}
use Rattle.element.specs.declared.RxRead.{RxRead}
use Rattle.layout.specs.Sections.{sections_of}
use Rattle.layout.specs.Verdict.{rules}
use Rattle.filter.specs.Destination.{Goes, to_fifo, to_buffer, discarded, destination}
use Rattle.places.specs.declared.Area.{Area}
use Rattle.areas.specs.Areas.{fifo_area, buffer_area, data_words}
use Rattle.shape.specs.Histories.{Told}
use Rattle.shape.specs.Refusals.{Refusals}
use Rattle.engine.specs.Calls.{◌when◌, output_refusals}
use Rattle.starting.specs.Starting.{flat, unreported}
use Rattle.receiving.specs.Receive.{Fate, stored_buffer, dropped, slot_says}
use Rattle.overview.specs.declared.Overview.{Overview}
use Rattle.overview.specs.declared.RingStatus.{RingStatus}
use Rattle.books.specs.Ledgers.{Ledger, entry_at, is_held_at, expect_put, expect_oldest, expect_slot}
use Rattle.books.specs.Lists.{tally}
use Rattle.books.specs.Requests.{is_shared}
use Rattle.requests.specs.Expected.{expected, expect_dedicated, expect_shared, expect_cancel, expect_choice, expect_report}
use Rattle.handler.specs.Calls.{Call, start, receive, read_fifo, acknowledge_fifo, read_buffer, release_buffer}
use Rattle.handler.specs.Calls.{request_dedicated, request_shared, cancel, ask_choice, report_sent, read_event}
use Rattle.handler.specs.Calls.{acknowledge_event, clear_flags, report_status, Answer}
use Rattle.history.specs.Books.{Book, fifo_ledger, last_in}

-- ---- receive

-- by where the frame goes: of a FIFO, the book tells the slot
abbrev pub fate_of : Registers → Book → Goes → Fate
fate_of g b (to_fifo fifo priority m) =
    slot_says fifo m (expect_slot (fifo_size g fifo) (overwrites g fifo) (fifo_ledger b fifo))
fate_of g b (to_buffer buffer i) = stored_buffer buffer i
fate_of g b (discarded why m) = dropped why m

unfoldable pub expect_receive : Registers → Book → Frame → List ℕ → Goes → Told Fate
expect_receive g b f d goes =
    expected [] (21 when malformed f (length d) ∷ 22 when (f.fdf && not g.fdon) ∷ []) (fate_of g b goes) []

-- ---- reads and releases

-- 23 and 29 of a place in FIFO 0 or 1, of an Rx buffer, and of an event
abbrev pub fifo_against : Registers → Book → ℕ → ℕ → Refusals
fifo_against g b fifo place =
    23 when (ltb 1 fifo || leb (fifo_size g fifo) place) ∷ 29 when not (is_held_at place (fifo_ledger b fifo)) ∷ []

abbrev pub buffer_against : Registers → Book → ℕ → Refusals
buffer_against g b buffer = 23 when leb (buffers g) buffer ∷ 29 when not (is_set b.newdata buffer) ∷ []

abbrev pub event_against : Registers → Book → ℕ → Refusals
event_against g b place = 23 when leb (event_size g) place ∷ 29 when not (is_held_at place b.events) ∷ []

-- what a read tells of an element of an area, by its own words
unfoldable pub expect_read : List ℕ → Refusals → Area → List ℕ → Told RxRead
expect_read out rows a ws =
    expected out (rows ++ output_refusals (length out)) (rx_read ws 0 (data_words a))
    (splice out 0 (read_bytes ws 0 (data_words a)))

unfoldable pub expect_read_event : Registers → Book → ℕ → Told EventHeader
expect_read_event g b place =
    expected [] (event_against g b place) (headed event_header_in (entry_at place b.events.held).words 0) []

-- a call that has nothing to tell
abbrev pub expect_done : Refusals → Told (Unit {0})
expect_done rows = expected [] rows tt []

-- ---- status

abbrev pub ring_of : ℕ → Ledger → RingStatus
ring_of size l = record { fill = length l.held; oldest = expect_oldest size l; put = expect_put size l }

-- the shared FIFO's places are used in turn, so its requests tell where it stands; a queue's three numbers are 0
abbrev pub shared_of : Registers → Book → RingStatus
shared_of g b =
    let asked = tally (is_shared (dedicated g)) b.requests.requested in
    let waiting = tally (is_shared (dedicated g)) b.requests.pending in
    pick (is_queue g)
    (record { fill = 0; oldest = 0; put = 0 })
    (record { fill = waiting; oldest = (asked - waiting) % shared g; put = asked % shared g })

abbrev pub status_in : Registers → Book → Overview
status_in g b = record {
  fifo0 = ring_of (fifo_size g 0) b.fifo0;
  fifo1 = ring_of (fifo_size g 1) b.fifo1;
  events = ring_of (event_size g) b.events;
  shared = shared_of g b;
  pending = length b.requests.pending;
}

-- ---- every call

-- with a memory of so many words, and where a frame goes by the filters while so many new-data bits are set
abbrev pub expect_by : Registers → ℕ → (Frame → ℕ → Goes) → Book → (c : Call) → Told (Answer c)
expect_by g words goes b (start regs) =
    expected unreported (rules regs words) tt (flat (sections_of regs))
expect_by g words goes b (receive f d time) = expect_receive g b f d (goes f b.newdata)
expect_by g words goes b (read_fifo fifo place out) =
    expect_read out (fifo_against g b fifo place) (fifo_area g fifo) (entry_at place (fifo_ledger b fifo).held).words
expect_by g words goes b (acknowledge_fifo fifo place) = expect_done (fifo_against g b fifo place)
expect_by g words goes b (read_buffer buffer out) =
    expect_read out (buffer_against g b buffer) (buffer_area g) (last_in buffer b.buffered)
expect_by g words goes b (release_buffer buffer) = expect_done (buffer_against g b buffer)
expect_by g words goes b (request_dedicated buffer h d) = expect_dedicated g b.requests buffer h d
expect_by g words goes b (request_shared h d) = expect_shared g b.requests h d
expect_by g words goes b (cancel buffer) = expect_cancel g b.requests buffer
expect_by g words goes b (ask_choice passive out) = expect_choice g b.requests passive out
expect_by g words goes b (report_sent buffer passive time) = expect_report g b.requests buffer
expect_by g words goes b (read_event place) = expect_read_event g b place
expect_by g words goes b (acknowledge_event place) = expect_done (event_against g b place)
expect_by g words goes b (clear_flags mask) = expect_done []
expect_by g words goes b report_status = expected [] [] (status_in g b) []

-- began is the memory at the start: of its words, those of the filter lists are looked at and no others
abbrev pub expect : Registers → List ℕ → Book → (c : Call) → Told (Answer c)
expect g began b c = expect_by g (length began) (destination g began) b c
