-- The history's own book of an engine: kept from calls and answers, with the registers of the start, not from a world.
use Rattle.std.specs.Prelude.{ℕ, Bool, false, List, [], ◌∷◌, eqb, Option, Some, None}
use Rattle.words.specs.Choice.{pick}
use Rattle.words.specs.Bits.{with_bit, without_bit}
use Rattle.frame.specs.declared.Frame.{Frame}
use Rattle.registers.specs.Fields.{fifo_size, event_size}
use Rattle.registers.specs.declared.Registers.{Registers}
use Rattle.element.specs.Elements.{rx_element}
use Rattle.places.specs.declared.Area.{Area}
use Rattle.areas.specs.Areas.{fifo_area, buffer_area, data_words}
use Rattle.shape.specs.Calls.{Says}
use Rattle.shape.specs.Histories.{noted}
use Rattle.receiving.specs.Receive.{Fate, stored, stored_buffer, lost_to, dropped, arrival}
use Rattle.books.specs.Ledgers.{Ledger, empty_ledger, note_arrival, note_release, expect_slot}
use Rattle.books.specs.Requests.{note_request, note_cancel, note_sent}
use Rattle.requests.specs.Requests
use Rattle.requests.specs.Requests.{asked, request_in}
use Rattle.requests.specs.Expected.{event_for}
use Rattle.handler.specs.Calls.{Call, start, receive, read_fifo, acknowledge_fifo, read_buffer, release_buffer}
use Rattle.handler.specs.Calls.{request_dedicated, request_shared, cancel, ask_choice, report_sent, read_event}
use Rattle.handler.specs.Calls.{acknowledge_event, clear_flags, report_status, Answer}

-- a frame that was stored in an Rx buffer: the words of its element
pub record InRxBuffer : Type 0 where
  pub buffer : ℕ
  pub words : List ℕ

pub record Book : Type 0 where
  -- the frames that the rules sent to FIFO 0 and to FIFO 1, and the events that were due
  pub fifo0 : Ledger
  pub fifo1 : Ledger
  pub events : Ledger
  pub requests : Requests.Book
  -- bit n: something was stored in Rx buffer n and has not been released
  pub newdata : ℕ
  -- all that was stored in an Rx buffer, the latest first
  pub buffered : List InRxBuffer

abbrev pub empty_book : Book
empty_book = record {
  fifo0 = empty_ledger;
  fifo1 = empty_ledger;
  events = empty_ledger;
  requests = Requests.empty_book;
  newdata = 0;
  buffered = [];
}

-- what was last stored in an Rx buffer
unfoldable pub last_in : ℕ → List InRxBuffer → List ℕ
last_in buffer [] = []
last_in buffer (e ∷ es) = pick (eqb e.buffer buffer) e.words (last_in buffer es)

-- ---- a book with a part changed

unfoldable pub fifo_ledger : Book → ℕ → Ledger
fifo_ledger b fifo = pick (eqb fifo 0) b.fifo0 b.fifo1

unfoldable pub with_fifo_ledger : Book → ℕ → Ledger → Book
with_fifo_ledger b fifo l = record {
  fifo0 = pick (eqb fifo 0) l b.fifo0;
  fifo1 = pick (eqb fifo 0) b.fifo1 l;
  events = b.events;
  requests = b.requests;
  newdata = b.newdata;
  buffered = b.buffered;
}

abbrev pub with_sending : Book → Ledger → Requests.Book → Book
with_sending b events requests = record {
  fifo0 = b.fifo0;
  fifo1 = b.fifo1;
  events = events;
  requests = requests;
  newdata = b.newdata;
  buffered = b.buffered;
}

abbrev pub with_requests : Book → Requests.Book → Book
with_requests b requests = with_sending b b.events requests

abbrev pub with_buffers : Book → ℕ → List InRxBuffer → Book
with_buffers b newdata buffered = record {
  fifo0 = b.fifo0;
  fifo1 = b.fifo1;
  events = b.events;
  requests = b.requests;
  newdata = newdata;
  buffered = buffered;
}

-- ---- what an answer adds

-- the element of a received frame, in an area
abbrev pub frame_in : Area → Frame → List ℕ → ℕ → Option ℕ → List ℕ
frame_in a f d time m = rx_element (arrival f time m) d (data_words a)

-- it came to a FIFO: it is held there, at a place, or lost
abbrev pub note_fifo : Registers → Book → Frame → List ℕ → ℕ → ℕ → Option ℕ → Option ℕ → Book
note_fifo g b f d time fifo m slot =
    with_fifo_ledger b fifo
    (note_arrival (fifo_size g fifo) (fifo_ledger b fifo) (frame_in (fifo_area g fifo) f d time m) slot)

-- or it is stored in an Rx buffer, or discarded
abbrev pub note_fate : Registers → Book → Frame → List ℕ → ℕ → Fate → Book
note_fate g b f d time (stored fifo place m) = note_fifo g b f d time fifo m (Some place)
note_fate g b f d time (lost_to fifo m) = note_fifo g b f d time fifo m None
note_fate g b f d time (stored_buffer buffer i) =
    with_buffers b (with_bit b.newdata buffer)
    (record { buffer = buffer; words = frame_in (buffer_area g) f d time (Some i) } ∷ b.buffered)
note_fate g b f d time (dropped why m) = b

-- an accepted report: the request is sent; where it wants an event, one is due, of its form as sent with this report's
-- own inputs, and is held or lost by the list's rule, which never overwrites
abbrev pub note_report : Registers → Book → ℕ → Bool → ℕ → Book
note_report g b buffer passive time =
    let q = request_in b.requests buffer in
    let n = event_size g in
    with_sending b
    (pick q.header.wish
    (note_arrival n b.events (event_for g q passive time) (expect_slot n false b.events))
    b.events)
    (note_sent b.requests buffer)

-- by call. A start among those of a history is a refused one: an accepted start begins another history
abbrev pub added : Registers → Book → (c : Call) → Answer c → Book
added g b (start regs) a = b
added g b (receive f d time) a = note_fate g b f d time a
added g b (read_fifo fifo place out) a = b
added g b (acknowledge_fifo fifo place) a = with_fifo_ledger b fifo (note_release (fifo_ledger b fifo) place)
added g b (read_buffer buffer out) a = b
added g b (release_buffer buffer) a = with_buffers b (without_bit 64 b.newdata buffer) b.buffered
added g b (request_dedicated buffer h d) a = with_requests b (note_request b.requests (asked h d) a)
added g b (request_shared h d) a = with_requests b (note_request b.requests (asked h d) a)
added g b (cancel buffer) a = with_requests b (note_cancel b.requests buffer)
added g b (ask_choice passive out) a = b
added g b (report_sent buffer passive time) a = note_report g b buffer passive time
added g b (read_event place) a = b
added g b (acknowledge_event place) a = with_sending b (note_release b.events place) b.requests
added g b (clear_flags mask) a = b
added g b report_status a = b

-- a refusal adds nothing
abbrev pub note : Registers → Book → (c : Call) → Says (Answer c) → Book
note g b c says = noted b (added g b c) says
