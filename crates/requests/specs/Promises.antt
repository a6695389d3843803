-- What is promised of the book: it tells what the calls tell, and agrees with the world after each. Statements only.
use Rattle.std.specs.Prelude.{ℕ, ◌≤◌, ◌≡◌, Bool, List, ◌↔◌, length}
use Rattle.words.specs.Choice.{pick}
use Rattle.words.specs.Best.{somebody}
use Rattle.words.specs.Ranges.{SameIn}
use Rattle.ring.specs.Rings.{none_held}
use Rattle.registers.specs.declared.Registers.{Registers}
use Rattle.element.specs.declared.TxHeader.{TxHeader}
use Rattle.places.specs.Areas.{area_range, area_end}
use Rattle.areas.specs.Areas.{event_area, tx_area}
use Rattle.shape.specs.Calls.{done, settles}
use Rattle.shape.specs.Histories.{told, noted}
use Rattle.engine.specs.Calls.{World, output_bytes}
use Rattle.engine.specs.declared.state.State.{State}
use Rattle.requesting.specs.Requesting.{request_dedicated, request_shared}
use Rattle.requesting.specs.Cancelling.{cancel}
use Rattle.choosing.specs.Choosing.{ask_choice}
use Rattle.reporting.specs.Reporting.{after_send, event_kept, report_sent}
use Rattle.books.specs.Requests.{note_request, note_cancel, note_sent}
use Rattle.requests.specs.Requests.{Request, asked, Typed, Book, empty_book, request_in}
use Rattle.requests.specs.Expected.{expect_dedicated, expect_shared, expect_cancel, best_of, form_of, expect_choice}
use Rattle.requests.specs.Expected.{sends, expect_report}
use Rattle.requests.specs.Standing.{TxAgrees, InStep, Leaves, LeavesTx, TxFit}

-- ---- start, and steps elsewhere

abbrev pub StartAgrees : Type 0
StartAgrees =
    (g : Registers) (s : State) (mem : List ℕ) → s.pending ≡ 0 → s.shared ≡ none_held → s.sent ≡ 0 → s.cancelled ≡ 0
    → TxAgrees g empty_book s mem

-- a step that changes neither the Tx buffers' part of the state nor their words
abbrev pub ElsewhereAgrees : Type 0
ElsewhereAgrees =
    (g : Registers) (l : Book) (s : State) (mem : List ℕ) → TxAgrees g l s mem
    → area_end (tx_area g) ≤ length mem
    → (next : State) (other : List ℕ) → next.pending ≡ s.pending → next.shared ≡ s.shared
    → next.sent ≡ s.sent → next.cancelled ≡ s.cancelled → SameIn (area_range (tx_area g)) mem other
    → TxAgrees g l next other

-- ---- requests

abbrev pub DedicatedTold : Type 0
DedicatedTold =
    (l : Book) (w : World) → InStep l w → (buffer : ℕ) (h : TxHeader) (d : List ℕ)
    → told (request_dedicated w buffer h d) ≡ expect_dedicated w.state.regs l buffer h d

abbrev pub DedicatedLeaves : Type 0
DedicatedLeaves =
    (l : Book) (w : World) → InStep l w → (buffer : ℕ) (h : TxHeader) (d : List ℕ) → Typed (asked h d)
    → let o = request_dedicated w buffer h d in LeavesTx w (noted l (note_request l (asked h d)) o.says) o.world

abbrev pub SharedTold : Type 0
SharedTold =
    (l : Book) (w : World) → InStep l w → (h : TxHeader) (d : List ℕ)
    → told (request_shared w h d) ≡ expect_shared w.state.regs l h d

abbrev pub SharedLeaves : Type 0
SharedLeaves =
    (l : Book) (w : World) → InStep l w → (h : TxHeader) (d : List ℕ) → Typed (asked h d)
    → let o = request_shared w h d in LeavesTx w (noted l (note_request l (asked h d)) o.says) o.world

-- ---- cancel

abbrev pub CancelTold : Type 0
CancelTold =
    (l : Book) (w : World) → InStep l w → (buffer : ℕ)
    → told (cancel w buffer) ≡ expect_cancel w.state.regs l buffer

abbrev pub CancelLeaves : Type 0
CancelLeaves =
    (l : Book) (w : World) → InStep l w → (buffer : ℕ)
    → let o = cancel w buffer in LeavesTx w (noted l (λ t. note_cancel l buffer) o.says) o.world

-- ---- the choice: the answer and the output, of the request's own frame, marker, wish and bytes

abbrev pub ChoiceTold : Type 0
ChoiceTold =
    (l : Book) (w : World) → InStep l w → (passive : Bool) (out : List ℕ)
    → told (ask_choice w passive out) ≡ expect_choice w.state.regs l passive out

-- ---- the report

abbrev pub ReportTold : Type 0
ReportTold =
    (l : Book) (w : World) → InStep l w → (buffer : ℕ) (passive : Bool) (time : ℕ)
    → told (report_sent w buffer passive time) ≡ expect_report w.state.regs l buffer

-- accepted exactly where the buffer is the book's best
abbrev pub ReportAccepted : Type 0
ReportAccepted =
    (g : Registers) (l : Book) (buffer : ℕ) → ((expect_report g l buffer).says ≡ done) ↔ (best_of g l ≡ somebody buffer)

-- so a choice asked with an accepted report's own input is of its request
abbrev pub ReportedIsChosen : Type 0
ReportedIsChosen =
    (g : Registers) (l : Book) (buffer : ℕ) (passive : Bool) (out : List ℕ) → (expect_report g l buffer).says ≡ done
    → length out ≡ output_bytes → expect_choice g l passive out ≡ sends g (request_in l buffer) buffer passive out

-- what an accepted report of a request leaves: an event is due where the request wants one, of its own marker and its
-- form as sent
abbrev pub report_of : World → ℕ → Request → Bool → ℕ → World
report_of w buffer q passive time =
    let v = after_send w buffer in
    pick q.header.wish (event_kept v q.header.marker (form_of w.state.regs q passive) time) v

abbrev pub ReportDue : Type 0
ReportDue =
    (l : Book) (w : World) → InStep l w → (buffer : ℕ) (passive : Bool) (time : ℕ)
    → best_of w.state.regs l ≡ somebody buffer
    → report_sent w buffer passive time ≡ settles done (report_of w buffer (request_in l buffer) passive time)

-- of the memory, only the event list changes
abbrev pub ReportLeaves : Type 0
ReportLeaves =
    (l : Book) (w : World) → InStep l w → (buffer : ℕ) (passive : Bool) (time : ℕ)
    → let o = report_sent w buffer passive time in
    Leaves (event_area w.state.regs) w (noted l (λ t. note_sent l buffer) o.says) o.world

-- ---- fitness

abbrev pub BookFits : Type 0
BookFits = (l : Book) (s : State) (mem : List ℕ) → TxAgrees s.regs l s mem → TxFit s
