-- The contract of each public function: what it returned means what the call's definition says. And how tight it is:
-- no second outcome meets it.
use Rattle.std.specs.Prelude.{ℕ, ◌≡◌, Option, Result, List, replicate}
use Rattle.shape.specs.Calls.{outcome, settles}
use Rattle.layout.specs.Sections.{none}
use Rattle.layout.specs.Verdict as Layout
use Rattle.layout.specs.declared.check.LayoutRefusal.{LayoutRefusal}
use Rattle.element.specs.declared.RxRead.{RxRead}
use Rattle.element.specs.declared.EventHeader.{EventHeader}
use Rattle.engine.specs.Answers.{saying, replied, left}
use Rattle.engine.specs.Calls.{World, world, with_state, with_recorded, Outcome}
use Rattle.engine.specs.declared.refusals.Refusal.{Refusal}
use Rattle.engine.specs.declared.state.State.{State}
use Rattle.engine.specs.declared.state.Record.{Record}
use Rattle.engine.specs.declared.state.After.{After}
use Rattle.starting.specs.Starting.{start_says, flat}
use Rattle.starting.specs.declared.Started.{Started}
use Rattle.receiving.specs.Receive as Receive
use Rattle.receiving.specs.declared.receive.AfterReceive.{AfterReceive}
use Rattle.requesting.specs.declared.requesting.AfterRequest.{AfterRequest}
use Rattle.choosing.specs.Choosing as Choosing
use Rattle.choosing.specs.declared.asking.Chosen.{Chosen}
use Rattle.overview.specs.declared.Overview.{Overview}
use Rattle.handler.specs.Calls.{Call, start, receive, read_fifo, acknowledge_fifo, read_buffer, release_buffer}
use Rattle.handler.specs.Calls.{request_dedicated, request_shared, cancel, ask_choice, report_sent, read_event}
use Rattle.handler.specs.Calls.{acknowledge_event, clear_flags, report_status, Answer, step}

-- what the function of a call gives: what it returns, with the memory or the output after it where it was lent one
-- to be changed
abbrev pub Left : Call → Type 0
Left (start g) = Result Started LayoutRefusal
Left (receive f d time) = Result AfterReceive Refusal × List ℕ
Left (read_fifo fifo place out) = Result RxRead Refusal × List ℕ
Left (acknowledge_fifo fifo place) = Result State Refusal
Left (read_buffer buffer out) = Result RxRead Refusal × List ℕ
Left (release_buffer buffer) = Result State Refusal
Left (request_dedicated buffer h d) = Result AfterRequest Refusal × List ℕ
Left (request_shared h d) = Result AfterRequest Refusal × List ℕ
Left (cancel buffer) = Result After Refusal
Left (ask_choice passive out) = Result (Option Chosen) Refusal × List ℕ
Left (report_sent buffer passive time) = Result After Refusal × List ℕ
Left (read_event place) = Result EventHeader Refusal
Left (acknowledge_event place) = Result State Refusal
Left (clear_flags mask) = Result Record Refusal
Left report_status = Result Overview Refusal

-- the same in the paper's numbers; what a function gives no new one of is as it was
abbrev pub meaning : World → (c : Call) → Left c → Outcome (Answer c)
meaning w (start g) l =
    outcome (start_says (Layout.meaning l))
    (world (left (λ a. a.state) w.state l) (left (λ a. a.recorded) w.recorded l) w.memory)
    (flat (left (λ a. a.sections) (replicate 7 none) l))
meaning w (receive f d time) l =
    settles (saying (λ a. Receive.fate_of a.answer) l.0)
    (world (left (λ a. a.state) w.state l.0) (left (λ a. a.recorded) w.recorded l.0) l.1)
meaning w (read_fifo fifo place out) l = outcome (saying (λ h. h) l.0) w l.1
meaning w (acknowledge_fifo fifo place) l = settles (replied l) (with_state w (left (λ n. n) w.state l))
meaning w (read_buffer buffer out) l = outcome (saying (λ h. h) l.0) w l.1
meaning w (release_buffer buffer) l = settles (replied l) (with_state w (left (λ n. n) w.state l))
meaning w (request_dedicated buffer h d) l =
    settles (saying (λ a. a.buffer) l.0) (world (left (λ a. a.state) w.state l.0) w.recorded l.1)
meaning w (request_shared h d) l =
    settles (saying (λ a. a.buffer) l.0) (world (left (λ a. a.state) w.state l.0) w.recorded l.1)
meaning w (cancel buffer) l =
    settles (replied l) (world (left (λ a. a.state) w.state l) (left (λ a. a.recorded) w.recorded l) w.memory)
meaning w (ask_choice passive out) l = outcome (saying Choosing.next l.0) w l.1
meaning w (report_sent buffer passive time) l =
    settles (replied l.0) (world (left (λ a. a.state) w.state l.0) (left (λ a. a.recorded) w.recorded l.0) l.1)
meaning w (read_event place) l = settles (saying (λ h. h) l) w
meaning w (acknowledge_event place) l = settles (replied l) (with_state w (left (λ n. n) w.state l))
meaning w (clear_flags mask) l = settles (replied l) (with_recorded w (left (λ n. n) w.recorded l))
meaning w report_status l = settles (saying (λ t. t) l) w

abbrev pub Claim : World → (c : Call) → Left c → Type 0
Claim w c l = meaning w c l ≡ step w c

-- no two meet it
abbrev pub OneOutcome : Type 0
OneOutcome = (w : World) (c : Call) (a b : Left c) → Claim w c a → Claim w c b → a ≡ b
