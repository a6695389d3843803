-- Every call is of the one shape, over the paper's table; so its refusal is the first row that applies, and a refusal
-- changes nothing.
-- Assumes nothing.
use mathlib.Core.Path.{◌≡◌, refl, sym, ap, ◌∙◌, subst}
use Rattle.words.specs.Rules.{allowed, first}
use Rattle.shape.specs.Calls.{refuses, outcome, leaves, tells, effected, call}
use Rattle.shape.specs.Refusals.{Refusal}
use Rattle.shape.proofs.Calls.{call_cases, calls_are_shaped}
use Rattle.areas.specs.Areas.{fifo_area, buffer_area}
use Rattle.engine.specs.Calls.{World, with_state, with_recorded, Outcome, Effect, output_refusals}
use Rattle.engine.specs.Flags.{cleared}
use Rattle.starting.specs.Starting.{starts}
use Rattle.receiving.specs.Receive.{receive_refusals, receives}
use Rattle.taking.specs.Places.{fifo_refusals, buffer_refusals}
use Rattle.taking.specs.Reading.{reads}
use Rattle.taking.specs.Releasing.{released, emptied}
use Rattle.requesting.specs.Places.{free_buffer, shared_after}
use Rattle.requesting.specs.Requesting.{requests, dedicated_refusals, shared_refusals}
use Rattle.requesting.specs.Cancelling.{cancels, cancel_refusals}
use Rattle.choosing.specs.Choosing.{choice_refusals, chooses}
use Rattle.reporting.specs.Reporting.{report_refusals, reports}
use Rattle.events.specs.Events.{event_refusals, event_at, released_events}
use Rattle.overview.specs.Overview.{overview_refusals, status_of}
use Rattle.handler.specs.Calls.{Call, start, receive, read_fifo, acknowledge_fifo, read_buffer, release_buffer}
use Rattle.handler.specs.Calls.{request_dedicated, request_shared, cancel, ask_choice, report_sent, read_event}
use Rattle.handler.specs.Calls.{acknowledge_event, clear_flags, report_status, Answer, given, step}
use Rattle.handler.specs.Demand1.{RefusalsAreExact}
use Rattle.handler.specs.Rows.{rows}

-- what each call does where nothing is against it
abbrev pub does : World → (c : Call) → Effect (Answer c)
does w (start g) = starts w g
does w (receive f d time) = receives w f d time
does w (read_fifo fifo place out) = reads w (fifo_area w.state.regs fifo) place out
does w (acknowledge_fifo fifo place) = leaves (with_state w (released w.state fifo place))
does w (read_buffer buffer out) = reads w (buffer_area w.state.regs) buffer out
does w (release_buffer buffer) = leaves (with_state w (emptied w.state buffer))
does w (request_dedicated buffer h d) = requests w w.state.shared buffer h d
does w (request_shared h d) = requests w (shared_after w.state) (free_buffer w.state) h d
does w (cancel buffer) = cancels w buffer
does w (ask_choice passive out) = chooses w passive out
does w (report_sent buffer passive time) = leaves (reports w buffer passive time)
does w (read_event place) = tells (event_at w.state.regs w.memory place) w
does w (acknowledge_event place) = leaves (with_state w (released_events w.state place))
does w (clear_flags mask) = leaves (with_recorded w (cleared w.recorded mask))
does w report_status = tells (status_of w.state) w

-- the rows of the table that speak for a call are its own
pub tabled : (w : World) (c : Call) → step w c ≡ call w (given c).output (rows w c) (does w c)
unfolding rows call output_refusals fifo_refusals buffer_refusals receive_refusals dedicated_refusals shared_refusals
    cancel_refusals choice_refusals report_refusals event_refusals overview_refusals
tabled w (start g) = refl
tabled w (receive f d time) = refl
tabled w (read_fifo fifo place out) = refl
tabled w (acknowledge_fifo fifo place) = refl
tabled w (read_buffer buffer out) = refl
tabled w (release_buffer buffer) = refl
tabled w (request_dedicated buffer h d) = refl
tabled w (request_shared h d) = refl
tabled w (cancel buffer) = refl
tabled w (ask_choice passive out) = refl
tabled w (report_sent buffer passive time) = refl
tabled w (read_event place) = refl
tabled w (acknowledge_event place) = refl
tabled w (clear_flags mask) = refl
tabled w report_status = refl

-- what is shown of a refusal and of the effect is shown of the call
pub step_cases : (w : World) (c : Call) (P : Outcome (Answer c) → Type 0)
    → ((a : Refusal) → P (outcome (refuses a) w (given c).output))
    → (first (rows w c) ≡ allowed → P (effected (does w c))) → P (step w c)
step_cases w c P turned through =
    subst P (sym (tabled w c)) (call_cases w (given c).output (rows w c) (does w c) P turned through)

pub refusals_are_exact : RefusalsAreExact
refusals_are_exact w c =
    let t = calls_are_shaped World (Answer c) w (given c).output (rows w c) (does w c) in
    let says = ap (λ (o : Outcome (Answer c)). o.says) (tabled w c) in
    record {
      refused = λ n. (λ e. (t.refused n).0 (sym says ∙ e), λ f. says ∙ (t.refused n).1 f);
      accepted = (λ p. t.accepted.0 (p.0, sym says ∙ p.1), λ f. let p = t.accepted.1 f in (p.0, says ∙ p.1));
      stays = λ n e. tabled w c ∙ t.stays n (sym says ∙ e);
    }
