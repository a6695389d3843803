-- A fit world stays fit under every call, and so under any run of calls.
-- Assumes nothing.
use mathlib.Core.Path.{◌≡◌, sym, ◌∙◌}
use mathlib.Core.Bool.{false}
use mathlib.Core.List.{[], ◌∷◌}
use lib.ListN.{length}
use Rattle.words.specs.Rules.{allowed, first}
use Rattle.engine.specs.Calls.{World, Outcome, is_unfit, output_refusals}
use Rattle.starting.proofs.Fits.{start_ruled, empty_is_fit}
use Rattle.receiving.specs.Receive.{receive_refusals}
use Rattle.taking.specs.Places.{fifo_refusals, buffer_refusals}
use Rattle.requesting.specs.Requesting.{dedicated_refusals, shared_refusals}
use Rattle.requesting.specs.Cancelling.{cancel_refusals}
use Rattle.choosing.specs.Choosing.{choice_refusals, chooses}
use Rattle.reporting.specs.Reporting.{report_refusals}
use Rattle.events.specs.Events.{event_refusals}
use Rattle.overview.specs.Overview.{overview_refusals}
use Rattle.receiving.proofs.StillFit.{receive_fit}
use Rattle.taking.specs.Reading.{reads}
use Rattle.taking.proofs.Fits.{acknowledge_fit, release_fit}
use Rattle.requesting.proofs.Fits.{dedicated_fit, shared_fit, cancel_fit}
use Rattle.reporting.proofs.Fits.{report_fit}
use Rattle.events.proofs.Fits.{acknowledge_event_fit}
use Rattle.engine.proofs.Fits.{cleared_fit}
use Rattle.handler.specs.Calls.{Call, start, receive, read_fifo, acknowledge_fifo, read_buffer, release_buffer}
use Rattle.handler.specs.Calls.{request_dedicated, request_shared, cancel, ask_choice, report_sent, read_event}
use Rattle.handler.specs.Calls.{acknowledge_event, clear_flags, report_status, Answer, step}
use Rattle.handler.specs.Demand1.{FitAfterAnyCalls}
use Rattle.handler.specs.Rows.{rows}
use Rattle.handler.proofs.Exact.{does, step_cases}

does_fit : (w : World) (c : Call) → is_unfit w ≡ false → first (rows w c) ≡ allowed → is_unfit (does w c).world ≡ false
unfolding rows output_refusals fifo_refusals buffer_refusals receive_refusals dedicated_refusals shared_refusals
    cancel_refusals choice_refusals report_refusals event_refusals overview_refusals
    reads chooses
does_fit w (start g) h e = empty_is_fit g (length w.memory) (sym (start_ruled g (length w.memory)) ∙ e)
does_fit w (receive f d time) h e = receive_fit w f d time e
does_fit w (read_fifo fifo place out) h e = h
does_fit w (acknowledge_fifo fifo place) h e = acknowledge_fit w fifo place e
does_fit w (read_buffer buffer out) h e = h
does_fit w (release_buffer buffer) h e = release_fit w buffer e
does_fit w (request_dedicated buffer q d) h e = dedicated_fit w buffer q d e
does_fit w (request_shared q d) h e = shared_fit w q d e
does_fit w (cancel buffer) h e = cancel_fit w buffer e
does_fit w (ask_choice passive out) h e = h
does_fit w (report_sent buffer passive time) h e = report_fit w buffer passive time e
does_fit w (read_event place) h e = h
does_fit w (acknowledge_event place) h e = acknowledge_event_fit w place e
does_fit w (clear_flags mask) h e = cleared_fit w.state w.recorded (length w.memory) mask h
does_fit w report_status h e = h

step_fit : (w : World) (c : Call) → is_unfit w ≡ false → is_unfit (step w c).world ≡ false
step_fit w c h = step_cases w c (λ (o : Outcome (Answer c)). is_unfit o.world ≡ false) (λ n. h) (does_fit w c h)

pub fit_after_any_calls : FitAfterAnyCalls
fit_after_any_calls [] w h = h
fit_after_any_calls (c ∷ cs) w h = fit_after_any_calls cs (step w c).world (step_fit w c h)
