-- One call: the book tells what it tells, and agrees with the world after it.
-- Assumes nothing.
use Prim.Native.Nat.{ℕ}
use mathlib.Core.Path.{◌≡◌, refl, sym, ap, subst}
use mathlib.Core.Bool.{false, true≢false}
use mathlib.Core.List.{List, [], ◌∷◌}
use lib.ListN.{length}
use Rattle.words.specs.Rules.{first}
use Rattle.registers.specs.declared.Registers.{Registers}
use Rattle.layout.specs.Verdict.{rules}
use Rattle.shape.specs.Calls.{leaves, effected}
use Rattle.shape.specs.Histories.{told}
use Rattle.shape.proofs.Calls.{call_cases}
use Rattle.engine.specs.Calls.{World, with_recorded, Outcome, is_unfit}
use Rattle.engine.specs.Flags.{cleared}
use Rattle.starting.specs.Starting
use Rattle.starting.specs.Starting.{unreported, starts}
use Rattle.taking.specs.Reading.{reads}
use Rattle.choosing.specs.Choosing.{chooses}
use Rattle.overview.specs.Overview.{overview_refusals}
use Rattle.requests.proofs.Choosing.{choice_told}
use Rattle.requests.proofs.Reporting.{report_told}
use Rattle.requests.proofs.Requesting.{dedicated_told, shared_told, cancel_told}
use Rattle.requests.proofs.Telling.{told_same, told_by}
use Rattle.handler.specs.Calls.{Call, start, receive, read_fifo, acknowledge_fifo, read_buffer, release_buffer}
use Rattle.handler.specs.Calls.{request_dedicated, request_shared, cancel, ask_choice, report_sent, read_event}
use Rattle.handler.specs.Calls.{acknowledge_event, clear_flags, report_status, Answer, step}
use Rattle.handler.proofs.Exact.{does, step_cases}
use Rattle.handler.proofs.StillFit.{fit_after_any_calls}
use Rattle.history.specs.Books.{Book, note}
use Rattle.history.specs.Demand3.{InTypes, Made, is_started}
use Rattle.history.specs.Expected.{expect}
use Rattle.history.specs.Standing.{BookAgrees}
use Rattle.history.proofs.Receiving.{receive_told, receive_kept, acknowledge_told, acknowledge_kept}
use Rattle.history.proofs.Receiving.{read_fifo_told, release_buffer_told, release_buffer_kept, read_buffer_told}
use Rattle.history.proofs.Sending.{in_step, dedicated_kept, shared_kept, cancel_kept, report_kept}
use Rattle.history.proofs.Sending.{acknowledge_event_told, acknowledge_event_kept, read_event_told}
use Rattle.history.proofs.Status.{status_told}

-- a call of a run: given what is of its types, and no accepted start
abbrev pub InRun : Made → Type 0
InRun t = InTypes t.0 × (is_started t ≡ false)

-- a fit world that the book agrees with
pub record Standing (g : Registers) (began : List ℕ) (b : Book) (w : World) : Type 0 where
  pub fit : is_unfit w ≡ false
  pub agreed : BookAgrees g began b w.state w.memory

module _ (began : List ℕ) (b : Book) (w : World) (fit : is_unfit w ≡ false)
    (h : BookAgrees w.state.regs began b w.state w.memory) where
  told_here : (c : Call) → told (step w c) ≡ expect w.state.regs began b c
  unfolding overview_refusals
  told_here (start g) =
      told_same w unreported (starts w g) tt _ (rules g (length w.memory))
      (rules g (length began)) (ap (λ (n : ℕ). first (rules g n)) h.rest.size) (λ e. refl)
  told_here (receive f d time) = receive_told began b w fit h f d time
  told_here (read_fifo fifo place out) = read_fifo_told began b w fit h fifo place out
  told_here (acknowledge_fifo fifo place) = acknowledge_told began b w fit h fifo place
  told_here (read_buffer buffer out) = read_buffer_told began b w fit h buffer out
  told_here (release_buffer buffer) = release_buffer_told began b w fit h buffer
  told_here (request_dedicated buffer q d) = dedicated_told b.requests w (in_step began b w fit h) buffer q d
  told_here (request_shared q d) = shared_told b.requests w (in_step began b w fit h) q d
  told_here (cancel buffer) = cancel_told b.requests w (in_step began b w fit h) buffer
  told_here (ask_choice passive out) = choice_told b.requests w (in_step began b w fit h) passive out
  told_here (report_sent buffer passive time) = report_told b.requests w (in_step began b w fit h) buffer passive time
  told_here (read_event place) = read_event_told began b w fit h place
  told_here (acknowledge_event place) = acknowledge_event_told began b w fit h place
  told_here (clear_flags mask) =
      told_by w [] (leaves (with_recorded w (cleared w.recorded mask))) tt [] (is_unfit w) [] [] fit refl (λ e. refl)
  told_here report_status = status_told began b w fit h

  abbrev Kept : (c : Call) → Outcome (Answer c) → Type 0
  Kept c o =
      BookAgrees w.state.regs began (note w.state.regs b c o.says) o.world.state o.world.memory

  -- a start that is refused changes nothing
  start_kept : (g : Registers) → is_started (start g, told (Starting.start w g)) ≡ false
      → Kept (start g) (Starting.start w g)
  start_kept g =
      call_cases w unreported (rules g (length w.memory)) (starts w g)
      (λ (o : Outcome (Unit {0})). is_started (start g, told o) ≡ false → Kept (start g) o) (λ n turned. h)
      (λ e turned. absurd (true≢false turned))

  -- nor does a call whose effect changes nothing that the book tells of
  same_kept : (c : Call) → Kept c (effected (does w c)) → Kept c (step w c)
  same_kept c k = step_cases w c (Kept c) (λ n. h) (λ e. k)

  kept_here : (c : Call) → InRun (c, told (step w c)) → Kept c (step w c)
  unfolding reads chooses
  kept_here (start g) i = start_kept g i.1
  kept_here (receive f d time) i = receive_kept began b w fit h f d time
  kept_here (read_fifo fifo place out) i = same_kept (read_fifo fifo place out) h
  kept_here (acknowledge_fifo fifo place) i = acknowledge_kept began b w fit h fifo place
  kept_here (read_buffer buffer out) i = same_kept (read_buffer buffer out) h
  kept_here (release_buffer buffer) i = release_buffer_kept began b w fit h buffer
  kept_here (request_dedicated buffer q d) i =
      dedicated_kept began b w fit h q d (i.0.dedicated buffer q d refl) buffer
  kept_here (request_shared q d) i = shared_kept began b w fit h q d (i.0.shared q d refl)
  kept_here (cancel buffer) i = cancel_kept began b w fit h buffer
  kept_here (ask_choice passive out) i = same_kept (ask_choice passive out) h
  kept_here (report_sent buffer passive time) i = report_kept began b w fit h buffer passive time
  kept_here (read_event place) i = same_kept (read_event place) h
  kept_here (acknowledge_event place) i = acknowledge_event_kept began b w fit h place
  kept_here (clear_flags mask) i = same_kept (clear_flags mask) h
  kept_here report_status i = same_kept report_status h

module _ (g : Registers) (began : List ℕ) (b : Book) (w : World) (h : Standing g began b w) where
  -- the book goes by the state's own registers, which are those of the start
  own_agreed : BookAgrees w.state.regs began b w.state w.memory
  own_agreed =
      subst (λ (x : Registers). BookAgrees x began b w.state w.memory) (sym h.agreed.regs) h.agreed

  pub step_told : (c : Call) → told (step w c) ≡ expect g began b c
  step_told c =
      subst (λ (x : Registers). told (step w c) ≡ expect x began b c) h.agreed.regs
      (told_here began b w h.fit own_agreed c)

  pub step_kept : (c : Call) → InRun (c, told (step w c))
      → Standing g began (note g b c (step w c).says) (step w c).world
  step_kept c i = record {
    fit = fit_after_any_calls (c ∷ []) w h.fit;
    agreed =
        let o = step w c in
        subst (λ (x : Registers). BookAgrees x began (note x b c o.says) o.world.state o.world.memory)
        h.agreed.regs (kept_here began b w h.fit own_agreed c i);
  }
