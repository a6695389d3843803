-- Calls 7 to 13: the book tells what they tell, and agrees after them.
-- Assumes nothing.
use Rattle.std.proofs.Common.{Option}
use Prim.Native.Nat.{ℕ}
use mathlib.Core.Path.{◌≡◌, refl, sym, ap, ◌∙◌, subst}
use mathlib.Core.Bool.{Bool, true, false, not}
use mathlib.Core.List.{List, [], ◌∷◌}
use native.Mathlib.Omega.{arith}
use lib.ListN.{length}
use Rattle.words.specs.Best.{somebody}
use Rattle.words.specs.Choice.{pick}
use Rattle.words.specs.Rules.{first}
use Rattle.words.proofs.Ranges.{only_none}
use Rattle.registers.specs.Fields.{event_size}
use Rattle.registers.specs.declared.Registers.{Registers}
use Rattle.element.specs.Headers.{event_header_in}
use Rattle.element.specs.declared.EventHeader.{EventHeader}
use Rattle.element.specs.declared.TxHeader.{TxHeader}
use Rattle.layout.specs.Legal.{Legal}
use Rattle.places.specs.Areas.{area_range}
use Rattle.areas.specs.Areas.{event_area}
use Rattle.shape.specs.Calls.{Says, refuses, answers, leaves, tells}
use Rattle.shape.specs.Histories.{told, noted}
use Rattle.shape.specs.Refusals.{Refusals}
use Rattle.shape.proofs.Calls.{call_cases}
use Rattle.engine.specs.Calls.{World, with_state, Outcome, ◌when◌, is_unfit}
use Rattle.engine.specs.Keeping.{keep_rule}
use Rattle.engine.proofs.Calls.{row_passes}
use Rattle.engine.proofs.Sounds.{sound_of}
use Rattle.requesting.specs.Requesting
use Rattle.requesting.specs.Cancelling
use Rattle.reporting.specs.Reporting
use Rattle.reporting.specs.Reporting.{after_send, event_kept, report_refusals, reports}
use Rattle.reporting.proofs.Judgements.{report_open}
use Rattle.events.specs.Events
use Rattle.events.specs.Events.{no_event, event_free, event_refusals, event_at, released_events}
use Rattle.events.proofs.Judgements.{event_open}
use Rattle.books.specs.Ledgers.{note_arrival, note_release, expect_slot, entry_at}
use Rattle.books.specs.Requests.{note_request, note_cancel, note_sent}
use Rattle.books.specs.Standing.{RingAgrees}
use Rattle.books.proofs.Arrivals.{arrival_told, arrival_agrees}
use Rattle.books.proofs.Releases.{release_told, release_agrees}
use Rattle.books.proofs.Seen.{words_told}
use Rattle.requests.specs.Requests
use Rattle.requests.specs.Requests.{asked, Typed, request_in}
use Rattle.requests.specs.Expected.{best_of, form_of, event_for}
use Rattle.requests.specs.Standing.{InStep, Leaves, LeavesTx}
use Rattle.requests.proofs.Choosing.{choice_best}
use Rattle.requests.proofs.Reporting.{report_due, report_leaves}
use Rattle.requests.proofs.Requesting.{dedicated_leaves, shared_leaves, cancel_leaves}
use Rattle.requests.proofs.Telling.{told_by}
use Rattle.handler.specs.Calls.{Call, request_dedicated, request_shared, cancel, report_sent, read_event, acknowledge_event}
use Rattle.handler.specs.Calls.{Answer}
use Rattle.history.specs.Books.{Book, with_sending, with_requests, note}
use Rattle.history.specs.Expected.{event_against, expect_read_event, expect}
use Rattle.history.specs.Standing.{BookAgrees}
use Rattle.history.proofs.Agreeing.{ring_elsewhere, requests_elsewhere, sending_agreed}
use Rattle.history.proofs.Elements.{headed_alone}

module _ (began : List ℕ) (b : Book) (w : World) (fit : is_unfit w ≡ false)
    (h : BookAgrees w.state.regs began b w.state w.memory) where
  abbrev g : Registers
  g = w.state.regs

  abbrev mem : List ℕ
  mem = w.memory

  abbrev l : Requests.Book
  l = b.requests

  abbrev Kept : (c : Call) → Outcome (Answer c) → Type 0
  Kept c o = BookAgrees g began (note g b c o.says) o.world.state o.world.memory

  legal : Legal g (length mem)
  legal = (sound_of w.state w.recorded (length mem) fit).legal

  pub in_step : InStep l w
  in_step = record { fit = fit; agrees = h.requests }

  -- ---- a request, a cancel

  -- what is added to the book of requests is added to the book
  leaves_kept : {A : Type 0} (next : A → Requests.Book) (o : Outcome A) → LeavesTx w (noted l next o.says) o.world
      → BookAgrees g began (noted b (λ a. with_requests b (next a)) o.says) o.world.state o.world.memory
  leaves_kept {A} next o v =
      subst (λ (c : Book). BookAgrees g began c o.world.state o.world.memory) (same o.says)
      (sending_agreed g began b w.state mem legal h o.world.memory 4 (omega arith) (omega arith)
      v.left.memory o.world.state v.left.state b.events (noted l next o.says)
      (rw v.events
      (ring_elsewhere g mem o.world.memory legal 4 (omega arith) v.left.memory 3 (omega arith)
      (λ e. omega arith) b.events w.state.events h.events))
      v.left.agrees)
    where
      same : (x : Says A) → with_requests b (noted l next x) ≡ noted b (λ a. with_requests b (next a)) x
      same (answers a) = refl
      same (refuses n) = refl

  module _ (q : TxHeader) (d : List ℕ) (typed : Typed (asked q d)) where
    pub dedicated_kept : (buffer : ℕ) → Kept (request_dedicated buffer q d) (Requesting.request_dedicated w buffer q d)
    dedicated_kept buffer =
        leaves_kept (note_request l (asked q d)) (Requesting.request_dedicated w buffer q d)
        (dedicated_leaves l w in_step buffer q d typed)

    pub shared_kept : Kept (request_shared q d) (Requesting.request_shared w q d)
    shared_kept =
        leaves_kept (note_request l (asked q d)) (Requesting.request_shared w q d)
        (shared_leaves l w in_step q d typed)

  pub cancel_kept : (buffer : ℕ) → Kept (cancel buffer) (Cancelling.cancel w buffer)
  cancel_kept buffer =
      leaves_kept (λ t. note_cancel l buffer) (Cancelling.cancel w buffer) (cancel_leaves l w in_step buffer)

  -- ---- a report

  module _ (buffer : ℕ) (passive : Bool) (time : ℕ) where
    abbrev q : Requests.Request
    q = request_in l buffer

    abbrev ws : List ℕ
    ws = event_for g q passive time

    -- the event's slot is the one that the book tells
    event_held : let v = event_kept (after_send w buffer) q.header.marker (form_of g q passive) time in
        RingAgrees (event_area g) (note_arrival (event_size g) b.events ws (expect_slot (event_size g) false b.events))
        v.state.events v.memory
    unfolding keep_rule
    event_held =
        let v = event_kept (after_send w buffer) q.header.marker (form_of g q passive) time in
        subst
        (λ (slot : Option ℕ).
        RingAgrees (event_area g) (note_arrival (event_size g) b.events ws slot) v.state.events v.memory)
        (arrival_told (event_area g) b.events w.state.events mem h.events false)
        (arrival_agrees (event_area g) b.events w.state.events mem h.events false ws refl)

    -- the world after an accepted report, by whether the request wants an event
    abbrev reported : Bool → World
    reported t =
        pick t (event_kept (after_send w buffer) q.header.marker (form_of g q passive) time) (after_send w buffer)

    accepted : (t : Bool) → Leaves (event_area g) w (note_sent l buffer) (reported t)
        → BookAgrees g began
        (with_sending b
        (pick t (note_arrival (event_size g) b.events ws (expect_slot (event_size g) false b.events)) b.events)
        (note_sent l buffer))
        (reported t).state (reported t).memory
    accepted true v =
        sending_agreed g began b w.state mem legal h (reported true).memory 3 (omega arith) (omega arith)
        v.memory (reported true).state v.state _ (note_sent l buffer) event_held v.agrees
    accepted false v =
        sending_agreed g began b w.state mem legal h mem 3 (omega arith) (omega arith) v.memory
        (reported false).state v.state b.events (note_sent l buffer) h.events v.agrees

    pub report_kept : Kept (report_sent buffer passive time) (Reporting.report_sent w buffer passive time)
    report_kept =
        call_cases w [] (report_refusals w buffer) (leaves (reports w buffer passive time))
        (λ (o : Outcome (Unit {0})). Reporting.report_sent w buffer passive time ≡ o
        → Kept (report_sent buffer passive time) o)
        (λ n e. h)
        (λ e same.
        let best : best_of g l ≡ somebody buffer
        = sym (choice_best l w.state mem h.requests) ∙ (report_open w buffer e).chosen in
        let due = report_due l w in_step buffer passive time best in
        subst (Kept (report_sent buffer passive time)) (sym due ∙ same)
        (accepted q.header.wish
        (subst
        (λ (o : Outcome (Unit {0})). Leaves (event_area g) w (noted l (λ t. note_sent l buffer) o.says) o.world) due
        (report_leaves l w in_step buffer passive time))))
        refl

  -- ---- an event

  module _ (place : ℕ) where
    abbrev event_rows : Refusals
    event_rows = 23 when no_event w.state place ∷ 29 when event_free w.state place ∷ []

    event_told : first event_rows ≡ first (event_against g b place)
    event_told =
        ap (λ (u : Bool). first (23 when no_event w.state place ∷ 29 when not u ∷ []))
        (release_told (event_area g) b.events w.state.events mem h.events place)

    pub acknowledge_event_told : told (Events.acknowledge_event w place) ≡ expect g began b (acknowledge_event place)
    unfolding event_refusals
    acknowledge_event_told =
        told_by w [] (leaves (with_state w (released_events w.state place))) tt [] (is_unfit w) event_rows
        (event_against g b place) fit event_told (λ e. refl)

    pub acknowledge_event_kept : Kept (acknowledge_event place) (Events.acknowledge_event w place)
    acknowledge_event_kept =
        call_cases w [] (event_refusals w place) (leaves (with_state w (released_events w.state place)))
        (Kept (acknowledge_event place)) (λ n. h)
        (λ e.
        let a = event_area g in
        let kept = only_none (area_range a) mem in
        sending_agreed g began b w.state mem legal h mem 3 (omega arith) (omega arith) kept
        (released_events w.state place) (record { regs = refl; fifo0 = refl; fifo1 = refl; newdata = refl })
        (note_release b.events place) l
        (release_agrees a b.events w.state.events mem h.events place (event_open w place e).holds.holds)
        (requests_elsewhere g mem mem legal 3 (omega arith) kept (omega arith) l w.state
        (released_events w.state place) refl refl refl refl h.requests))

    pub read_event_told : told (Events.read_event w place) ≡ expect g began b (read_event place)
    unfolding event_refusals event_at expect_read_event
    read_event_told =
        told_by w [] (tells (event_at g mem place) w) _ [] (is_unfit w) event_rows (event_against g b place) fit event_told
        (λ e.
        let o = event_open w place (row_passes 20 event_rows fit ∙ event_told ∙ e) in
        ap (λ (x : EventHeader). record { says = answers x; output = [] })
        (headed_alone mem (event_area g) place o.element (entry_at place b.events.held).words
        (words_told (event_area g) b.events w.state.events mem h.events place o.holds.holds)
        event_header_in))
