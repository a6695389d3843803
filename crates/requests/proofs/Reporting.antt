-- The report: accepted exactly where the buffer is the book's best, whose request it leaves sent, with its event due.
-- Assumes nothing.
use Prim.Native.Nat.{ℕ, ◌<◌}
use mathlib.Core.Path.{◌≡◌, refl, sym, ap, ap₂, ◌∙◌}
use mathlib.Core.Bool.{Bool, true, false, true≢false, not, ◌&&◌, and-false}
use mathlib.Core.List.{[], ◌∷◌}
use native.Mathlib.Omega.{arith}
use lib.Dec.{leb}
use lib.ListN.{length}
use borrow.Author.Tests.{leb-true, leb-false, not-false}
use Rattle.words.specs.Best.{Best, somebody}
use Rattle.words.specs.Bits.{with_bit}
use Rattle.words.specs.Ranges.{OnlyIn}
use Rattle.words.specs.Rules.{allowed, first}
use Rattle.words.proofs.Bests.{best_wins}
use Rattle.words.proofs.Choices.{pick_first, pick_second}
use Rattle.words.proofs.Ranges.{only_none, only_apart}
use Rattle.words.proofs.Rulings.{all_two}
use Rattle.ring.specs.Rings.{released}
use Rattle.frame.specs.declared.Frame.{Frame}
use Rattle.registers.specs.Fields.{dedicated, shared, is_queue, tx_count}
use Rattle.element.specs.declared.TxHeader.{TxHeader}
use Rattle.places.specs.Areas.{area_range}
use Rattle.areas.specs.Areas.{event_area, tx_area}
use Rattle.areas.proofs.Rooms.{event_roomy}
use Rattle.areas.proofs.Sections.{own_apart}
use Rattle.shape.specs.Calls.{answers, done, Outcome, settles, effect, leaves}
use Rattle.shape.specs.Histories.{told, noted}
use Rattle.shape.specs.Refusals.{Refusals}
use Rattle.shape.proofs.Calls.{call_cases, call_done, call_answers}
use Rattle.layout.specs.Verdict.{plain}
use Rattle.engine.specs.Buffers.{no_tx_buffer, in_shared_fifo}
use Rattle.engine.specs.Calls.{World, ◌when◌, is_unfit, output_refusals}
use Rattle.engine.specs.Keeping.{keep_rule}
use Rattle.engine.specs.declared.state.State.{State}
use Rattle.engine.proofs.Calls.{row_passes, length_right}
use Rattle.engine.proofs.Sounds.{sound_of}
use Rattle.choosing.specs.Choosing
use Rattle.choosing.specs.Choosing.{choice}
use Rattle.choosing.specs.Promises.{Candidate, dedicated_one, oldest_one, queue_one}
use Rattle.choosing.proofs.Candidates.{candidates_are_those}
use Rattle.reporting.specs.Reporting.{is_chosen, report_refusals, shared_sent, sent_state, after_send, event_kept, reports}
use Rattle.reporting.proofs.Calls.{report_cases}
use Rattle.reporting.proofs.Judgements.{chosen_is, report_open}
use Rattle.books.specs.Pending.{CircleAgrees}
use Rattle.books.specs.Requests.{note_sent, has_pending}
use Rattle.books.proofs.Arrivals.{arrival_keeps}
use Rattle.books.proofs.Circles.{sent_before, sent_oldest}
use Rattle.books.proofs.Latest.{send_sets_bit}
use Rattle.books.proofs.Requests.{sent_balances}
use Rattle.requests.specs.Requests.{Request, asked, Book}
use Rattle.requests.specs.Expected.{is_candidate, rank_in, best_of, next_of, output_of, expect_choice, expect_report}
use Rattle.requests.specs.Standing.{TxAgrees, InStep, Leaves}
use Rattle.requests.specs.Promises.{ReportTold, ReportAccepted, ReportedIsChosen, report_of, ReportDue}
use Rattle.requests.specs.Promises.{ReportLeaves}
use Rattle.requests.proofs.Telling.{told_by}
use Rattle.requests.proofs.Holding.{elsewhere_agrees, cleared_agrees, legal_in, room_in, few_in, leaves_all}
use Rattle.requests.proofs.Choosing.{candidate_told, header_told, choice_best, best_is, best_pending}

-- ---- what is answered

pub report_told : ReportTold
unfolding report_refusals expect_report
report_told l w i buffer passive time =
    told_by w [] (leaves (reports w buffer passive time)) tt [] (is_unfit w) (after (choice w.state w.memory))
    (after (best_of w.state.regs l)) i.fit
    (ap (λ (m : Best). first (after m)) (choice_best l w.state w.memory i.agrees)) (λ e. refl)
  where
    after : Best → Refusals
    after m = 23 when no_tx_buffer w.state buffer ∷ 28 when not (is_chosen m buffer) ∷ []

-- where the buffer is the best, neither 23 nor 28 applies
best_passes : (best : Best) (count buffer : ℕ) → buffer < count → best ≡ somebody buffer
    → first (23 when leb count buffer ∷ 28 when not (is_chosen best buffer) ∷ []) ≡ allowed
best_passes best count buffer below e = grind arith

pub report_accepted : ReportAccepted
unfolding expect_report best_of
report_accepted g l buffer = (there, back)
  where
    rows : Refusals
    rows = 23 when leb (tx_count g) buffer ∷ 28 when not (is_chosen (best_of g l) buffer) ∷ []

    there : (expect_report g l buffer).says ≡ done → best_of g l ≡ somebody buffer
    there e =
        let passes = (call_answers (tt {0}) [] rows (effect (tt {0}) (tt {0}) []) tt e).0 in
        let chosen =
        (all_two (leb (tx_count g) buffer) (not (is_chosen (best_of g l) buffer)) (plain 23) (plain 28) passes).1 in
        chosen_is (best_of g l) buffer (not-false (is_chosen (best_of g l) buffer) chosen)

    back : best_of g l ≡ somebody buffer → (expect_report g l buffer).says ≡ done
    back e =
        let below = (best_wins (is_candidate g l) (rank_in l) (tx_count g) buffer e).below in
        ap (λ (o : Outcome (Unit {0}) (Unit {0})). o.says)
        (call_done (tt {0}) [] rows (effect (tt {0}) (tt {0}) []) (best_passes (best_of g l) (tx_count g) buffer below e))

pub reported_is_chosen : ReportedIsChosen
unfolding expect_choice
reported_is_chosen g l buffer passive out e size =
    let best = best_of g l in
    ap told
    (call_done (tt {0}) out (output_refusals (length out))
    (effect (next_of g l passive best) (tt {0}) (output_of g l passive out best))
    (sym (length_right (length out) size)))
    ∙ ap (λ (m : Best). told (settled_of m)) ((report_accepted g l buffer).0 e)
  where
    settled_of : Best → Outcome (Unit {0}) Choosing.Next
    settled_of m = record { says = answers (next_of g l passive m); world = tt; output = output_of g l passive out m }

-- ---- the event that is due

pub report_due : ReportDue
unfolding report_refusals reports
report_due l w i buffer passive time e =
    let s = w.state in
    let a = i.agrees in
    let best : choice s w.memory ≡ somebody buffer = choice_best l s w.memory a ∙ e in
    let below = (best_is l s w.memory a buffer e).below in
    call_done w [] (report_refusals w buffer) (leaves (reports w buffer passive time))
    (row_passes 20 (23 when no_tx_buffer s buffer ∷ 28 when not (is_chosen (choice s w.memory) buffer) ∷ []) i.fit
    ∙ best_passes (choice s w.memory) (tx_count s.regs) buffer below best)
    ∙ ap (λ (x : TxHeader). settles done (report_of w buffer (asked x []) passive time))
    (header_told l s w.memory a buffer (best_pending l s w.memory a buffer e))

-- ---- what is left

module _ (l : Book) (w : World) (i : InStep l w) (b : ℕ) (below : b < tx_count w.state.regs)
    (candidate : Choosing.is_candidate w.state b ≡ true) (one : has_pending l b ≡ true) where
  -- the shared FIFO's circle: its oldest gone, or as it was
  circle : is_queue w.state.regs ≡ false
      → CircleAgrees (dedicated w.state.regs) (shared w.state.regs) (note_sent l b) (shared_sent w.state b)
  circle f = go (leb (dedicated w.state.regs) b) refl
    where
      s : State
      s = w.state

      n : ℕ
      n = shared w.state.regs

      d : ℕ
      d = dedicated w.state.regs

      agreed : CircleAgrees (dedicated w.state.regs) (shared w.state.regs) l w.state.shared
      agreed = i.agrees.fifo f

      oldest : Candidate w.state b → leb (dedicated w.state.regs) b ≡ true
          → CircleAgrees (dedicated w.state.regs) (shared w.state.regs) (note_sent l b)
          (released w.state.shared (shared w.state.regs) 1)
      oldest (dedicated_one h p) t = absurd (omega (arith, leb-true d b t))
      oldest (oldest_one q h e) t = sent_oldest Request d n l s.shared agreed b h e
      oldest (queue_one q h p) t = absurd (true≢false (sym q ∙ f))

      go : (t : Bool) → leb (dedicated w.state.regs) b ≡ t
          → CircleAgrees (dedicated w.state.regs) (shared w.state.regs) (note_sent l b) (shared_sent w.state b)
      go true t =
          let inside : in_shared_fifo s b ≡ true = ap₂ (λ (x y : Bool). x && not y) t f in
          rw (pick_first (released s.shared n 1) s.shared inside)
          (oldest ((candidates_are_those s b).0 candidate) t)
      go false t =
          let beside : in_shared_fifo s b ≡ false = ap (λ (x : Bool). x && not (is_queue s.regs)) t in
          rw (pick_second (released s.shared n 1) s.shared beside)
          (sent_before Request d n l s.shared agreed b (leb-false d b t))

  -- before the event
  sent_agrees : TxAgrees w.state.regs (note_sent l b) (sent_state w.state b) w.memory
  sent_agrees =
      let s = w.state in
      cleared_agrees s.regs l s w.memory i.agrees (few_in l w i) b below (note_sent l b) refl
      (sent_balances Request l i.agrees.balanced b) (shared_sent s b) (with_bit s.sent b) s.cancelled circle
      (λ y.
      let beside : in_shared_fifo s b ≡ false
      = ap (λ (x : Bool). leb (dedicated s.regs) b && not x) y ∙ and-false (leb (dedicated s.regs) b) in
      pick_second (released s.shared (shared s.regs) 1) s.shared beside ∙ i.agrees.queue y)
      (send_sets_bit Request l s.sent s.cancelled i.agrees.bits i.agrees.balanced b one)

  -- then the event is kept or lost, or none is due
  pub kept_leaves : (marker : ℕ) (f : Frame) (time : ℕ)
      → Leaves (event_area w.state.regs) w (note_sent l b) (event_kept (after_send w b) marker f time)
  unfolding keep_rule
  kept_leaves marker f time =
      let s = w.state in
      let g = s.regs in
      let mem = w.memory in
      let legal = legal_in l w i in
      let next = event_kept (after_send w b) marker f time in
      let kept : OnlyIn (area_range (event_area g)) mem next.memory
      = arrival_keeps (event_area g) s.events mem (event_roomy g (length mem) legal).room
      (sound_of s w.recorded (length mem) i.fit).events false _ refl in
      let apart = own_apart g (length mem) legal 3 4 (omega arith) (omega arith) (λ e. omega arith) in
      record {
        agrees =
            elsewhere_agrees g (note_sent l b) (sent_state s b) mem sent_agrees (room_in l w i) next.state
            next.memory
            refl refl refl refl
            (only_apart (area_range (tx_area g)) (area_range (event_area g)) mem next.memory kept apart);
        state = record { regs = refl; fifo0 = refl; fifo1 = refl; newdata = refl };
        memory = kept;
      }

  pub sent_leaves : Leaves (event_area w.state.regs) w (note_sent l b) (after_send w b)
  sent_leaves = record {
    agrees = sent_agrees;
    state = record { regs = refl; fifo0 = refl; fifo1 = refl; newdata = refl };
    memory = only_none (area_range (event_area w.state.regs)) w.memory;
  }

pub report_leaves : ReportLeaves
report_leaves l w i b passive time =
    call_cases w [] (report_refusals w b) (leaves (reports w b passive time))
    (λ (o : Outcome World (Unit {0})).
    Leaves (event_area w.state.regs) w (noted l (λ t. note_sent l b) o.says) o.world)
    (λ n. leaves_all l w i (event_area w.state.regs))
    (λ e.
    let o = report_open w b e in
    let best = sym (choice_best l w.state w.memory i.agrees) ∙ o.chosen in
    let one = candidate_told l w.state w.memory i.agrees b
    ∙ (best_is l w.state w.memory i.agrees b best).one in
    let waits = best_pending l w.state w.memory i.agrees b best in
    report_cases w b passive time (Leaves (event_area w.state.regs) w (note_sent l b))
    (λ y. kept_leaves l w i b o.within one waits _ _ time)
    (λ n. sent_leaves l w i b o.within one waits))
