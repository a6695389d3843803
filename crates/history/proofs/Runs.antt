-- The parts of demand 3, of every run: from the start on, the book agrees after each call.
-- Assumes nothing.
use Prim.Native.Nat.{ℕ, zero, suc, ◌≤◌}
use mathlib.Core.Path.{◌≡◌, refl, sym, ap, ◌∙◌}
use mathlib.Core.Bool.{Bool, true, false, true≢false}
use mathlib.Core.List.{List, [], ◌∷◌}
use native.Mathlib.Omega.{arith}
use lib.Dec.{eqb}
use lib.ListN.{length}
use Rattle.words.specs.Bits.{is_set}
use Rattle.words.specs.Choice.{pick}
use Rattle.words.specs.Rules.{allowed}
use Rattle.words.proofs.BitLaws.{bit_of_zero}
use Rattle.frame.specs.declared.Frame.{Frame}
use Rattle.registers.specs.declared.Registers.{Registers}
use Rattle.layout.specs.Legal.{Legal}
use Rattle.layout.specs.Verdict.{verdict, rules}
use Rattle.layout.proofs.Accepted.{accepted_is_legal}
use Rattle.filter.specs.Destination.{Goes, destination}
use Rattle.filter.proofs.OwnSection.{destination_reads_its_list}
use Rattle.areas.specs.Areas.{fifo_area, event_area}
use Rattle.areas.proofs.Rooms.{fifo_roomy, event_roomy}
use Rattle.shape.specs.Calls.{done}
use Rattle.shape.specs.Histories.{Told, told, trace}
use Rattle.shape.proofs.Calls.{call_answers}
use Rattle.engine.specs.Calls.{World}
use Rattle.engine.specs.States.{empty_state, fifo_ring}
use Rattle.starting.specs.Starting.{unreported, starts}
use Rattle.starting.proofs.Fits.{start_ruled, empty_is_fit}
use Rattle.books.specs.Lists.{tally, Each}
use Rattle.books.specs.Standing.{RingAgrees}
use Rattle.books.proofs.Holding.{empty_agrees}
use Rattle.books.proofs.Runs.{run_keeps, run_foretold}
use Rattle.requests.proofs.Holding.{start_agrees}
use Rattle.requests.proofs.Reporting.{reported_is_chosen}
use Rattle.handler.specs.Calls.{Call, start, ask_choice, report_sent, step}
use Rattle.history.specs.Books.{Book, empty_book, fifo_ledger, note}
use Rattle.history.specs.Demand3.{InTypes, is_started, Run, began, now, history, book_of, Answers, FiltersSuffice}
use Rattle.history.specs.Demand3.{SentInForm}
use Rattle.history.specs.Expected.{expect_by, expect}
use Rattle.history.specs.Standing.{BookAgrees}
use Rattle.history.proofs.Steps.{InRun, Standing, step_told, step_kept}

-- ---- the start

agreed_start : (g : Registers) (mem : List ℕ) → Legal g (length mem)
    → BookAgrees g mem empty_book (empty_state g) mem
unfolding fifo_ledger fifo_ring
agreed_start g mem legal = record {
  regs = refl;
  fifos = both;
  events = empty_agrees (event_area g) mem (event_roomy g (length mem) legal);
  requests = start_agrees g (empty_state g) mem refl refl refl refl;
  newdata = refl;
  buffers = record { inside = λ n e. absurd (empty n e); words = λ n e. absurd (empty n e) };
  rest = record { size = refl; words = λ k free. refl };
}
  where
    both : (fifo : ℕ) → fifo ≤ 1
        → RingAgrees (fifo_area g fifo) (fifo_ledger empty_book fifo) (fifo_ring (empty_state g) fifo) mem
    both zero l = empty_agrees (fifo_area g 0) mem (fifo_roomy g (length mem) legal 0)
    both (suc zero) l = empty_agrees (fifo_area g 1) mem (fifo_roomy g (length mem) legal 1)
    both (suc (suc k)) l = absurd (omega arith)

    empty : (n : ℕ) → is_set 0 n ≡ true → ⊥
    empty n e = true≢false (sym e ∙ ap (λ (x : ℕ). eqb x 1) (bit_of_zero n))

standing_start : (w : World) (g : Registers) → (step w (start g)).says ≡ done
    → Standing g w.memory empty_book (step w (start g)).world
standing_start w g e =
    let words = length w.memory in
    let p = call_answers w unreported (rules g words) (starts w g) tt e in
    let v : verdict g words ≡ allowed = sym (start_ruled g words) ∙ p.0 in
    rw p.1
    (record {
      fit = empty_is_fit g words v;
      agreed = agreed_start g w.memory ((accepted_is_legal g words).0 v);
    })

-- ---- the run

-- each call of it is one: none is an accepted start where they are counted to be 0
in_run : (w : World) (cs : List Call) → Each InTypes cs → tally is_started (trace step w cs) ≡ 0
    → Each InRun (trace step w cs)
unfolding tally
in_run w [] typed none = tt
in_run w (c ∷ cs) typed none = (
  (typed.0, not_one (is_started (c, told (step w c))) refl),
  in_run (step w c).world cs typed.1 (omega arith),
)
  where
    not_one : (t : Bool) → is_started (c, told (step w c)) ≡ t → is_started (c, told (step w c)) ≡ false
    not_one true e = absurd (omega (arith, ap (λ (b : Bool). pick {A = ℕ} b 1 0) e))
    not_one false e = e

module _ (r : Run) where
  abbrev mem : List ℕ
  mem = r.before.memory

  abbrev kept : (b : Book) (w : World) (c : Call) → InRun (c, told (step w c)) → Standing r.regs mem b w
      → Standing r.regs mem (note r.regs b c (step w c).says) (step w c).world
  kept b w c i h = step_kept r.regs mem b w h c i

  pub begins : Standing r.regs mem empty_book (began r)
  begins = standing_start r.before r.regs r.accepted

  pub each : Each InRun (history r)
  each = in_run (began r) r.calls r.typed r.last

  pub standing : Standing r.regs mem (book_of r) (now r)
  standing =
      run_keeps step (note r.regs) InRun (Standing r.regs mem) kept empty_book (began r) r.calls each begins

  pub every_answer : Answers r
  every_answer =
      run_foretold step (note r.regs) InRun (Standing r.regs mem) kept
      (expect r.regs mem) (λ b w c h. step_told r.regs mem b w h c) empty_book (began r) r.calls each begins

  -- the form in which a request is sent
  pub sent_in_form : SentInForm r
  sent_in_form buffer passive time out e size =
      let b = book_of r in
      let reported = step_told r.regs mem b (now r) standing (report_sent buffer passive time) in
      step_told r.regs mem b (now r) standing (ask_choice passive out)
      ∙ reported_is_chosen r.regs b.requests buffer passive out
      (ap (λ (t : Told (Unit {0})). t.says) (sym reported) ∙ e) size

pub filters_suffice : (g : Registers) (began : List ℕ) → FiltersSuffice g began
filters_suffice g began other same b c =
    ap (λ (n : ℕ). expect_by g n (destination g began) b c) (sym (same true).size)
    ∙ ap (λ (goes : Frame → ℕ → Goes). expect_by g (length other) goes b c)
    (λ i f n. destination_reads_its_list g began other f n (same f.xtd) i)
