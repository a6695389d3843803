-- What is known where nothing is against a report.
-- Assumes nothing.
use Prim.Native.Nat.{ℕ, ◌<◌}
use mathlib.Core.Path.{◌≡◌, sym, ap}
use mathlib.Core.Bool.{true, false, not}
use mathlib.Core.List.{List, [], ◌∷◌}
use borrow.Author.Tests.{leb-false, not-false, eqb-true}
use lib.ListN.{length}
use Rattle.words.specs.Best.{Best, nobody, somebody}
use Rattle.words.specs.Rules.{allowed, first}
use Rattle.words.proofs.Bests.{best_wins}
use Rattle.registers.specs.Fields.{tx_count}
use Rattle.engine.specs.Buffers.{no_tx_buffer}
use Rattle.engine.specs.Calls.{World, world, ◌when◌, is_unfit}
use Rattle.engine.specs.Fitness.{Sound}
use Rattle.engine.specs.declared.state.State.{State}
use Rattle.engine.specs.declared.state.Record.{Record}
use Rattle.engine.proofs.Calls.{row_off}
use Rattle.engine.proofs.Sounds.{sound_of}
use Rattle.choosing.specs.Choosing.{is_candidate, rank_at, choice}
use Rattle.reporting.specs.Reporting.{is_chosen, report_refusals}
use Rattle.reporting.specs.Needs.{Reportable}

pub record ReportOpen (w : World) (buffer : ℕ) : Type 0 where
  pub fit : is_unfit w ≡ false
  pub sound : Sound w.state (length w.memory)
  pub within : buffer < tx_count w.state.regs
  pub chosen : choice w.state w.memory ≡ somebody buffer

pub chosen_is : (m : Best) (buffer : ℕ) → is_chosen m buffer ≡ true → m ≡ somebody buffer
chosen_is nobody buffer t = cc
chosen_is (somebody b) buffer t = ap somebody (eqb-true b buffer t)

pub report_open : (w : World) (buffer : ℕ) → first (report_refusals w buffer) ≡ allowed → ReportOpen w buffer
unfolding report_refusals
report_open w buffer e =
    let s = w.state in
    let best = choice s w.memory in
    let p = row_off 20 _ (23 when no_tx_buffer s buffer ∷ 28 when not (is_chosen best buffer) ∷ []) e in
    let q = row_off 23 _ (28 when not (is_chosen best buffer) ∷ []) p.1 in
    record {
      fit = p.0;
      sound = sound_of s w.recorded (length w.memory) p.0;
      within = leb-false (tx_count s.regs) buffer q.0;
      chosen = chosen_is best buffer (not-false (is_chosen best buffer) (row_off 28 _ [] q.1).0);
    }

-- the choice is a candidate
pub open_candidate : (w : World) (buffer : ℕ) → ReportOpen w buffer → is_candidate w.state buffer ≡ true
unfolding choice
open_candidate w buffer o =
    let s = w.state in
    (best_wins (is_candidate s) (rank_at s w.memory) (tx_count s.regs) buffer o.chosen).one

-- the same, where nothing was found
pub reportable : (s : State) (r : Record) (mem : List ℕ) (buffer : ℕ)
    → allowed ≡ first (report_refusals (world s r mem) buffer) → Reportable s (length mem) buffer
reportable s r mem buffer e =
    let o = report_open (world s r mem) buffer (sym e) in
    record { sound = o.sound; within = o.within; candidate = open_candidate (world s r mem) buffer o }
