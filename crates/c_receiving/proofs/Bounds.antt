-- The filter index that a receive tells is below 128.
-- Assumes nothing.
use Rattle.std.proofs.Common.{ℕ, ◌<◌, ◌≡◌, sym, subst, List, Option, Some, None}
use Rattle.shape.specs.Calls.{Says, refuses, answers, outcome}
use Rattle.frame.specs.declared.Frame.{Frame}
use Rattle.element.specs.Fitting.{index_of}
use Rattle.engine.specs.Calls.{World, Outcome, Effect}
use Rattle.engine.specs.Keeping.{keep_rule}
use Rattle.engine.specs.States.{fifo_ring}
use Rattle.receiving.specs.Fifos.{keeper_of}
use Rattle.receiving.specs.Receive.{Fate, slot_says, into_fifo, into_buffer, into_nothing, receive}
use Rattle.receiving.proofs.Outcomes.{receives_cases, receive_cases}
use Rattle.c_answers.specs.Needs.{FateFits}

slot_fits : (fifo : ℕ) (m slot : Option ℕ) → index_of m < 128 → FateFits (slot_says fifo m slot)
slot_fits fifo m (Some p) h = h
slot_fits fifo m None h = h

-- what a receive says, if it answers
abbrev Fated : Says Fate → Type 0
Fated (refuses n) = Unit {0}
Fated (answers f) = FateFits f

module _ (w : World) (f : Frame) (d : List ℕ) (time : ℕ) where
  fates_fit : Fated (receive w f d time).says
  unfolding into_fifo into_buffer into_nothing
  fates_fit =
      let s = w.state in
      receive_cases w f d time (λ (o : Outcome Fate). Fated o.says) (λ n. tt)
      (λ o. receives_cases w f d time o (λ (e : Effect Fate). FateFits e.answer)
      (λ k priority m x. slot_fits k m (keep_rule (keeper_of s.regs k) (fifo_ring s k) w.recorded).slot)
      (λ b i x y z. z) (λ why m b. b))

  pub fate_told : (fate : Fate) (after : World) (out : List ℕ) → outcome (answers fate) after out ≡ receive w f d time
      → FateFits fate
  fate_told fate after out e = subst (λ (o : Outcome Fate). Fated o.says) (sym e) fates_fit
