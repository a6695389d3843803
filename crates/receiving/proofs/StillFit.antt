-- A state and a record that are fit stay fit through a receive.
-- Assumes nothing.
use Prim.Native.Nat.{ℕ, ◌≤◌, ◌<◌}
use mathlib.Core.Path.{◌≡◌, refl, sym, subst}
use mathlib.Core.Bool.{Bool, false}
use mathlib.Core.List.{List}
use native.Mathlib.Omega.{arith}
use lib.Dec.{eqb}
use lib.ListN.{length}
use Rattle.words.specs.Bits.{with_bit}
use Rattle.words.specs.Rules.{allowed, first}
use Rattle.words.proofs.BitLaws.{set_lt}
use Rattle.frame.specs.declared.Frame.{Frame}
use Rattle.element.specs.declared.Arrival.{Arrival}
use Rattle.engine.specs.Calls.{World, Effect, is_unfit}
use Rattle.engine.specs.Fitness.{unfit, FlagsSound}
use Rattle.engine.specs.States.{fifo_ring}
use Rattle.engine.specs.declared.state.Record.{Record}
use Rattle.engine.proofs.Parts.{with_fifo_sound, with_new_sound}
use Rattle.engine.proofs.Records.{raised_sound, either_sound, priority_sound, kept_fit, kept_flags_sound}
use Rattle.engine.proofs.Sounds.{flags_of, fit_of, ring_fits}
use Rattle.receiving.specs.Fifos.{keeper_of}
use Rattle.receiving.specs.Priority.{prioritised}
use Rattle.receiving.specs.Receive.{Fate, receive_refusals, into_fifo, into_buffer, into_nothing, receives}
use Rattle.receiving.proofs.Elements.{receive_memory}
use Rattle.receiving.proofs.Judgements.{ReceiveOpen, receive_open}
use Rattle.receiving.proofs.Outcomes.{receives_cases}

prioritised_sound : (r : Record) (a : Arrival) (outcome place : ℕ) → FlagsSound r
    → FlagsSound (prioritised r a outcome place)
prioritised_sound r a outcome place h = priority_sound _ _ (raised_sound r 8 refl h)

module _ (w : World) (f : Frame) (d : List ℕ) (time : ℕ) (passed : ReceiveOpen w f (length d)) where
  abbrev words : ℕ
  words = length w.memory

  abbrev Fits : Effect Fate → Type 0
  Fits e = unfit e.world.state e.world.recorded words ≡ false

  flags : FlagsSound w.recorded
  flags = flags_of w.state w.recorded words passed.fit

  fifo_fits : (k : ℕ) (priority : Bool) (a : Arrival) → k ≤ 1 → Fits (into_fifo w k priority a d)
  unfolding into_fifo
  fifo_fits k priority a l =
      let keeper = keeper_of w.state.regs k in
      let q = fifo_ring w.state k in
      let kept = kept_flags_sound keeper q w.recorded (omega arith) flags in
      fit_of _ _ words
      (with_fifo_sound w.state words k _ passed.sound
      (kept_fit keeper q w.recorded (ring_fits w.state words k passed.sound)))
      (either_sound priority _ _ (prioritised_sound _ a _ _ kept) kept)

  buffer_fits : (b : ℕ) (a : Arrival) → b < w.state.regs.buffers → Fits (into_buffer w b a d)
  unfolding into_buffer
  buffer_fits b a l =
      fit_of _ _ words
      (with_new_sound w.state words (with_bit w.state.newdata b) passed.sound
      (set_lt w.state.regs.buffers w.state.newdata b passed.sound.newdata l))
      (raised_sound w.recorded 19 refl flags)

  nowhere_fits : (why : ℕ) (a : Arrival) → Fits (into_nothing w why a)
  unfolding into_nothing
  nowhere_fits why a =
      fit_of w.state _ words passed.sound
      (either_sound (eqb why 3) _ w.recorded (prioritised_sound w.recorded a 0 0 flags) flags)

  effect_fits : Fits (receives w f d time)
  effect_fits =
      receives_cases w f d time passed Fits
      (λ k priority m l x. fifo_fits k priority _ l) (λ b i l z x. buffer_fits b _ l) (λ why m x. nowhere_fits why _)

pub receive_fit : (w : World) (f : Frame) (d : List ℕ) (time : ℕ) → first (receive_refusals w f (length d)) ≡ allowed
    → is_unfit (receives w f d time).world ≡ false
receive_fit w f d time e =
    subst (λ (n : ℕ). unfit (receives w f d time).world.state (receives w f d time).world.recorded n ≡ false)
    (sym (receive_memory w f d time e).size) (effect_fits w f d time (receive_open w f (length d) e))
