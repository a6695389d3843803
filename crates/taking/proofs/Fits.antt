-- An acknowledge and a release leave the state fit, and an acknowledge releases all held up to its place and no other.
-- Assumes nothing.
use Prim.Native.Nat.{ℕ, ◌^◌}
use mathlib.Core.Path.{◌≡◌, refl, sym, subst}
use mathlib.Core.Bool.{Bool, true, false}
use mathlib.Core.List.{[]}
use native.Mathlib.Nat.{lt_of_le_of_lt}
use native.Mathlib.Omega.{arith}
use lib.Dec.{eqb}
use lib.ListN.{length}
use Rattle.words.specs.Bits.{without_bit}
use Rattle.words.specs.Choice.{pick}
use Rattle.words.specs.Rules.{allowed, first}
use Rattle.words.proofs.BitLaws.{cleared_le}
use Rattle.ring.specs.Rings.{released_through}
use Rattle.ring.specs.declared.Ring.{Ring}
use Rattle.ring.proofs.Fitness.{fit_released_through}
use Rattle.shape.specs.Calls.{done, leaves}
use Rattle.shape.proofs.Calls.{call_cases}
use Rattle.registers.specs.Fields.{fifo_size}
use Rattle.engine.specs.Calls.{World, with_state, Outcome, is_unfit}
use Rattle.engine.specs.Holding.{YoungerStay}
use Rattle.engine.specs.States.{fifo_ring, with_fifo}
use Rattle.engine.specs.declared.state.State.{State}
use Rattle.engine.proofs.Holdings.{younger_stay}
use Rattle.engine.proofs.Parts.{with_fifo_sound, with_new_sound}
use Rattle.engine.proofs.Sounds.{sound_of, flags_of, fit_of}
use Rattle.taking.specs.Places.{fifo_refusals, buffer_refusals}
use Rattle.taking.specs.Promises.{AcknowledgeReleases}
use Rattle.taking.specs.Releasing.{released, emptied}
use Rattle.taking.proofs.Judgements.{fifo_open, buffer_open}

-- ---- fit stays fit

module _ (w : World) where
  pub acknowledge_fit : (fifo place : ℕ) → first (fifo_refusals w fifo place) ≡ allowed
      → is_unfit (with_state w (released w.state fifo place)) ≡ false
  unfolding released
  acknowledge_fit fifo place e =
      let o = fifo_open w fifo place e in
      let words = length w.memory in
      fit_of _ w.recorded words
      (with_fifo_sound w.state words fifo _ (sound_of w.state w.recorded words o.fit)
      (fit_released_through (fifo_ring w.state fifo) (fifo_size w.state.regs fifo) o.holds.ring place
      o.holds.holds))
      (flags_of w.state w.recorded words o.fit)

  pub release_fit : (buffer : ℕ) → first (buffer_refusals w buffer) ≡ allowed
      → is_unfit (with_state w (emptied w.state buffer)) ≡ false
  release_fit buffer e =
      let o = buffer_open w buffer e in
      let words = length w.memory in
      let sound = sound_of w.state w.recorded words o.fit in
      fit_of _ w.recorded words
      (with_new_sound w.state words (without_bit 64 w.state.newdata buffer) sound
      (lt_of_le_of_lt (cleared_le 64 w.state.newdata (2 ^ buffer)) sound.newdata))
      (flags_of w.state w.recorded words o.fit)

-- ---- what is released

-- the ring that was put in is the one that is there
pub ring_put : (s : State) (fifo : ℕ) (next : Ring) → fifo_ring (with_fifo s fifo next) fifo ≡ next
unfolding fifo_ring with_fifo
ring_put s fifo next = go (eqb fifo 0)
  where
    go : (b : Bool) → pick b (pick b next s.fifo0) (pick b s.fifo1 next) ≡ next
    go true = refl
    go false = refl

pub acknowledge_releases : AcknowledgeReleases
unfolding released
acknowledge_releases w fifo place =
    let s = w.state in
    let q = fifo_ring s fifo in
    let n = fifo_size s.regs fifo in
    call_cases w [] (fifo_refusals w fifo place) (leaves (with_state w (released s fifo place)))
    (λ (o : Outcome (Unit {0})). o.says ≡ done → YoungerStay q n place (fifo_ring o.world.state fifo))
    (λ k e. let z : ◌≡◌ {A = ℕ} 0 1 = cc in absurd (omega arith))
    (λ e said.
    subst (λ (x : Ring). YoungerStay q n place x) (sym (ring_put s fifo (released_through q n place)))
    (younger_stay q n place (fifo_open w fifo place e).holds))
