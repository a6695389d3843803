-- The cases of what is judged, one law each, and what is known where nothing is against a call.
-- Assumes nothing.
use Prim.Native.Nat.{ℕ, ◌≤◌, ◌<◌}
use mathlib.Core.Path.{◌≡◌, sym}
use mathlib.Core.Bool.{true, false}
use mathlib.Core.List.{List}
use borrow.Author.Tests.{ltb-false, leb-false, not-false}
use native.Mathlib.Omega.{arith}
use lib.Dec.{ltb, leb}
use lib.ListN.{length}
use Rattle.words.specs.Bits.{is_set}
use Rattle.words.specs.Rules.{allowed, first}
use Rattle.words.proofs.Choices.{or_neither}
use Rattle.words.proofs.Rulings.{all_three}
use Rattle.ring.specs.Rings.{Fit, held}
use Rattle.ring.proofs.Holding.{held_inside}
use Rattle.places.specs.Areas.{HasPlace}
use Rattle.registers.specs.Fields.{fifo_size, buffers}
use Rattle.layout.specs.Verdict.{plain}
use Rattle.areas.specs.Areas.{fifo_area, buffer_area}
use Rattle.areas.proofs.Rooms.{fifo_roomy, buffer_roomy}
use Rattle.engine.specs.Calls.{World, world, ◌when◌, is_unfit, output_refusals}
use Rattle.engine.specs.Fitness.{unfit}
use Rattle.engine.specs.Needs.{HoldsPlace}
use Rattle.engine.specs.States.{fifo_ring}
use Rattle.engine.specs.declared.state.State.{State}
use Rattle.engine.specs.declared.state.Record.{Record}
use Rattle.engine.proofs.Sounds.{sound_of, found_sound, ring_fits}
use Rattle.engine.proofs.Calls.{output_fits}
use Rattle.taking.specs.Needs.{CanRead}
use Rattle.taking.specs.Places.{no_place, place_free, no_rx_buffer, buffer_free, fifo_refusals, buffer_refusals}

-- ---- what the code finds

module _ (s : State) (r : Record) (words : ℕ) (e : allowed ≡ 20 when unfit s r words) where
  pub ring_tested : (fifo : ℕ) → Fit (fifo_ring s fifo) (fifo_size s.regs fifo)
  ring_tested fifo = ring_fits s words fifo (found_sound s r words e)

  pub bit_inside : (buffer : ℕ) → buffer < buffers s.regs → buffer < 64
  bit_inside buffer h = omega (arith, (found_sound s r words e).legal.counted.buffers)

-- ---- what is known where nothing is against a call

pub record FifoOpen (w : World) (fifo place : ℕ) : Type 0 where
  pub fit : is_unfit w ≡ false
  pub number : fifo ≤ 1
  pub holds : HoldsPlace (fifo_ring w.state fifo) (fifo_size w.state.regs fifo) place
  pub element : HasPlace (fifo_area w.state.regs fifo) place (length w.memory)

pub fifo_open : (w : World) (fifo place : ℕ) → first (fifo_refusals w fifo place) ≡ allowed → FifoOpen w fifo place
unfolding fifo_refusals
fifo_open w fifo place e =
    let p =
    all_three (is_unfit w) (no_place w.state fifo place) (place_free w.state fifo place) (plain 20) (plain 23)
    (plain 29) e in
    let n = fifo_size w.state.regs fifo in
    let words = length w.memory in
    let holds = not-false (held (fifo_ring w.state fifo) n place) p.2 in
    let sound = sound_of w.state w.recorded words p.0 in
    record {
      fit = p.0;
      number = ltb-false 1 fifo (or_neither (ltb 1 fifo) (leb n place) p.1).0;
      holds = record { ring = ring_fits w.state words fifo sound; holds = holds };
      element = record {
        room = fifo_roomy w.state.regs words sound.legal fifo;
        within = held_inside (fifo_ring w.state fifo) n place holds;
      };
    }

pub record BufferOpen (w : World) (buffer : ℕ) : Type 0 where
  pub fit : is_unfit w ≡ false
  pub few : buffers w.state.regs ≤ 64
  pub number : buffer < buffers w.state.regs
  pub full : is_set w.state.newdata buffer ≡ true
  pub element : HasPlace (buffer_area w.state.regs) buffer (length w.memory)

pub buffer_open : (w : World) (buffer : ℕ) → first (buffer_refusals w buffer) ≡ allowed → BufferOpen w buffer
unfolding buffer_refusals
buffer_open w buffer e =
    let p =
    all_three (is_unfit w) (no_rx_buffer w.state buffer) (buffer_free w.state buffer) (plain 20) (plain 23)
    (plain 29) e in
    let words = length w.memory in
    let sound = sound_of w.state w.recorded words p.0 in
    let number = leb-false (buffers w.state.regs) buffer p.1 in
    record {
      fit = p.0;
      few = sound.legal.counted.buffers;
      number = number;
      full = not-false (is_set w.state.newdata buffer) p.2;
      element = record { room = buffer_roomy w.state.regs words sound.legal; within = number };
    }

-- ---- the same, where nothing was found

module _ (s : State) (r : Record) (mem : List ℕ) where
  module _ (fifo place : ℕ) (e : allowed ≡ first (fifo_refusals (world s r mem) fifo place)) where
    pub holds_place : HoldsPlace (fifo_ring s fifo) (fifo_size s.regs fifo) place
    holds_place = (fifo_open (world s r mem) fifo place (sym e)).holds

    pub can_read_place : (out : List ℕ) → allowed ≡ first (output_refusals (length out))
        → CanRead mem (fifo_area s.regs fifo) place out
    can_read_place out o = record {
      element = (fifo_open (world s r mem) fifo place (sym e)).element;
      output = output_fits (length out) (sym o);
    }

  module _ (buffer : ℕ) (e : allowed ≡ first (buffer_refusals (world s r mem) buffer)) where
    pub buffer_few : buffers s.regs ≤ 64
    buffer_few = (buffer_open (world s r mem) buffer (sym e)).few

    pub buffer_small : buffer < 64
    buffer_small =
        let o = buffer_open (world s r mem) buffer (sym e) in omega (arith, o.few, o.number)

    pub can_read_buffer : (out : List ℕ) → allowed ≡ first (output_refusals (length out))
        → CanRead mem (buffer_area s.regs) buffer out
    can_read_buffer out o = record {
      element = (buffer_open (world s r mem) buffer (sym e)).element;
      output = output_fits (length out) (sym o);
    }
