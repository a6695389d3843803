-- A sound state with one part changed is sound where the new part fits.
-- Assumes nothing.
use Prim.Native.Nat.{ℕ, ◌^◌, ◌<◌}
use mathlib.Core.Bool.{Bool, true, false}
use lib.Dec.{eqb}
use Rattle.words.specs.Choice.{pick}
use Rattle.ring.specs.Rings.{Fit}
use Rattle.ring.specs.declared.Ring.{Ring}
use Rattle.registers.specs.Fields.{fifo_word, fifo_size, buffers, event_size}
use Rattle.registers.specs.Kinds.{field, rxfc_count}
use Rattle.engine.specs.Fitness.{Sound}
use Rattle.engine.specs.States.{with_fifo, with_events, with_new_data}
use Rattle.engine.specs.declared.state.State.{State}

-- a state with these in the two FIFOs, the event list and the new-data bits
abbrev parted : State → Ring → Ring → Ring → ℕ → State
parted s fifo0 fifo1 events newdata = record {
  regs = s.regs;
  fifo0 = fifo0;
  fifo1 = fifo1;
  events = events;
  shared = s.shared;
  newdata = newdata;
  pending = s.pending;
  sent = s.sent;
  cancelled = s.cancelled;
}

parted_sound : (s : State) (words : ℕ) → Sound s words → {x y z : Ring} {bits : ℕ} → Fit x (fifo_size s.regs 0)
    → Fit y (fifo_size s.regs 1) → Fit z (event_size s.regs) → bits < 2 ^ buffers s.regs
    → Sound (parted s x y z bits) words
parted_sound s words h a b c d = record {
  legal = h.legal;
  fifo0 = a;
  fifo1 = b;
  events = c;
  shared = h.shared;
  pending = h.pending;
  sent = h.sent;
  cancelled = h.cancelled;
  newdata = d;
  held_bits = h.held_bits;
}

pub with_fifo_sound : (s : State) (words fifo : ℕ) (next : Ring) → Sound s words → Fit next (fifo_size s.regs fifo)
    → Sound (with_fifo s fifo next) words
unfolding with_fifo fifo_word
with_fifo_sound s words fifo next h f = go (eqb fifo 0) f
  where
    go : (b : Bool) → Fit next (field rxfc_count (pick b s.regs.rxf0c.word s.regs.rxf1c.word))
        → Sound (parted s (pick b next s.fifo0) (pick b s.fifo1 next) s.events s.newdata) words
    go true z = parted_sound s words h z h.fifo1 h.events h.newdata
    go false z = parted_sound s words h h.fifo0 z h.events h.newdata

pub with_events_sound : (s : State) (words : ℕ) (next : Ring) → Sound s words → Fit next (event_size s.regs)
    → Sound (with_events s next) words
with_events_sound s words next h f = parted_sound s words h h.fifo0 h.fifo1 f h.newdata

pub with_new_sound : (s : State) (words bits : ℕ) → Sound s words → bits < 2 ^ buffers s.regs
    → Sound (with_new_data s bits) words
with_new_sound s words bits h l = parted_sound s words h h.fifo0 h.fifo1 h.events l
