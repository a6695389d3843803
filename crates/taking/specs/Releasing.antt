-- Calls 4 and 6, acknowledge in a FIFO and release an Rx buffer.
use Rattle.std.specs.Prelude.{ℕ, []}
use Rattle.words.specs.Bits.{without_bit}
use Rattle.ring.specs.Rings.{released_through}
use Rattle.shape.specs.Calls.{leaves, call}
use Rattle.registers.specs.Fields.{fifo_size}
use Rattle.engine.specs.Calls.{World, with_state, Outcome}
use Rattle.engine.specs.States.{fifo_ring, with_fifo, with_new_data}
use Rattle.engine.specs.declared.state.State.{State}
use Rattle.taking.specs.Places.{fifo_refusals, buffer_refusals}

-- all held in FIFO 0 or 1 up to and including a place are released
unfoldable pub released : State → ℕ → ℕ → State
released s fifo place = with_fifo s fifo (released_through (fifo_ring s fifo) (fifo_size s.regs fifo) place)

-- call 4
abbrev pub acknowledge_fifo : World → ℕ → ℕ → Outcome (Unit {0})
acknowledge_fifo w fifo place =
    call w [] (fifo_refusals w fifo place) (leaves (with_state w (released w.state fifo place)))

-- the new-data bit of an Rx buffer is cleared
abbrev pub emptied : State → ℕ → State
emptied s buffer = with_new_data s (without_bit 64 s.newdata buffer)

-- call 6
abbrev pub release_buffer : World → ℕ → Outcome (Unit {0})
release_buffer w buffer = call w [] (buffer_refusals w buffer) (leaves (with_state w (emptied w.state buffer)))
