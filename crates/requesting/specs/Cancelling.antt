-- Call 9, cancel.
use Rattle.std.specs.Prelude.{ℕ, not, [], ◌∷◌}
use Rattle.words.specs.Bits.{with_bit, without_bit}
use Rattle.shape.specs.Calls.{leaves, call}
use Rattle.shape.specs.Refusals.{Refusals}
use Rattle.engine.specs.Buffers.{no_tx_buffer, is_pending, in_shared_fifo}
use Rattle.engine.specs.Calls.{World, world, Outcome, Effect, ◌when◌, is_unfit}
use Rattle.engine.specs.Flags.{raised}
use Rattle.engine.specs.States.{with_tx}
use Rattle.engine.specs.declared.state.State.{State}

-- what is against it. A request in the shared FIFO is sent in its turn
unfoldable pub cancel_refusals : World → ℕ → Refusals
cancel_refusals w buffer =
    20 when is_unfit w
    ∷ 23 when no_tx_buffer w.state buffer
    ∷ 26 when in_shared_fifo w.state buffer
    ∷ 27 when not (is_pending w.state buffer)
    ∷ []

-- the buffer is no longer pending, but cancelled
abbrev pub cancelled_state : State → ℕ → State
cancelled_state s buffer =
    with_tx s s.shared (without_bit 32 s.pending buffer) s.sent (with_bit s.cancelled buffer)

-- flag 10 is set
abbrev pub cancels : World → ℕ → Effect (Unit {0})
cancels w buffer = leaves (world (cancelled_state w.state buffer) (raised w.recorded 10) w.memory)

-- call 9
abbrev pub cancel : World → ℕ → Outcome (Unit {0})
cancel w buffer = call w [] (cancel_refusals w buffer) (cancels w buffer)
