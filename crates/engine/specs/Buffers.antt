-- Tx buffers: the dedicated ones first, then the shared ones, which are a FIFO or a queue.
use Rattle.std.specs.Prelude.{ℕ, Bool, not, ◌&&◌, leb}
use Rattle.words.specs.Bits.{is_set}
use Rattle.registers.specs.Fields.{dedicated, tx_count, is_queue}
use Rattle.engine.specs.declared.state.State.{State}

-- 23: no such buffer
abbrev pub no_tx_buffer : State → ℕ → Bool
no_tx_buffer s buffer = leb (tx_count s.regs) buffer

abbrev pub is_pending : State → ℕ → Bool
is_pending s buffer = is_set s.pending buffer

-- a buffer of the shared part, where it is a FIFO
abbrev pub in_shared_fifo : State → ℕ → Bool
in_shared_fifo s buffer = leb (dedicated s.regs) buffer && not (is_queue s.regs)
