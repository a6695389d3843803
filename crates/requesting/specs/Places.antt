-- The buffer in the shared part that a request takes, and the Tx buffers after a request.
use Rattle.std.specs.Prelude.{ℕ, ◌+◌, Bool, not, ltb, leb, Option}
use Rattle.std.specs.Bool.{then_some}
use Rattle.words.specs.Bits.{is_set, with_bit, without_bit}
use Rattle.words.specs.Choice.{pick}
use Rattle.words.specs.Least.{least_from}
use Rattle.ring.specs.Rings.{put_place, pushed}
use Rattle.ring.specs.declared.Ring.{Ring}
use Rattle.registers.specs.Fields.{dedicated, shared, is_queue}
use Rattle.engine.specs.States.{with_tx}
use Rattle.engine.specs.declared.state.State.{State}

-- a new request clears the buffer's sent and cancelled bits
abbrev pub requested : State → Ring → ℕ → State
requested s ring buffer =
    with_tx s ring
    (with_bit s.pending buffer)
    (without_bit 32 s.sent buffer)
    (without_bit 32 s.cancelled buffer)

-- of a queue, the first place after the dedicated buffers whose pending bit is clear, or how many there are
unfoldable pub queue_place : ℕ → ℕ → ℕ → ℕ
queue_place pending dedicated shared = least_from (λ p. not (is_set pending (dedicated + p))) 0 shared

-- of a FIFO, its put place, or its size where it is full
unfoldable pub fifo_place : Ring → ℕ → ℕ
fifo_place q size = pick (ltb q.fill size) (put_place q size) size

-- the place in the shared part that a request takes, or how many there are where none is free
unfoldable pub free_place : State → ℕ
free_place s =
    pick (is_queue s.regs)
    (queue_place s.pending (dedicated s.regs) (shared s.regs))
    (fifo_place s.shared (shared s.regs))

-- a place of so many, and none where it is as many as they are
abbrev pub below : ℕ → ℕ → Option ℕ
below count place = then_some (ltb place count) place

-- 25: no shared buffer is free, or none exist
abbrev pub none_free : State → Bool
none_free s = leb (shared s.regs) (free_place s)

-- the buffer at that place
abbrev pub free_buffer : State → ℕ
free_buffer s = dedicated s.regs + free_place s

-- the shared ring after a request: a FIFO's has one more, a queue has none
abbrev pub shared_after : State → Ring
shared_after s = pick (is_queue s.regs) s.shared (pushed s.shared)
