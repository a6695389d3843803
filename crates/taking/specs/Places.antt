-- The place in FIFO 0 or 1, or the Rx buffer, that a call names: there is no such (23), or it holds nothing (29).
use Rattle.std.specs.Prelude.{ℕ, Bool, not, ◌||◌, [], ◌∷◌, ltb, leb}
use Rattle.words.specs.Bits.{is_set}
use Rattle.ring.specs.Rings.{held}
use Rattle.shape.specs.Refusals.{Refusals}
use Rattle.registers.specs.Fields.{fifo_size, buffers}
use Rattle.engine.specs.Calls.{World, ◌when◌, is_unfit}
use Rattle.engine.specs.States.{fifo_ring}
use Rattle.engine.specs.declared.state.State.{State}

-- 23: no such FIFO, or no such element in it
abbrev pub no_place : State → ℕ → ℕ → Bool
no_place s fifo place = ltb 1 fifo || leb (fifo_size s.regs fifo) place

-- 29: the place is not held
abbrev pub place_free : State → ℕ → ℕ → Bool
place_free s fifo place = not (held (fifo_ring s fifo) (fifo_size s.regs fifo) place)

-- 23 and 29 of an Rx buffer: no such buffer; it holds no new data
abbrev pub no_rx_buffer : State → ℕ → Bool
no_rx_buffer s buffer = leb (buffers s.regs) buffer

abbrev pub buffer_free : State → ℕ → Bool
buffer_free s buffer = not (is_set s.newdata buffer)

-- what is against calls 3 and 4, and against calls 5 and 6
unfoldable pub fifo_refusals : World → ℕ → ℕ → Refusals
fifo_refusals w fifo place =
    20 when is_unfit w ∷ 23 when no_place w.state fifo place ∷ 29 when place_free w.state fifo place ∷ []

unfoldable pub buffer_refusals : World → ℕ → Refusals
buffer_refusals w buffer =
    20 when is_unfit w ∷ 23 when no_rx_buffer w.state buffer ∷ 29 when buffer_free w.state buffer ∷ []
