-- What helpers ask of their callers. A reader of the promises need not read it.
use Rattle.std.specs.Prelude.{ℕ, ◌+◌, ◌^◌, ◌≤◌, ◌<◌, ◌≡◌, false}
use Rattle.ring.specs.Rings.{Fit}
use Rattle.element.specs.Fitting.{InFields}
use Rattle.element.specs.declared.TxHeader.{TxHeader}
use Rattle.places.specs.Areas.{HasPlace}
use Rattle.registers.specs.Fields.{shared, tx_count, is_queue}
use Rattle.areas.specs.Areas.{tx_area}
use Rattle.engine.specs.Fitness.{shared_ring_size}
use Rattle.engine.specs.declared.state.State.{State}

-- a request can be written to a buffer
pub record Requestable (s : State) (words buffer : ℕ) (h : TxHeader) : Type 0 where
  pub element : HasPlace (tx_area s.regs) buffer words
  pub bit : buffer < 32
  pub frame : InFields h.frame

-- of so many dedicated and shared buffers, no pending bit is past the last
pub record QueueFits (pending dedicated shared : ℕ) : Type 0 where
  pub few : dedicated + shared ≤ 32
  pub bits : pending < 2 ^ (dedicated + shared)

-- a free place can be looked for
pub record CanFindPlace (s : State) : Type 0 where
  pub few : tx_count s.regs ≤ 32
  pub bits : s.pending < 2 ^ tx_count s.regs
  pub ring : Fit s.shared (shared_ring_size s.regs)

-- the shared part can take one more: where it is a FIFO, it is not full
pub record SharedRoom (s : State) : Type 0 where
  pub ring : Fit s.shared (shared_ring_size s.regs)
  pub room : is_queue s.regs ≡ false → s.shared.fill < shared s.regs
