-- What helpers ask of their callers. A reader of the promises need not read it.
use Rattle.std.specs.Prelude.{ℕ, ◌≤◌, ◌<◌, ◌≡◌, Option, Some}
use Rattle.ring.specs.Rings.{Fit}
use Rattle.places.specs.Areas.{Roomy, HasPlace}
use Rattle.places.specs.declared.Area.{Area}
use Rattle.frame.specs.declared.Frame.{Frame}
use Rattle.registers.specs.Fields.{fifo_size}
use Rattle.element.specs.Fitting.{index_of, InFields}
use Rattle.element.specs.Needs.{RxInFields}
use Rattle.element.specs.declared.Arrival.{Arrival}
use Rattle.engine.specs.Fitness.{Sound}
use Rattle.engine.specs.States.{fifo_ring}
use Rattle.engine.specs.declared.state.State.{State}
use Rattle.receiving.specs.Priority.{slot_place}

-- ---- storing

-- a place of an area in the memory, and an arrival that fits an element's fields
pub record CanStore (area : Area) (place : ℕ) (a : Arrival) (words : ℕ) : Type 0 where
  pub element : HasPlace area place words
  pub fields : RxInFields a

-- the same of a slot, if it has a place
pub record CanPut (area : Area) (slot : Option ℕ) (a : Arrival) (words : ℕ) : Type 0 where
  pub room : Roomy area words
  pub within : (p : ℕ) → slot ≡ Some p → p < area.count
  pub fields : RxInFields a

-- FIFO 0 or 1, whose ring fits its size
pub record RingFits (s : State) (fifo : ℕ) : Type 0 where
  pub number : fifo ≤ 1
  pub ring : Fit (fifo_ring s fifo) (fifo_size s.regs fifo)

-- ---- noting: what has to fit into the priority word

pub record Notable (a : Arrival) (outcome place : ℕ) : Type 0 where
  pub index : index_of a.matched < 128
  pub code : outcome < 4
  pub element : place < 64

-- of an arrival that went to a slot of FIFO 0 or 1
pub record SlotNotable (a : Arrival) (fifo : ℕ) (slot : Option ℕ) : Type 0 where
  pub index : index_of a.matched < 128
  pub number : fifo ≤ 1
  pub element : slot_place slot < 64

-- ---- a state that is fit, with a frame that is well-formed, and with an arrival by a filter list

pub record Ready (s : State) (f : Frame) (words : ℕ) : Type 0 where
  pub sound : Sound s words
  pub fields : InFields f

-- to FIFO 0 or 1
pub record ReadyFifo (s : State) (fifo : ℕ) (a : Arrival) (words : ℕ) : Type 0 where
  pub sound : Sound s words
  pub number : fifo ≤ 1
  pub fields : RxInFields a

-- to an Rx buffer
pub record ReadyBuffer (s : State) (buffer : ℕ) (a : Arrival) (words : ℕ) : Type 0 where
  pub sound : Sound s words
  pub number : buffer < s.regs.buffers
  pub fields : RxInFields a
