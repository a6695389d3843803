-- What is promised of a start: statements only.
use Rattle.std.specs.Prelude.{ℕ, ◌≡◌, false, List}
use Rattle.shape.specs.Calls.{done}
use Rattle.ring.specs.declared.Ring.{Ring}
use Rattle.registers.specs.declared.Registers.{Registers}
use Rattle.engine.specs.Calls.{World, is_unfit}
use Rattle.starting.specs.Starting.{start}

-- an accepted start, from any world, gives a fit one
abbrev pub StartIsFit : Type 0
StartIsFit = (w : World) (g : Registers) → (start w g).says ≡ done → is_unfit (start w g).world ≡ false

-- a ring's oldest place and fill are both 0
pub record EmptyRing (q : Ring) : Type 0 where
  pub oldest : q.oldest ≡ 0
  pub fill : q.fill ≡ 0

-- a world as an accepted start leaves it: an empty state, a record of 0, and the memory that there was
pub record Fresh (g : Registers) (memory : List ℕ) (w : World) : Type 0 where
  -- the registers as given
  pub registers : w.state.regs ≡ g
  -- nothing in FIFO 0 and 1, in the list of events and in a shared FIFO
  pub fifo0 : EmptyRing w.state.fifo0
  pub fifo1 : EmptyRing w.state.fifo1
  pub events : EmptyRing w.state.events
  pub shared : EmptyRing w.state.shared
  -- no new-data bit of an Rx buffer, no pending, sent or cancelled bit of a Tx buffer
  pub newdata : w.state.newdata ≡ 0
  pub pending : w.state.pending ≡ 0
  pub sent : w.state.sent ≡ 0
  pub cancelled : w.state.cancelled ≡ 0
  -- no flag, and no priority
  pub flags : w.recorded.flags ≡ 0
  pub priority : w.recorded.priority ≡ 0
  -- never written
  pub unwritten : w.memory ≡ memory

-- an accepted start, from any world, leaves a fresh one
abbrev pub StartIsFresh : Type 0
StartIsFresh =
    (w : World) (g : Registers) → (start w g).says ≡ done → Fresh g w.memory (start w g).world
