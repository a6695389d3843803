-- What helpers ask of their callers. A reader of the promises need not read it.
use Rattle.std.specs.Prelude.{ℕ, ◌+◌, ◌≤◌, ◌<◌, ◌≡◌, true}
use Rattle.ring.specs.Rings.{Fit, held}
use Rattle.ring.specs.declared.Ring.{Ring}
use Rattle.registers.specs.Fields.{dedicated, tx_count}
use Rattle.engine.specs.Fitness.{shared_ring_size}
use Rattle.engine.specs.declared.keeping.Keeper.{Keeper}
use Rattle.engine.specs.declared.state.State.{State}

-- place p of the shared FIFO can be looked at
pub record SharedFits (s : State) (p : ℕ) : Type 0 where
  pub ring : Fit s.shared (shared_ring_size s.regs)
  pub bit : dedicated s.regs + p < 32

-- every place of the shared FIFO can be looked at
pub record SharedCan (s : State) : Type 0 where
  pub ring : Fit s.shared (shared_ring_size s.regs)
  pub few : tx_count s.regs ≤ 32

-- a ring of the keeper's size, and flags that exist
pub record CanKeep (k : Keeper) (q : Ring) : Type 0 where
  pub ring : Fit q k.size
  pub flags : k.first ≤ 28

-- a place of a ring of this size is held
pub record HoldsPlace (q : Ring) (size place : ℕ) : Type 0 where
  pub ring : Fit q size
  pub holds : held q size place ≡ true
