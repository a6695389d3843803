-- Where a FIFO keeps an arrival.
-- Assumes nothing.
use Rattle.std.proofs.Common.{Some}
use Prim.Native.Nat.{ℕ, ◌≤◌, ◌<◌}
use mathlib.Core.Path.{◌≡◌}
use native.Mathlib.Omega.{arith}
use Rattle.registers.specs.Fields.{fifo_size}
use Rattle.engine.specs.Fitness.{Sound}
use Rattle.engine.specs.Keeping.{keep_rule}
use Rattle.engine.specs.States.{fifo_ring}
use Rattle.engine.specs.declared.state.State.{State}
use Rattle.engine.specs.declared.state.Record.{Record}
use Rattle.engine.proofs.Keeps.{kept_within}
use Rattle.engine.proofs.Sounds.{ring_fits}
use Rattle.receiving.specs.Fifos.{keeper_of}

-- a slot's place is one of the FIFO's
pub slot_within : (s : State) (words fifo : ℕ) (r : Record) → Sound s words → fifo ≤ 1
    → (p : ℕ) → (keep_rule (keeper_of s.regs fifo) (fifo_ring s fifo) r).slot ≡ Some p → p < fifo_size s.regs fifo
slot_within s words fifo r h l =
    kept_within (keeper_of s.regs fifo) (fifo_ring s fifo) r
    (record { ring = ring_fits s words fifo h; flags = omega arith })
