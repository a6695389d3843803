-- FIFO 0 and 1 as keepers of what is received.
use Rattle.std.specs.Prelude.{ℕ, ◌*◌}
use Rattle.registers.specs.Fields.{fifo_size, fifo_mark, overwrites}
use Rattle.registers.specs.declared.Registers.{Registers}
use Rattle.engine.specs.declared.keeping.Keeper.{Keeper}

-- size, watermark, mode and first flag of FIFO 0 or 1: its flags are 0 to 3, or 4 to 7
abbrev pub keeper_of : Registers → ℕ → Keeper
keeper_of g fifo =
    record { size = fifo_size g fifo; mark = fifo_mark g fifo; overwrites = overwrites g fifo; first = 4 * fifo }
