-- Flags of a mask, raised.
use Rattle.std.specs.Prelude.{ℕ}
use Rattle.std.specs.Int.Bits.{bit_or}
use Rattle.engine.specs.States.{with_flags}
use Rattle.engine.specs.declared.state.Record.{Record}

-- ones set; the priority stays
unfoldable pub raised_mask : Record → ℕ → Record
raised_mask r mask = with_flags r (bit_or r.flags mask)
