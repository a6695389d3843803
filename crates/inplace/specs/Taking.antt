-- Flags taken from a record: given back, and no longer up in it.
use Rattle.std.specs.Prelude.{ℕ}
use Rattle.engine.specs.States.{with_flags}
use Rattle.engine.specs.declared.state.Record.{Record}

abbrev pub taken : Record → ℕ
taken r = r.flags

-- the priority stays
abbrev pub without_flags : Record → Record
without_flags r = with_flags r 0
