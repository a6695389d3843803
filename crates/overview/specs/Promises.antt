-- What is promised of status: a statement only.
use Rattle.std.specs.Prelude.{◌≡◌}
use Rattle.words.specs.Bits.{is_set, how_many}
use Rattle.shape.specs.Calls.{answers}
use Rattle.registers.specs.Fields.{tx_count}
use Rattle.engine.specs.Calls.{World}
use Rattle.overview.specs.Overview.{report_status}
use Rattle.overview.specs.declared.Overview.{Overview}

-- the number that it gives is how many Tx buffers are pending
abbrev pub PendingIsCounted : Type 0
PendingIsCounted =
    (w : World) (t : Overview) → (report_status w).says ≡ answers t
    → t.pending ≡ how_many (is_set w.state.pending) (tx_count w.state.regs)
