-- What stands in a Tx buffer's element.
use Rattle.std.specs.Prelude.{ℕ, List}
use Rattle.element.specs.Headers.{tx_header_in, headed}
use Rattle.element.specs.declared.TxHeader.{TxHeader}
use Rattle.places.specs.Areas.{place_in}
use Rattle.places.specs.declared.Area.{Area}
use Rattle.areas.specs.Areas.{tx_area}
use Rattle.engine.specs.declared.state.State.{State}

-- in the area of the Tx buffers
abbrev pub header_in : List ℕ → Area → ℕ → TxHeader
header_in mem a buffer = headed tx_header_in mem (place_in a buffer)

abbrev pub header_of : State → List ℕ → ℕ → TxHeader
header_of s mem buffer = header_in mem (tx_area s.regs) buffer
