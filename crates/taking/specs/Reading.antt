-- Calls 3 and 5, read in a FIFO and read an Rx buffer.
use Rattle.std.specs.Prelude.{ℕ, List, ◌++◌, length}
use Rattle.words.specs.Runs.{splice}
use Rattle.shape.specs.Calls.{effect, call}
use Rattle.places.specs.Areas.{place_in}
use Rattle.places.specs.declared.Area.{Area}
use Rattle.element.specs.Bytes.{rx_read, read_bytes}
use Rattle.element.specs.declared.RxRead.{RxRead}
use Rattle.areas.specs.Areas.{fifo_area, buffer_area, data_words}
use Rattle.engine.specs.Calls.{World, Outcome, Effect, output_refusals}
use Rattle.taking.specs.Places.{fifo_refusals, buffer_refusals}

-- the element at a place: min(frame, element) bytes go to the front of the output, and the rest stays
unfoldable pub reads : World → Area → ℕ → List ℕ → Effect RxRead
reads w a place out =
    effect (rx_read w.memory (place_in a place) (data_words a)) w
    (splice out 0 (read_bytes w.memory (place_in a place) (data_words a)))

-- call 3
abbrev pub read_fifo : World → ℕ → ℕ → List ℕ → Outcome RxRead
read_fifo w fifo place out =
    call w out (fifo_refusals w fifo place ++ output_refusals (length out))
    (reads w (fifo_area w.state.regs fifo) place out)

-- call 5
abbrev pub read_buffer : World → ℕ → List ℕ → Outcome RxRead
read_buffer w buffer out =
    call w out (buffer_refusals w buffer ++ output_refusals (length out))
    (reads w (buffer_area w.state.regs) buffer out)
