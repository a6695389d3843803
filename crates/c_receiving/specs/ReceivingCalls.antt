-- Calls 2 to 6 from C.
use Rattle.std.specs.Prelude.{ℕ, true, ◌&&◌, List}
use Rattle.receiving.specs.Receive.{receive}
use Rattle.taking.specs.Reading.{read_fifo, read_buffer}
use Rattle.taking.specs.Releasing.{acknowledge_fifo, release_buffer}
use Rattle.c_words.specs.Frames.{plain_frame, unpack_frame}
use Rattle.c_answers.specs.Answers.{no_words, fate_words, read_words}
use Rattle.c_entering.specs.Entering.{Lent, Returned, has, crossing, world_of, in_words}

-- call 2
abbrev pub receive_call : Lent → List ℕ → List ℕ → ℕ → Returned
receive_call l frame bytes time =
    crossing l (has frame 7 && has l.answer 16) (plain_frame frame)
    (in_words l fate_words (receive (world_of l) (unpack_frame frame) bytes time))

-- call 3
abbrev pub read_fifo_call : Lent → ℕ → ℕ → Returned
read_fifo_call l fifo place =
    crossing l (has l.answer 16) true (in_words l read_words (read_fifo (world_of l) fifo place l.output))

-- call 4
abbrev pub acknowledge_fifo_call : Lent → ℕ → ℕ → Returned
acknowledge_fifo_call l fifo place = crossing l true true (in_words l no_words (acknowledge_fifo (world_of l) fifo place))

-- call 5
abbrev pub read_buffer_call : Lent → ℕ → Returned
read_buffer_call l buffer =
    crossing l (has l.answer 16) true (in_words l read_words (read_buffer (world_of l) buffer l.output))

-- call 6
abbrev pub release_buffer_call : Lent → ℕ → Returned
release_buffer_call l buffer = crossing l true true (in_words l no_words (release_buffer (world_of l) buffer))
