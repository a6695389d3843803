-- Calls 7, 8 and 9 from C.
use Rattle.std.specs.Prelude.{ℕ, true, ◌&&◌, List}
use Rattle.requesting.specs.Cancelling.{cancel}
use Rattle.requesting.specs.Requesting.{request_dedicated, request_shared}
use Rattle.c_words.specs.Frames.{plain_frame, unpack_request}
use Rattle.c_words.specs.Words.{is_yes_no}
use Rattle.c_answers.specs.Answers.{no_words, buffer_words}
use Rattle.c_entering.specs.Entering.{Lent, Returned, has, crossing, world_of, in_words}

-- call 7
abbrev pub request_dedicated_call : Lent → ℕ → List ℕ → List ℕ → ℕ → ℕ → Returned
request_dedicated_call l buffer frame bytes marker wish =
    crossing l (has frame 7 && has l.answer 16) (is_yes_no wish && plain_frame frame)
    (in_words l buffer_words (request_dedicated (world_of l) buffer (unpack_request frame marker wish) bytes))

-- call 8
abbrev pub request_shared_call : Lent → List ℕ → List ℕ → ℕ → ℕ → Returned
request_shared_call l frame bytes marker wish =
    crossing l (has frame 7 && has l.answer 16) (is_yes_no wish && plain_frame frame)
    (in_words l buffer_words (request_shared (world_of l) (unpack_request frame marker wish) bytes))

-- call 9
abbrev pub cancel_call : Lent → ℕ → Returned
cancel_call l buffer = crossing l true true (in_words l no_words (cancel (world_of l) buffer))
