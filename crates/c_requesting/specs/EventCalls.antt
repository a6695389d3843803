-- Calls 12 and 13 from C.
use Rattle.std.specs.Prelude.{ℕ, true}
use Rattle.events.specs.Events.{read_event, acknowledge_event}
use Rattle.c_answers.specs.Answers.{no_words, event_words}
use Rattle.c_entering.specs.Entering.{Lent, Returned, has, crossing, world_of, in_words}

-- call 12
abbrev pub read_event_call : Lent → ℕ → Returned
read_event_call l place = crossing l (has l.answer 16) true (in_words l event_words (read_event (world_of l) place))

-- call 13
abbrev pub acknowledge_event_call : Lent → ℕ → Returned
acknowledge_event_call l place = crossing l true true (in_words l no_words (acknowledge_event (world_of l) place))
