-- Calls 10 and 11 from C.
use Rattle.std.specs.Prelude.{ℕ, true}
use Rattle.choosing.specs.Choosing.{ask_choice}
use Rattle.reporting.specs.Reporting.{report_sent}
use Rattle.c_words.specs.Words.{says_yes, is_yes_no}
use Rattle.c_answers.specs.Answers.{no_words, choice_words}
use Rattle.c_entering.specs.Entering.{Lent, Returned, has, crossing, world_of, in_words}

-- call 10
abbrev pub ask_choice_call : Lent → ℕ → Returned
ask_choice_call l passive =
    crossing l (has l.answer 16) (is_yes_no passive)
    (in_words l choice_words (ask_choice (world_of l) (says_yes passive) l.output))

-- call 11
abbrev pub report_sent_call : Lent → ℕ → ℕ → ℕ → Returned
report_sent_call l buffer passive time =
    crossing l true (is_yes_no passive)
    (in_words l no_words (report_sent (world_of l) buffer (says_yes passive) time))
