-- Calls 1, 14 and 15 from C, and a state that was never started.
use Rattle.std.specs.Prelude.{ℕ, true, ◌&&◌, List}
use Rattle.words.specs.Choice.{pick}
use Rattle.words.specs.Runs.{splice}
use Rattle.shape.specs.Calls.{Says, refuses, answers, done}
use Rattle.engine.specs.Calls.{World, Outcome}
use Rattle.engine.specs.States.{never_started}
use Rattle.starting.specs.Starting.{start}
use Rattle.overview.specs.Overview.{clear_flags, report_status}
use Rattle.c_words.specs.States.{register_words, state_words, plain_registers, unpack_registers, pack_state}
use Rattle.c_answers.specs.Answers.{no_words, start_words, overview_words}
use Rattle.c_entering.specs.Entering.{Lent, lent, Returned, returned, has, entering, sized, crossing}
use Rattle.c_entering.specs.Entering.{world_of, leaving, in_words}

-- a state for which every call but a start answers 20
abbrev pub never_started_call : Lent → Returned
never_started_call l =
    pick (has l.state state_words)
    (returned 0 (lent (pack_state never_started) l.recorded l.memory l.answer l.output))
    (returned 100 l)

-- a refused start tells the sections that it names, and leaves the rest; an accepted one tells its output, the
-- sections, in the answer
abbrev pub start_in : Lent → World → List ℕ → Says (Unit {0}) → Returned
start_in l w sections (refuses n) =
    returned n.number
    (lent l.state l.recorded l.memory (splice l.answer 0 (start_words (refuses n) sections)) l.output)
start_in l w sections (answers u) = returned 0 (leaving l w (start_words done sections) l.output)

abbrev pub start_in_words : Lent → Outcome (Unit {0}) → Returned
start_in_words l o = start_in l o.world o.output o.says

-- call 1: the old state may be any words
abbrev pub start_call : Lent → List ℕ → Returned
start_call l registers =
    entering l (sized l.state l.recorded && (has registers register_words && has l.answer 16))
    (plain_registers registers)
    (start_in_words l (start (world_of l) (unpack_registers registers)))

-- call 14
abbrev pub clear_call : Lent → ℕ → Returned
clear_call l mask = crossing l true true (in_words l no_words (clear_flags (world_of l) mask))

-- call 15
abbrev pub status_call : Lent → Returned
status_call l = crossing l (has l.answer 16) true (in_words l overview_words (report_status (world_of l)))
