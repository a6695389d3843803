-- What is written so far is the head and the first i rows.
use Rattle.std.specs.Fmt.{HasWritten, IsPlainFormatter}
use Rattle.printout.specs.Printed.{rows}
use Rattle.printout.proofs.AnswerDisplay.fmt.Given as goal

abbrev pub invariant-loop-i : goal.invariant-loop-i
invariant-loop-i g l =
    IsPlainFormatter l.initial.f → HasWritten g.W.Write.write_str_gives l.initial.f (rows l.sections l.i-counter) l.f
