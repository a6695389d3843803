-- What is written so far is the head and the first i rows.
use Rattle.std.proofs.Common.{rules, sym, ap, is_ok, refl}
use Rattle.printout.proofs.Rows.{no_rows, one_more_row}
use Rattle.std.proofs.Output.{has_written_append}
use Rattle.printout.proofs.AnswerDisplay.fmt.Goals as goal

pub loop-i-init : goal.loop-i-init
loop-i-init g c = λ p. rw (no_rows c.in-Accepted.sections) (search rules)

pub loop-i-preserved : goal.loop-i-preserved
loop-i-preserved g c =
    λ p.
    rw (sym (one_more_row c.in-Accepted.sections c.loop-i.i-counter _ _ refl refl))
    (has_written_append _ _ _ _ _ _ (c.loop-i.invariant p)
    (c.writeln-in-loop-i.ensures.writes (c.loop-i.invariant p).plain
    (ap is_ok (c.in_ok-writeln-in-Accepted-2.was {u = tt}))))
