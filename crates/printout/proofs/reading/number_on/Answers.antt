-- Digit by digit; k digits make a number below 16 ^ k, so that eight of them fit.
use Rattle.std.proofs.Common.{rules}
use Rattle.printout.proofs.Lines.{no_digits, one_more_digit, number_none, line_more, shifted_fits, number_fits}
use Rattle.printout.proofs.Lines.{no_line, no_newline, line_there, line_number}
use Rattle.printout.proofs.reading.number_on.Goals as goal

pub loop-byte-init : goal.loop-byte-init
loop-byte-init c = (no_digits _, number_none _ _)

pub overflow_mul-n : goal.overflow_mul-n
overflow_mul-n c = record { fits = search (shifted_fits, rules) }

pub returns-in_err-n : goal.returns-in_err-n
returns-in_err-n c =
    rw c.from_residual.ensures
    (no_line c.args.line.now c.loop-byte.byte-index (search rules) (c.in_err-n.ensures {u = tt}).value)

pub overflow_add-n : goal.overflow_add-n
overflow_add-n c = record { fits = search (number_fits, rules) }

pub loop-byte-preserved : goal.loop-byte-preserved
loop-byte-preserved c = (search (one_more_digit, rules), search (line_more, rules))

pub returns-then-line-eq10 : goal.returns-then-line-eq10
returns-then-line-eq10 c = (search (line_there, rules), search (line_number, rules))

pub returns-else-line-eq10 : goal.returns-else-line-eq10
returns-else-line-eq10 c = search (no_newline, rules)
