-- Either the input is not read, or what is printed is what a start says of its registers.
use Rattle.std.proofs.Common.{rules}
use Rattle.printout.proofs.Told.{not_read, read_ok, read_refused}
use Rattle.printout.proofs.Short.{text_short}
use Rattle.printout.proofs.printout.Goals as goal

pub returns-in_default : goal.returns-in_default
returns-in_default c = search (not_read, rules)

pub returns-in-Ok-clause-bytes : goal.returns-in-Ok-clause-bytes
returns-in-Ok-clause-bytes c = search (read_ok, rules)

pub returns-in-Ok-clause-most : goal.returns-in-Ok-clause-most
returns-in-Ok-clause-most c = text_short _ _ (returns-in-Ok-clause-bytes c)

pub returns-in-Err-clause-bytes : goal.returns-in-Err-clause-bytes
returns-in-Err-clause-bytes c = search (read_refused, rules)

pub returns-in-Err-clause-most : goal.returns-in-Err-clause-most
returns-in-Err-clause-most c = text_short _ _ (returns-in-Err-clause-bytes c)
