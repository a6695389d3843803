-- Digit by digit; k digits make a number below 16 ^ k, so that eight of them fit.
use Rattle.std.proofs.Common.{◌≡◌}
use Rattle.printout.specs.Input.{number_from}
use Rattle.printout.proofs.Lines.{Digits}
use Rattle.printout.proofs.reading.number_on.Given as goal

abbrev pub invariant-loop-byte : goal.invariant-loop-byte
invariant-loop-byte l = Digits l.line l.byte-index × (l.n ≡ number_from l.line 0 l.byte-index)
