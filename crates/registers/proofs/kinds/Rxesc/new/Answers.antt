-- The fields stand apart, so each holds its number and no other bit is set.
use native.Mathlib.Omega.{arith}
use mathlib.Core.Path.{refl}
use Rattle.registers.specs.Kinds.{rxesc}
use Rattle.registers.proofs.Built.{built}
use Rattle.registers.proofs.kinds.Rxesc.new.Goals as goal

pub returns : goal.returns
returns c = built rxesc _ _ refl c.requires (grind arith)
