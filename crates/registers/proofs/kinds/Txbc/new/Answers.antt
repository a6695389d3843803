-- The fields stand apart, so each holds its number and no other bit is set.
use native.Mathlib.Omega.{arith}
use mathlib.Core.Path.{refl}
use Rattle.registers.specs.Kinds.{txbc}
use Rattle.registers.proofs.Built.{built}
use Rattle.registers.proofs.kinds.Txbc.new.Goals as goal

pub returns : goal.returns
returns c = built txbc _ _ refl c.requires (grind arith)
