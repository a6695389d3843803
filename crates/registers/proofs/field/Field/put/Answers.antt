-- No bit of the number is shifted out of the word.
use native.Mathlib.Nat.{mod-eq_of_lt}
use Rattle.registers.proofs.Built.{placed_fits}
use Rattle.registers.proofs.field.Field.put.Goals as goal

pub returns : goal.returns
returns c = mod-eq_of_lt (placed_fits _ _ _ c.args.self.in_word.0 c.args.self.in_word.1 c.requires)
