-- Nothing is against case A: its rules compute.
-- Assumes nothing.
use mathlib.Core.Path.{◌≡◌, refl}
use Rattle.words.specs.Least.{least_from}
use Rattle.words.specs.Rules.{allowed, first}
use Rattle.registers.specs.Fields.{fifo_word, fifo_code}
use Rattle.layout.specs.Sections.{section}
use Rattle.layout.specs.Verdict.{partner, rules}
use Rattle.handler.specs.Stars.{case_a}

pub none_refuses : first (rules (case_a 2560 0x00040260 0x06020428) 2560) ≡ allowed
unfolding least_from partner section fifo_word fifo_code
none_refuses = refl
