-- No two answers of the code mean the same.
-- Assumes nothing.
use mathlib.Core.Path.{◌≡◌, refl, sym, ap, ◌∙◌}
use lib.Dec.{eqb}
use Rattle.words.specs.Choice.{pick}
use Rattle.words.specs.Rules.{Ruling, allowed, refused}
use Rattle.shape.specs.Refusals.{Refusal}
use Rattle.layout.specs.Verdict.{meaning, refusal_of}
use Rattle.layout.specs.Promises.{OneAnswer}
use Rattle.layout.specs.declared.check.LayoutRefusal.{LayoutRefusal}
use Rattle.layout.specs.declared.check.LayoutRefusal.TheVariants.{WrongMemory, UnnamedBit, CountOver, TxOver}
use Rattle.layout.specs.declared.check.LayoutRefusal.TheVariants.{PastMemory, Overlap}
use Rattle.std.specs.Prelude.{Result, Ok, Err}

-- the refusal that is said so
pub refusal : Refusal → LayoutRefusal
refusal a =
    pick (eqb a.number 10) WrongMemory
    (pick (eqb a.number 11) UnnamedBit
    (pick (eqb a.number 12) (CountOver a.section)
    (pick (eqb a.number 13) TxOver
    (pick (eqb a.number 14) (PastMemory a.section)
    (Overlap a.section a.other)))))

pub refusal_back : (n : LayoutRefusal) → refusal (refusal_of n) ≡ n
unfolding refusal
refusal_back WrongMemory = refl
refusal_back UnnamedBit = refl
refusal_back (CountOver i) = refl
refusal_back TxOver = refl
refusal_back (PastMemory i) = refl
refusal_back (Overlap i j) = refl

-- the answer that has a meaning
answer : Ruling Refusal → Result (Unit {0}) LayoutRefusal
answer allowed = Ok tt
answer (refused a) = Err (refusal a)

back : (v : Result (Unit {0}) LayoutRefusal) → answer (meaning v) ≡ v
unfolding answer
back (Ok a) = refl
back (Err n) = ap Err (refusal_back n)

pub one_answer : OneAnswer
one_answer a b e = sym (back a) ∙ ap answer e ∙ back b
