-- What calls say, in the paper's numbers.
use Rattle.std.specs.Prelude.{ℕ, Result, Ok, Err}
use Rattle.words.specs.Rules.{Ruling, allowed, refused}
use Rattle.shape.specs.Calls.{Says, refuses, answers}
use Rattle.shape.specs.Refusals.{Refusal as Told}
use Rattle.layout.specs.Verdict.{plain}
use Rattle.engine.specs.declared.refusals.Refusal.{Refusal}
use Rattle.engine.specs.declared.refusals.Refusal.TheVariants.{Unfit, Malformed, FdOff, NoSuch, AlreadyPending}
use Rattle.engine.specs.declared.refusals.Refusal.TheVariants.{NoneFree, InSharedFifo, NotPending, NotTheChoice}
use Rattle.engine.specs.declared.refusals.Refusal.TheVariants.{NotHeld, WrongOutput}

-- refusals 20 to 30
abbrev pub number_of : Refusal → ℕ
number_of Unfit = 20
number_of Malformed = 21
number_of FdOff = 22
number_of NoSuch = 23
number_of AlreadyPending = 24
number_of NoneFree = 25
number_of InSharedFifo = 26
number_of NotPending = 27
number_of NotTheChoice = 28
number_of NotHeld = 29
number_of WrongOutput = 30

-- such a refusal names no section
abbrev pub told : Refusal → Told
told n = plain (number_of n)

-- what a call says that answers or is refused: the answer is what is told of the value
abbrev pub saying : {A B : Type 0} → (A → B) → Result A Refusal → Says B
saying f (Ok a) = answers (f a)
saying f (Err n) = refuses (told n)

-- of a call that has nothing to tell
abbrev pub replied : {A : Type 0} → Result A Refusal → Says (Unit {0})
replied j = saying (λ a. tt) j

-- what is found against a call
abbrev pub ruled : {A : Type 0} → Result A Refusal → Ruling Told
ruled (Ok a) = allowed
ruled (Err n) = refused (told n)

-- what a call leaves: a refusal leaves what was
abbrev pub left : {A B E : Type 0} → (A → B) → B → Result A E → B
left f old (Ok a) = f a
left f old (Err e) = old
