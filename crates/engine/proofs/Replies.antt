-- No two answers of the code mean the same.
-- Assumes nothing.
use Rattle.std.proofs.Common.{Result, Ok, Err}
use Prim.Native.Nat.{ℕ}
use mathlib.Core.Path.{◌≡◌, refl, sym, ap, ap₂, ◌∙◌}
use lib.Dec.{eqb}
use Rattle.words.specs.Choice.{pick}
use Rattle.shape.specs.Calls.{Says, refuses, answers}
use Rattle.engine.specs.Answers.{number_of, saying, replied, left}
use Rattle.engine.specs.Promises.{OneAnswer, OneReply, OneLeft}
use Rattle.engine.specs.declared.refusals.Refusal.{Refusal}
use Rattle.engine.specs.declared.refusals.Refusal.TheVariants.{Unfit, Malformed, FdOff, NoSuch, AlreadyPending}
use Rattle.engine.specs.declared.refusals.Refusal.TheVariants.{NoneFree, InSharedFifo, NotPending, NotTheChoice}
use Rattle.engine.specs.declared.refusals.Refusal.TheVariants.{NotHeld, WrongOutput}

-- the refusal that has a number
abbrev pub refusal_of : ℕ → Refusal
refusal_of n =
    pick (eqb n 20) Unfit
    (pick (eqb n 21) Malformed
    (pick (eqb n 22) FdOff
    (pick (eqb n 23) NoSuch
    (pick (eqb n 24) AlreadyPending
    (pick (eqb n 25) NoneFree
    (pick (eqb n 26) InSharedFifo
    (pick (eqb n 27) NotPending
    (pick (eqb n 28) NotTheChoice
    (pick (eqb n 29) NotHeld WrongOutput)))))))))

pub refusal_back : (n : Refusal) → refusal_of (number_of n) ≡ n
refusal_back Unfit = refl
refusal_back Malformed = refl
refusal_back FdOff = refl
refusal_back NoSuch = refl
refusal_back AlreadyPending = refl
refusal_back NoneFree = refl
refusal_back InSharedFifo = refl
refusal_back NotPending = refl
refusal_back NotTheChoice = refl
refusal_back NotHeld = refl
refusal_back WrongOutput = refl

-- an answer can be made again of what it means
abbrev pub answer_of : {A : Type 0} → Says A → Result A Refusal
answer_of (answers a) = Ok a
answer_of (refuses n) = Err (refusal_of n.number)

pub answer_back : {A : Type 0} (r : Result A Refusal) → answer_of (saying (λ a. a) r) ≡ r
answer_back (Ok a) = refl
answer_back (Err n) = ap Err (refusal_back n)

pub one_answer : OneAnswer
one_answer A a b e = sym (answer_back a) ∙ ap answer_of e ∙ answer_back b

pub one_reply : OneReply
one_reply = one_answer (Unit {0})

-- the same of a call that tells nothing, and answers what it leaves
abbrev pub made_of : {A : Type 0} → Says (Unit {0}) → A → Result A Refusal
made_of (answers u) a = Ok a
made_of (refuses n) a = Err (refusal_of n.number)

pub made_back : {A : Type 0} (old : A) (r : Result A Refusal) → made_of (replied r) (left (λ a. a) old r) ≡ r
made_back old (Ok a) = refl
made_back old (Err n) = ap Err (refusal_back n)

pub one_left : OneLeft
one_left A old a b e l = sym (made_back old a) ∙ ap₂ made_of e l ∙ made_back old b
