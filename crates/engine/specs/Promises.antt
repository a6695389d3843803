-- What is promised of the engine: statements only.
use Rattle.std.specs.Prelude.{ℕ, Result, ◌≡◌, true, false, ◌↔◌}
use Rattle.layout.specs.Legal.{WrongMemory}
use Rattle.engine.specs.Answers.{saying, replied, left}
use Rattle.engine.specs.Fitness.{unfit, Sound, FlagsSound}
use Rattle.engine.specs.States.{never_started}
use Rattle.engine.specs.declared.refusals.Refusal.{Refusal}
use Rattle.engine.specs.declared.state.State.{State}
use Rattle.engine.specs.declared.state.Record.{Record}

-- a state is fit exactly where the facts of a sound one hold
abbrev pub FitIsSound : Type 0
FitIsSound = (s : State) (r : Record) (words : ℕ) → (unfit s r words ≡ false) ↔ (Sound s words × FlagsSound r)

-- a state is unfit for a memory of another length than it keeps, and for every memory where it keeps 0 or over 4,352
abbrev pub WrongLengthIsUnfit : Type 0
WrongLengthIsUnfit = (s : State) (r : Record) (words : ℕ) → WrongMemory s.regs words → unfit s r words ≡ true

-- a state that was never started is unfit, whatever the record and the memory
abbrev pub NeverStartedIsUnfit : Type 0
NeverStartedIsUnfit = (r : Record) (words : ℕ) → unfit never_started r words ≡ true

-- no two answers of the code mean the same, whatever a call tells; nor do two replies of a call that has nothing to tell
abbrev pub OneAnswer : Type 1
OneAnswer = (A : Type 0) (a b : Result A Refusal) → saying (λ x. x) a ≡ saying (λ x. x) b → a ≡ b

abbrev pub OneReply : Type 0
OneReply = (a b : Result (Unit {0}) Refusal) → replied a ≡ replied b → a ≡ b

-- of a call that has nothing to tell, the reply and what it leaves settle its answer
abbrev pub OneLeft : Type 1
OneLeft =
    (A : Type 0) (old : A) (a b : Result A Refusal) → replied a ≡ replied b
    → left (λ x. x) old a ≡ left (λ x. x) old b → a ≡ b
