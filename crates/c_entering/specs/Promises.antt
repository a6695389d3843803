-- What is promised of the calls from C, besides their contracts: statements only.
use Rattle.std.specs.Prelude.{◌≡◌, Bool, true, List, ℕ, length, drop, replicate}
use Rattle.shape.specs.Calls.{answers}
use Rattle.engine.specs.Calls.{Outcome}
use Rattle.engine.specs.Fitness.{unfit}
use Rattle.engine.specs.declared.state.Record.{Record}
use Rattle.c_words.specs.States.{state_words, unpack_state}
use Rattle.c_entering.specs.Entering.{Lent, lent, Returned, crossing, in_words}
use Rattle.c_entering.specs.EngineCalls.{never_started_call, start_call}

-- a call that returns another number than 0 leaves every word and byte that was lent
abbrev pub Leaves : Lent → Returned → Type 0
Leaves l r = (r.number ≡ 0 → ⊥) → r.lent ≡ l

-- all but the first two words of the answer, where a start tells the sections that it names
abbrev pub LeavesButNames : Lent → Returned → Type 0
LeavesButNames l r =
    (r.number ≡ 0 → ⊥)
    → (r.lent ≡ lent l.state l.recorded l.memory r.lent.answer l.output)
    × (drop 2 r.lent.answer ≡ drop 2 l.answer)

-- whatever is lent, and whatever the call
abbrev pub RefusalsLeaveAll : Type 1
RefusalsLeaveAll =
    (A : Type 0) (l : Lent) (lengths words : Bool) (told : A → List ℕ) (o : Outcome A)
    → Leaves l (crossing l lengths words (in_words l told o))

abbrev pub NeverStartedLeavesAll : Type 0
NeverStartedLeavesAll = (l : Lent) → Leaves l (never_started_call l)

abbrev pub StartLeavesAll : Type 0
StartLeavesAll = (l : Lent) (registers : List ℕ) → LeavesButNames l (start_call l registers)

-- an answer is told in the first words, and those past it are as they were
abbrev pub RestOfAnswerStays : Type 1
RestOfAnswerStays =
    (A : Type 0) (l : Lent) (told : A → List ℕ) (o : Outcome A) (a : A) → o.says ≡ answers a
    → drop (length (told a)) (in_words l told o).lent.answer ≡ drop (length (told a)) l.answer

-- a state that was made never started is unfit, whatever the record and the memory
abbrev pub NeverStartedIsUnfitInWords : Type 0
NeverStartedIsUnfitInWords =
    (l : Lent) → (never_started_call l).number ≡ 0 → (r : Record) (words : ℕ)
    → unfit (unpack_state (never_started_call l).lent.state) r words ≡ true

-- so is one whose words are all 0
abbrev pub ZeroedIsUnfitInWords : Type 0
ZeroedIsUnfitInWords = (r : Record) (words : ℕ) → unfit (unpack_state (replicate state_words 0)) r words ≡ true
