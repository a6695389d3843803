-- Call 1, start.
use Rattle.std.specs.Prelude.{ℕ, List, [], ◌∷◌, length, replicate}
use Rattle.words.specs.Rules.{Ruling, allowed, refused}
use Rattle.shape.specs.Calls.{Says, refuses, done, effect, call}
use Rattle.shape.specs.Refusals.{Refusal}
use Rattle.registers.specs.declared.Registers.{Registers}
use Rattle.layout.specs.Sections.{none, sections_of}
use Rattle.layout.specs.Verdict.{rules}
use Rattle.layout.specs.declared.sections.Section.{Section}
use Rattle.engine.specs.Calls.{World, world, Outcome, Effect}
use Rattle.engine.specs.States.{empty_state, no_flags}

-- the reported sections as an output: first word and words of each. Seven without words are what it is before
abbrev pub flat : List Section → List ℕ
flat [] = []
flat (s ∷ ss) = s.start.0 ∷ s.words ∷ flat ss

abbrev pub unreported : List ℕ
unreported = flat (replicate 7 none)

-- what a verdict says as a call
abbrev pub start_says : Ruling Refusal → Says (Unit {0})
start_says allowed = done
start_says (refused a) = refuses a

-- an empty state and a record of 0; the memory is never written; the sections of the registers are reported
abbrev pub starts : World → Registers → Effect (Unit {0})
starts w g = effect tt (world (empty_state g) no_flags w.memory) (flat (sections_of g))

-- call 1
abbrev pub start : World → Registers → Outcome (Unit {0})
start w g = call w unreported (rules g (length w.memory)) (starts w g)
