-- A start of what stands in words.
-- Assumes nothing.
use Rattle.std.proofs.Common.{ℕ, ◌≡◌, List, Result, replicate}
use Rattle.shape.specs.Calls.{outcome}
use Rattle.registers.specs.declared.Registers.{Registers}
use Rattle.layout.specs.Sections.{none}
use Rattle.layout.specs.Verdict.{meaning}
use Rattle.layout.specs.declared.check.LayoutRefusal.{LayoutRefusal}
use Rattle.engine.specs.Answers.{left}
use Rattle.engine.specs.Calls.{world}
use Rattle.engine.specs.declared.state.State.{State}
use Rattle.engine.specs.declared.state.Record.{Record}
use Rattle.starting.specs.Starting.{start_says, flat, start}
use Rattle.starting.specs.declared.Started.{Started}

abbrev Starts : Result Started LayoutRefusal → State → Record → List ℕ → Registers → Type 0
Starts a s r mem g =
    outcome (start_says (meaning a)) (world (left (λ b. b.state) s a) (left (λ b. b.recorded) r a) mem)
    (flat (left (λ b. b.sections) (replicate 7 none) a))
    ≡ start (world s r mem) g

pub start_taken : (a : Result Started LayoutRefusal) (s t : State) (r q : Record) (mem : List ℕ) (g h : Registers)
    → s ≡ t → r ≡ q → g ≡ h → Starts a s r mem g → Starts a t q mem h
start_taken a s t r q mem g h x y z made = rw (← x, ← y, ← z) made
