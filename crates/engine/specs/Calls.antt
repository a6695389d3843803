-- The world of an engine's calls, and the refusals that its calls share.
use Rattle.std.specs.Prelude.{ℕ, ◌≡◌, Bool, not, List, [], ◌∷◌, eqb, length}
use Rattle.words.specs.Ranges.{Range}
use Rattle.words.specs.Rules.{Ruling, refuse_if}
use Rattle.shape.specs.Calls as Shape
use Rattle.shape.specs.Refusals.{Refusal, Refusals}
use Rattle.layout.specs.Verdict.{plain}
use Rattle.areas.specs.Own.{SameSections}
use Rattle.engine.specs.Fitness.{unfit}
use Rattle.engine.specs.declared.state.State.{State}
use Rattle.engine.specs.declared.state.Record.{Record}

-- ---- the world

-- state and record of an engine, and the memory that it is lent
pub record World : Type 0 where
  pub state : State
  pub recorded : Record
  pub memory : List ℕ

abbrev pub world : State → Record → List ℕ → World
world s r mem = record { state = s; recorded = r; memory = mem }

abbrev pub with_state : World → State → World
with_state w s = world s w.recorded w.memory

abbrev pub with_recorded : World → Record → World
with_recorded w r = world w.state r w.memory

abbrev pub with_memory : World → List ℕ → World
with_memory w mem = world w.state w.recorded mem

-- a call of the one shape, over this world
abbrev pub Outcome : Type 0 → Type 0
Outcome A = Shape.Outcome World A

abbrev pub Effect : Type 0 → Type 0
Effect A = Shape.Effect World A

-- ---- refusals

infix 70 ◌when◌
-- a refusal by its number where a test holds
abbrev pub ◌when◌ : ℕ → Bool → Ruling Refusal
n when t = refuse_if t (plain n)

-- 20, of every call but a start
abbrev pub is_unfit : World → Bool
is_unfit w = unfit w.state w.recorded (length w.memory)

-- 30, the last of every call that is lent an output
abbrev pub output_bytes : ℕ
output_bytes = 64

unfoldable pub output_refusals : ℕ → Refusals
output_refusals bytes = 30 when not (eqb bytes output_bytes) ∷ []

-- ---- two memories

-- the same outcome, but for the memory, which is this one
abbrev pub in_memory : {A : Type 0} → List ℕ → Outcome A → Outcome A
in_memory mem o = Shape.outcome o.says (with_memory o.world mem) o.output

-- two outcomes are the same but for words outside these sections
pub record Alike {A : Type 0} (sections : Range) (o p : Outcome A) : Type 0 where
  pub says : p.says ≡ o.says
  pub state : p.world.state ≡ o.world.state
  pub recorded : p.world.recorded ≡ o.world.recorded
  pub memory : SameSections o.world.state.regs sections o.world.memory p.world.memory
  pub output : p.output ≡ o.output
