-- Demand 1: refusals by the numbers, each exactly when its row says so; a refusal changes nothing, and a call only
-- what it names. Statements only.
use Rattle.std.specs.Prelude.{ℕ, ◌≡◌, false, List, ◌↔◌}
use Rattle.words.specs.Ranges.{OnlyIn}
use Rattle.shape.specs.Calls.{refuses, answers, outcome}
use Rattle.shape.specs.Histories.{after}
use Rattle.shape.specs.Refusals.{Refusal, First, NoneRefuses}
use Rattle.frame.specs.Malformed.{malformed, WellFormed}
use Rattle.frame.specs.declared.Frame.{Frame}
use Rattle.engine.specs.Calls.{World, is_unfit}
use Rattle.engine.specs.Promises.{FitIsSound}
use Rattle.handler.specs.Calls.{Call, Answer, given, step}
use Rattle.handler.specs.Changes.{Part, Same, is_in, Changes, named}
use Rattle.handler.specs.Rows.{rows}

-- a refusal, with its number and the sections that it names, is given exactly where its row applies and no row before
-- it does; a call is accepted exactly where none applies; a refusal leaves the world and the lent output as they were
pub record Exactly (w : World) (c : Call) : Type 0 where
  pub refused : (a : Refusal) → ((step w c).says ≡ refuses a) ↔ First (rows w c) a
  pub accepted : ((a : Answer c) × ((step w c).says ≡ answers a)) ↔ NoneRefuses (rows w c)
  pub stays : (a : Refusal) → (step w c).says ≡ refuses a → step w c ≡ outcome (refuses a) w (given c).output

abbrev pub RefusalsAreExact : Type 0
RefusalsAreExact = (w : World) (c : Call) → Exactly w c

-- the table's two longest tests, said as facts: a frame is not malformed exactly where it is well-formed, and a world
-- is fit exactly where its state and flags are sound
pub record TestsMean : Type 0 where
  pub formed : (f : Frame) (len : ℕ) → (malformed f len ≡ false) ↔ WellFormed f len
  pub fit : FitIsSound

-- a fit world stays fit under any calls, refused ones too
abbrev pub FitAfterAnyCalls : Type 0
FitAfterAnyCalls = (cs : List Call) (w : World) → is_unfit w ≡ false → is_unfit (after step w cs) ≡ false

-- after every call, accepted or refused, what its answer does not name is as it was: each word of the memory, each
-- byte of a lent output, each part of state and record
pub record OthersStay (w : World) (l : List ℕ) (v : World) (last : List ℕ) (n : Changes) : Type 0 where
  pub memory : OnlyIn n.memory w.memory v.memory
  pub output : OnlyIn n.output l last
  pub parts : (p : Part) → is_in p n.parts ≡ false → Same p w v

abbrev pub OnlyTheNamedChanges : Type 0
OnlyTheNamedChanges =
    (w : World) (c : Call)
    → let o = step w c in OthersStay w (given c).output o.world o.output (named w c o.says)
