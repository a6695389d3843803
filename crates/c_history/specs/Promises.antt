-- From C: every function is a step, its words tell the answer, and demand 3 holds of any calls. Statements only.
use Rattle.std.specs.Prelude.{◌<◌, ◌≡◌, List, ◌↔◌, length}
use Rattle.shape.specs.Histories.{told, trace, after}
use Rattle.books.specs.Lists.{tally, Each}
use Rattle.handler.specs.Calls.{step}
use Rattle.history.specs.Demand3.{InTypes, is_started, Demand3}
use Rattle.c_entering.specs.Entering.{Lent, entering, world_of}
use Rattle.c_calls.specs.Exported.{FromC, exported}
use Rattle.c_history.specs.Steps.{call_of, buffers_of, yes_nos, have_lengths, say_yes_or_no, step_in_words, told_in}
use Rattle.c_history.specs.Runs.{Lending, left_by, calls_of, told_to}

-- 100 or 101 with nothing changed, or the step of the call that the words mean, of the world that stands in them
abbrev pub ExportedIsStep : Type 0
ExportedIsStep =
    (l : Lent) (c : FromC)
    → exported l c
    ≡ entering l (have_lengths l c) (say_yes_or_no l c) (step_in_words l c (step (world_of l) (call_of l.output c)))

-- every buffer has its length; every word that says yes or no is 0 or 1
abbrev pub RightLengths : Lent → FromC → Type 0
RightLengths l c = Each (λ b. length b.0 ≡ b.1) (buffers_of l c)

abbrev pub YesOrNo : Lent → FromC → Type 0
YesOrNo l c = Each (λ w. w < 2) (yes_nos l.state c)

-- 100 exactly where some length is wrong, 101 exactly where none is and some word says neither; no call has these numbers
pub record TurnedAwayExactly (l : Lent) (c : FromC) : Type 0 where
  pub lengths : ((exported l c).number ≡ 100) ↔ (RightLengths l c → ⊥)
  pub words : ((exported l c).number ≡ 101) ↔ (RightLengths l c × (YesOrNo l c → ⊥))

abbrev pub EntryIsExact : Type 0
EntryIsExact = (l : Lent) (c : FromC) → TurnedAwayExactly l c

-- what a caller gets tells all that the step told, output and reported sections included: no two answers are told alike
abbrev pub WordsTellTheAnswer : Type 0
WordsTellTheAnswer =
    (l : Lent) (c : FromC)
    → let o = step (world_of l) (call_of l.output c) in told_in l.output c (step_in_words l c o) ≡ told o

-- any calls from C are a run of steps: the world that stands in the box's words after them is the one after the steps,
-- and what the callers were told is the history
pub record ARun (box : Lent) (ms : List Lending) : Type 0 where
  pub world : world_of (left_by box ms) ≡ after step (world_of box) (calls_of box ms)
  pub history : told_to box ms ≡ trace step (world_of box) (calls_of box ms)

abbrev pub CallsFromCAreARun : Type 0
CallsFromCAreARun = (box : Lent) (ms : List Lending) → ARun box ms

-- so demand 3 is true of them, where some start among them is accepted; markers and bytes are of their C types
abbrev pub NothingVanishesFromC : Type 0
NothingVanishesFromC =
    (box : Lent) (ms : List Lending) → Each (λ m. InTypes (call_of m.output m.call)) ms
    → 0 < tally is_started (told_to box ms) → Demand3 (world_of box) (calls_of box ms)
