-- Calls from C on one box, one after the other.
use Rattle.std.specs.Prelude.{ℕ, Bool, ◌||◌, List, [], ◌∷◌, eqb}
use Rattle.words.specs.Choice.{pick}
use Rattle.handler.specs.Calls.{Call}
use Rattle.history.specs.Demand3.{Made}
use Rattle.c_entering.specs.Entering.{Lent, lent, Returned}
use Rattle.c_calls.specs.Exported.{FromC, exported}
use Rattle.c_history.specs.Steps.{call_of, told_in}

-- a call, with the answer's words and the output's bytes that it is lent
pub record Lending : Type 0 where
  pub call : FromC
  pub answer : List ℕ
  pub output : List ℕ

-- it is lent the box as the calls before it left it
abbrev pub lent_to : Lent → Lending → Lent
lent_to box m = lent box.state box.recorded box.memory m.answer m.output

abbrev pub gets : Lent → Lending → Returned
gets box m = exported (lent_to box m) m.call

-- it returned 100 or 101
abbrev pub turned_away : Returned → Bool
turned_away r = eqb r.number 100 || eqb r.number 101

-- the box after them
abbrev pub left_by : Lent → List Lending → Lent
left_by box [] = box
left_by box (m ∷ ms) = left_by (gets box m).lent ms

-- the calls that they mean, but for those that were turned away
abbrev pub calls_of : Lent → List Lending → List Call
calls_of box [] = []
calls_of box (m ∷ ms) =
    let rest = calls_of (gets box m).lent ms in
    pick (turned_away (gets box m)) rest (call_of m.output m.call ∷ rest)

-- the same, each with what its caller was told
abbrev pub told_to : Lent → List Lending → List Made
told_to box [] = []
told_to box (m ∷ ms) =
    let rest = told_to (gets box m).lent ms in
    pick (turned_away (gets box m)) rest
    ((call_of m.output m.call, told_in m.output m.call (gets box m)) ∷ rest)
