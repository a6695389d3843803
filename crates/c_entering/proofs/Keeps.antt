-- A call that refuses leaves the world and the output that it is lent.
-- Assumes nothing.
use Rattle.std.proofs.Common.{ℕ, ◌≡◌, refl, List}
use Rattle.shape.specs.Calls.{Says, refuses, answers, Outcome, outcome, Effect, call}
use Rattle.shape.specs.Refusals.{Refusals}
use Rattle.shape.proofs.Calls.{call_cases}

-- what was where a call refuses, and what is where it answers
abbrev kept : {A B : Type 0} → Says A → B → B → B
kept (refuses n) was is = was
kept (answers a) was is = is

pub call_keeps : {W A : Type 0} (w : W) (out : List ℕ) (rows : Refusals) (e : Effect W A)
    → call w out rows e
    ≡ outcome (call w out rows e).says (kept (call w out rows e).says w e.world) (kept (call w out rows e).says out e.output)
call_keeps {W} {A} w out rows e =
    call_cases w out rows e
    (λ (o : Outcome W A). o ≡ outcome o.says (kept o.says w e.world) (kept o.says out e.output)) (λ n. refl) (λ h. refl)
