-- What is promised of every call of this shape: statements only.
use Rattle.std.specs.Prelude.{ℕ, ◌≡◌, List, ◌↔◌}
use Rattle.shape.specs.Refusals.{Refusal, Refusals, First, NoneRefuses}
use Rattle.shape.specs.Calls.{Says, refuses, answers, outcome, Effect, effected, call}

-- it gives a refusal exactly where that is the first, and then nothing changes; it answers exactly where none
-- refuses, and then it has its effect
pub record Shaped {W A : Type 0} (w : W) (out : List ℕ) (rows : Refusals) (e : Effect W A) : Type 0 where
  pub refused : (n : Refusal) → ((call w out rows e).says ≡ refuses n) ↔ First rows n
  pub stays : (n : Refusal) → (call w out rows e).says ≡ refuses n → call w out rows e ≡ outcome (refuses n) w out
  pub accepted : ((a : A) × ((call w out rows e).says ≡ answers a)) ↔ NoneRefuses rows
  pub done : NoneRefuses rows → call w out rows e ≡ effected e

abbrev pub CallsAreShaped : Type 1
CallsAreShaped = (W A : Type 0) (w : W) (out : List ℕ) (rows : Refusals) (e : Effect W A) → Shaped w out rows e

-- equal outcomes are equal in each part: a second outcome that means the same is the same
abbrev pub OutcomesTellAll : Type 1
OutcomesTellAll =
    (W A : Type 0) (x y : Says A) (v w : W) (l m : List ℕ) → outcome x v l ≡ outcome y w m → (x ≡ y) × (v ≡ w) × (l ≡ m)
