-- A call: the world and the output that it is lent, its refusals in the order of their numbers, and its effect.
use Rattle.std.specs.Prelude.{ℕ, List, []}
use Rattle.words.specs.Rules.{first, settle}
use Rattle.shape.specs.Refusals.{Refusal, Refusals}

-- a refusal, or what the call answers
pub data Says (A : Type 0) : Type 0 where
  refuses : Refusal → Says A
  answers : A → Says A

-- of a call that has nothing to tell
abbrev pub done : Says (Unit {0})
done = answers tt

-- all that a call settles: what it says, and the world and the lent output after it; of a call that is lent none the
-- output is empty
pub record Outcome (W A : Type 0) : Type 0 where
  pub says : Says A
  pub world : W
  pub output : List ℕ

abbrev pub outcome : {W A : Type 0} → Says A → W → List ℕ → Outcome W A
outcome x w out = record { says = x; world = w; output = out }

-- of a call that is lent no output
abbrev pub settles : {W A : Type 0} → Says A → W → Outcome W A
settles x w = outcome x w []

-- what a call does where nothing is against it: its answer, and the world and the output that it leaves. An effect
-- cannot refuse
pub record Effect (W A : Type 0) : Type 0 where
  pub answer : A
  pub world : W
  pub output : List ℕ

abbrev pub effect : {W A : Type 0} → A → W → List ℕ → Effect W A
effect a w out = record { answer = a; world = w; output = out }

-- of a call that has nothing to tell, and is lent no output
abbrev pub leaves : {W : Type 0} → W → Effect W (Unit {0})
leaves w = effect tt w []

-- of a call that tells something, and is lent no output
abbrev pub tells : {W A : Type 0} → A → W → Effect W A
tells a w = effect a w []

abbrev pub effected : {W A : Type 0} → Effect W A → Outcome W A
effected e = outcome (answers e.answer) e.world e.output

-- the first that refuses is given, and nothing changes; where none does, the effect
unfoldable pub call : {W A : Type 0} → W → List ℕ → Refusals → Effect W A → Outcome W A
call w out rows e = settle (first rows) (effected e) (λ a. outcome (refuses a) w out)
