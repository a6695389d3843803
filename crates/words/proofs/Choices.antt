-- The cases of a choice, and of tests joined.
-- Assumes nothing.
use mathlib.Core.Path.{◌≡◌, refl, ap}
use mathlib.Core.Bool.{Bool, true, false, ◌&&◌, ◌||◌}
use lib.Dec.{T}
use Rattle.words.specs.Choice.{pick}

pub pick_first : {A : Type 0} {t : Bool} (a b : A) → t ≡ true → pick t a b ≡ a
pick_first {A} a b e = ap (λ (t : Bool). pick t a b) e

pub pick_second : {A : Type 0} {t : Bool} (a b : A) → t ≡ false → pick t a b ≡ b
pick_second {A} a b e = ap (λ (t : Bool). pick t a b) e

-- both, and neither
pub and_both : (a b : Bool) → (a && b) ≡ true → (a ≡ true) × (b ≡ true)
and_both true b e = (refl, e)
and_both false b e = (e, cc)

pub or_neither : (a b : Bool) → (a || b) ≡ false → (a ≡ false) × (b ≡ false)
or_neither true b e = (e, cc)
or_neither false b e = (refl, e)

pub and_left : (a b : Bool) → T (a && b) → T a
and_left true b t = tt
and_left false b t = t

pub and_right : (a b : Bool) → T (a && b) → T b
and_right true b t = t
and_right false b t = absurd t

pub T_true : (b : Bool) → T b → b ≡ true
T_true true t = refl
T_true false t = absurd t
