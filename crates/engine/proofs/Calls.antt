-- Rows by their numbers, and the row of 30.
-- Assumes nothing.
use Prim.Native.Nat.{ℕ}
use mathlib.Core.Path.{◌≡◌}
use mathlib.Core.Bool.{Bool, false}
use mathlib.Core.List.{[], ◌∷◌}
use borrow.Author.Tests.{eq-eqb, eqb-true, not-false}
use lib.Dec.{eqb}
use Rattle.words.specs.Rules.{allowed, first}
use Rattle.words.proofs.Rulings.{passed, both_allowed, held_off, let_pass}
use Rattle.shape.specs.Refusals.{Refusals}
use Rattle.layout.specs.Verdict.{plain}
use Rattle.engine.specs.Calls.{◌when◌, output_bytes, output_refusals}

-- ---- rows, one by one

pub row_passes : {t : Bool} (n : ℕ) (rows : Refusals) → t ≡ false → first (n when t ∷ rows) ≡ first rows
row_passes n rows e = passed (first rows) (let_pass (plain n) e)

-- none applies: not the first, and none of the others
pub row_off : (n : ℕ) (t : Bool) (rows : Refusals) → first (n when t ∷ rows) ≡ allowed
    → (t ≡ false) × (first rows ≡ allowed)
row_off n t rows e = let p = both_allowed (n when t) (first rows) e in (held_off t (plain n) p.0, p.1)

-- ---- 30

pub length_right : (bytes : ℕ) → bytes ≡ output_bytes → allowed ≡ first (output_refusals bytes)
unfolding output_refusals
length_right bytes h = simp (eq-eqb _ _ h)

pub output_fits : (bytes : ℕ) → first (output_refusals bytes) ≡ allowed → bytes ≡ output_bytes
unfolding output_refusals
output_fits bytes e = eqb-true bytes output_bytes (not-false (eqb bytes output_bytes) (row_off 30 _ [] e).0)
