-- What a call tells in a fit world: 20 is not given, and the other refusals, answer and output may be said otherwise.
-- Assumes nothing.
use Prim.Native.Nat.{ℕ}
use mathlib.Core.Path.{◌≡◌, refl, ap, ◌∙◌}
use mathlib.Core.Bool.{Bool, false}
use mathlib.Core.List.{List, ◌∷◌}
use Rattle.words.specs.Rules.{Ruling, allowed, refused, first, settle}
use Rattle.shape.specs.Calls.{refuses, answers, outcome, Effect, effect, effected, call}
use Rattle.shape.specs.Histories.{told}
use Rattle.shape.specs.Refusals.{Refusal, Refusals}
use Rattle.engine.specs.Calls.{◌when◌}
use Rattle.engine.proofs.Calls.{row_passes}
use Rattle.requests.specs.Expected.{expected}

module _ {W A : Type 0} (w : W) (out : List ℕ) (e : Effect W A) (a : A) (last : List ℕ) where
  pub told_same : (rows more : Refusals) → first rows ≡ first more
      → (first more ≡ allowed → told (effected e) ≡ record { says = answers a; output = last })
      → told (call w out rows e) ≡ expected out more a last
  unfolding call
  told_same rows more same does =
      ap (λ (v : Ruling Refusal). told (settle v (effected e) (λ n. outcome (refuses n) w out))) same
      ∙ go (first more) does
    where
      go : (v : Ruling Refusal) → (v ≡ allowed → told (effected e) ≡ record { says = answers a; output = last })
          → told (settle v (effected e) (λ n. outcome (refuses n) w out))
          ≡ told (settle v (effected (effect a (tt {0}) last)) (λ n. outcome (refuses n) (tt {0}) out))
      go allowed q = q refl
      go (refused n) q = refl

  pub told_by : (t : Bool) (rows more : Refusals) → t ≡ false → first rows ≡ first more
      → (first more ≡ allowed → told (effected e) ≡ record { says = answers a; output = last })
      → told (call w out (20 when t ∷ rows) e) ≡ expected out more a last
  told_by t rows more fit same = told_same (20 when t ∷ rows) more (row_passes 20 rows fit ∙ same)
