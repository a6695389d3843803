-- A call that writes no word does with another memory what it did, where its rows and what it looks at are the same.
-- Assumes nothing.
use Prim.Native.Nat.{ℕ}
use mathlib.Core.Path.{◌≡◌, refl, ap, ◌∙◌}
use mathlib.Core.List.{List}
use Rattle.words.specs.Rules.{Ruling, allowed, refused, first, settle}
use Rattle.shape.specs.Calls.{refuses, outcome, effected, call}
use Rattle.shape.specs.Refusals.{Refusals}
use Rattle.shape.specs.Refusals.{Refusal as Told}
use Rattle.engine.specs.Calls.{World, with_memory, Effect, in_memory}

module _ {A : Type 0} (w : World) (other out : List ℕ) (rows more : Refusals) (d e : Effect A) where
  pub same_in_memory : first more ≡ first rows → (first rows ≡ allowed → effected e ≡ in_memory other (effected d))
      → call (with_memory w other) out more e ≡ in_memory other (call w out rows d)
  unfolding call
  same_in_memory p through =
      ap (λ (v : Ruling Told). settle v (effected e) (λ n. outcome (refuses n) (with_memory w other) out)) p
      ∙ go (first rows) refl
    where
      go : (v : Ruling Told) → first rows ≡ v
          → settle v (effected e) (λ n. outcome (refuses n) (with_memory w other) out)
          ≡ in_memory other (settle v (effected d) (λ n. outcome (refuses n) w out))
      go allowed q = through q
      go (refused n) q = refl
