-- The rows of the sections, one after another.
-- Assumes nothing.
use Rattle.std.proofs.Common.{◌≡◌, ℕ, ◌+◌, List, [], ◌++◌, get_or, ◌∷◌, refl, sym, ap, ap₂, ◌∙◌, add-one, append_assoc, decimal}
use Rattle.layout.specs.Sections.{none}
use Rattle.layout.specs.declared.sections.Section.{Section}
use Rattle.printout.specs.Printed.{row, rows}

module _ (ss : List Section) where
  pub no_rows : rows ss 0 ≡ []
  unfolding rows
  no_rows = refl

  pub one_more_row : (i a b : ℕ) → a ≡ (get_or ss i none).start.0 → b ≡ (get_or ss i none).words
      → rows ss i ++ (decimal i ++ (32 ∷ (decimal a ++ (32 ∷ (decimal b ++ (10 ∷ [])))))) ≡ rows ss (i + 1)
  unfolding rows
  one_more_row i a b e f =
      let s = get_or ss i none in
      ap (λ (r : List ℕ). rows ss i ++ r)
      (joined (decimal i) (decimal a) (decimal b) ∙ ap₂ (λ (x y : ℕ). row i x y) e f)
      ∙ ap (rows ss) (sym (add-one i))
    where
      joined : (p q r : List ℕ) → p ++ (32 ∷ (q ++ (32 ∷ (r ++ (10 ∷ []))))) ≡ p ++ (32 ∷ []) ++ q ++ (32 ∷ []) ++ r ++ (10 ∷ [])
      joined p q r = simp append_assoc
