-- 10: the test of the memory's length, and what it means.
-- Assumes nothing.
use Prim.Native.Nat.{ℕ}
use mathlib.Core.Path.{◌≡◌, refl, sym, ap, ap₂, ◌∙◌}
use mathlib.Core.Bool.{Bool, true, false, not, ◌||◌}
use mathlib.Core.Logic.{inl, inr}
use borrow.Author.Tests.{eqb-true, eqb-false, eq-eqb, ne_eqb, ltb-true, ltb-false, le-ltb, not-false}
use native.Mathlib.Omega.{arith}
use lib.Dec.{eqb, ltb}
use Rattle.words.proofs.Choices.{or_neither}
use Rattle.registers.specs.Fields.{memory_words}
use Rattle.registers.specs.declared.Registers.{Registers}
use Rattle.layout.specs.Sections.{memory_most}
use Rattle.layout.specs.Verdict.{wrong_memory}
use Rattle.layout.specs.Legal.{RightMemory, WrongMemory}

pub clash : true ≡ false → ⊥
clash e = let z : ◌≡◌ {A = ℕ} 0 1 = cc in absurd (omega arith)

module _ (r : Registers) (words : ℕ) where
  pub right_of : wrong_memory (memory_words r) words ≡ false → RightMemory r words
  right_of e =
      let p =
      or_neither (eqb (memory_words r) 0 || ltb memory_most (memory_words r)) (not (eqb words (memory_words r))) e in
      let q = or_neither (eqb (memory_words r) 0) (ltb memory_most (memory_words r)) p.0 in
      record {
        some = omega (arith, eqb-false (memory_words r) 0 q.0);
        most = ltb-false memory_most (memory_words r) q.1;
        lent = eqb-true words (memory_words r) (not-false (eqb words (memory_words r)) p.1);
      }

  pub of_right : RightMemory r words → wrong_memory (memory_words r) words ≡ false
  of_right h =
      ap₂ ◌||◌
      (ap₂ ◌||◌ (ne_eqb (memory_words r) 0 (λ e. omega (arith, h.some))) (le-ltb memory_most (memory_words r) h.most))
      (ap not (eq-eqb words (memory_words r) h.lent))

  pub wrong_of : wrong_memory (memory_words r) words ≡ true → WrongMemory r words
  wrong_of e = go (eqb (memory_words r) 0) refl (ltb memory_most (memory_words r)) refl
    where
      go : (a : Bool) → eqb (memory_words r) 0 ≡ a → (b : Bool) → ltb memory_most (memory_words r) ≡ b
          → WrongMemory r words
      go true p b q = inl (eqb-true (memory_words r) 0 p)
      go false p true q = inr (inl (ltb-true memory_most (memory_words r) q))
      go false p false q =
          inr (inr (λ m. clash (sym e ∙ ap₂ ◌||◌ (ap₂ ◌||◌ p q) (ap not (eq-eqb words (memory_words r) m)))))

  pub not_both : RightMemory r words → WrongMemory r words → ⊥
  not_both m (inl z) = omega (arith, m.some)
  not_both m (inr (inl l)) = omega (arith, m.most)
  not_both m (inr (inr n)) = n m.lent

  pub of_wrong : WrongMemory r words → wrong_memory (memory_words r) words ≡ true
  of_wrong h = go (wrong_memory (memory_words r) words) refl
    where
      go : (t : Bool) → wrong_memory (memory_words r) words ≡ t → t ≡ true
      go true e = refl
      go false e = absurd (not_both (right_of e) h)
