-- The cases of a section and of the verdict, one law each.
-- Assumes nothing.
use Prim.Native.Nat.{ℕ, ◌*◌, ◌≤◌, ◌<◌}
use mathlib.Core.Path.{◌≡◌, refl, sym, ap, ◌∙◌}
use mathlib.Core.Bool.{Bool, true, false, not}
use mathlib.Core.List.{List, [], ◌∷◌}
use native.Mathlib.Omega.{arith}
use borrow.Author.Tests.{eq-eqb, ne_eqb, lt-ltb, le-ltb, ltb-false}
use lib.Dec.{ltb}
use Rattle.std.specs.Prelude.{Option, Some, None, position}
use Rattle.words.specs.Rules.{Ruling, allowed, refused, ◌or_else◌, first}
use Rattle.words.proofs.Rulings.{passed, halted, let_pass, turned_down}
use Rattle.shape.specs.Refusals.{Refusal, names}
use Rattle.registers.specs.Fields.{memory_words, tx_count}
use Rattle.registers.specs.Given.{all_named}
use Rattle.registers.specs.declared.Registers.{Registers}
use Rattle.layout.specs.Sections.{none, section, sections_of, over_most}
use Rattle.layout.specs.Verdict.{plain, over, end, verdict}
use Rattle.layout.specs.Verdict.{wrong_memory, bits_rule, count_rule, tx_rule, end_rule, pair_rule}
use Rattle.layout.specs.declared.sections.Section.{Section}
use Rattle.layout.proofs.Searches.{first_at, first_none, none_with}

pub section_none : (start count each : ℕ) (s : Section) → count ≡ 0 → s ≡ none → s ≡ section start count each
unfolding section
section_none start count each s e p = simp (eq-eqb _ _ e, p)

pub section_some : (start count each : ℕ) → (count ≡ 0 → ⊥)
    → record { start = record { 0 = start }; words = count * each } ≡ section start count each
unfolding section
section_some start count each h = simp (ne_eqb _ _ h)

-- what is left of the verdict from a number on
abbrev from15 : Registers → Ruling Refusal
from15 r = first (pair_rule (sections_of r) ∷ [])

abbrev from14 : Registers → Ruling Refusal
from14 r = end_rule (memory_words r) (sections_of r) or_else from15 r

abbrev from13 : Registers → Ruling Refusal
from13 r = tx_rule r or_else from14 r

abbrev from12 : Registers → Ruling Refusal
from12 r = count_rule r or_else from13 r

abbrev from11 : Registers → Ruling Refusal
from11 r = bits_rule r or_else from12 r

alone : (v : Ruling Refusal) → (v or_else allowed) ≡ v
alone allowed = refl
alone (refused a) = refl

module _ (r : Registers) (len : ℕ) (wrong : Bool) (o : wrong ≡ wrong_memory (memory_words r) len) where
  pub says_10 : wrong ≡ true → refused (plain 10) ≡ verdict r len
  unfolding verdict
  says_10 h = sym (halted (from11 r) (turned_down (plain 10) (sym o ∙ h)))

  module _ (a : wrong ≡ false) where
    at_11 : verdict r len ≡ from11 r
    unfolding verdict
    at_11 = passed (from11 r) (let_pass (plain 10) (sym o ∙ a))

    module _ (b : Bool) (p : b ≡ all_named r) where
      pub says_11 : b ≡ false → refused (plain 11) ≡ verdict r len
      says_11 e = sym (at_11 ∙ halted (from12 r) (turned_down (plain 11) (ap not (sym p ∙ e))))

      module _ (e : b ≡ true) where
        at_12 : verdict r len ≡ from12 r
        at_12 = at_11 ∙ passed (from12 r) (let_pass (plain 11) (ap not (sym p ∙ e)))

        module _ (k : Option ℕ) (f : k ≡ position (λ t. t) (over_most r)) where
          pub says_12 : (i : ℕ) → k ≡ Some i → refused (names 12 i 7) ≡ verdict r len
          says_12 i g = sym (at_12 ∙ halted (from13 r) (first_at (λ t. t) false (over_most r) refl 12 i (sym f ∙ g)))

          module _ (g : k ≡ None) where
            no_count : count_rule r ≡ allowed
            no_count = first_none (λ t. t) false (over_most r) refl 12 (sym f ∙ g)

            at_13 : verdict r len ≡ from13 r
            at_13 = at_12 ∙ passed (from13 r) no_count

            -- no count is over its most, that of the Rx buffers neither
            pub few_buffers : r.buffers ≤ 64
            few_buffers = ltb-false 64 r.buffers (none_with 12 (over r) no_count 4 (omega arith))

            module _ (t : ℕ) (u : t ≡ tx_count r) where
              pub says_13 : 32 < t → refused (plain 13) ≡ verdict r len
              says_13 l =
                  sym (at_13 ∙ halted (from14 r) (turned_down (plain 13) (lt-ltb 32 (tx_count r) (omega arith))))

              module _ (l : t ≤ 32) (ss : List Section) (z : ss ≡ sections_of r) (n : Option ℕ)
                  (w : n ≡ position (λ x. ltb r.memory (end x)) ss) where
                at_14 : verdict r len ≡ from14 r
                at_14 = at_13 ∙ passed (from14 r) (let_pass (plain 13) (le-ltb 32 (tx_count r) (omega arith)))

                here : n ≡ position (λ x. ltb r.memory (end x)) (sections_of r)
                here = w ∙ ap (position (λ x. ltb r.memory (end x))) z

                pub says_14 : (i : ℕ) → n ≡ Some i → refused (names 14 i 7) ≡ verdict r len
                says_14 i m =
                    sym
                    (at_14
                    ∙ halted (from15 r) (first_at (λ x. ltb r.memory (end x)) none (sections_of r) refl 14 i (sym here ∙ m)))

                pub says_15 : n ≡ None → (v : Ruling Refusal) → v ≡ pair_rule ss → v ≡ verdict r len
                says_15 m v y =
                    y
                    ∙ ap pair_rule z
                    ∙ sym
                    (at_14
                    ∙ passed (from15 r) (first_none (λ x. ltb r.memory (end x)) none (sections_of r) refl 14 (sym here ∙ m))
                    ∙ alone (pair_rule (sections_of r)))
