-- Each refusal is given exactly where its rule applies and none before it, in the words of a legal layout.
-- Assumes nothing.
use Prim.Native.Nat.{ℕ, zero, suc, ◌+◌, ◌-◌, ◌≤◌, ◌<◌, min, max}
use mathlib.Core.Path.{◌≡◌, refl, sym, ap, ◌∙◌}
use mathlib.Core.Bool.{Bool, true, false, not}
use mathlib.Core.Logic.{◌⊎◌, inl, inr}
use borrow.Author.Tests.{ltb-true, lt-ltb}
use native.Mathlib.Omega.{arith}
use lib.Dec.{ltb}
use lib.ListN.{get_or}
use Rattle.words.specs.Least.{least_from}
use Rattle.words.specs.Rules.{allowed, refused, refuse_if}
use Rattle.words.proofs.Lowest.{least_is}
use Rattle.words.proofs.Rulings.{refused_first, first_refused, refused_by, turned_down}
use Rattle.shape.specs.Refusals.{Refusal, names}
use Rattle.registers.specs.Fields.{memory_words, dedicated, shared}
use Rattle.registers.specs.Given.{all_named}
use Rattle.registers.specs.declared.Registers.{Registers}
use Rattle.layout.specs.Sections.{none, sections_of}
use Rattle.layout.specs.Verdict.{plain, over, first_with, end, past, shares, partner, has_partner, pair_rule}
use Rattle.layout.specs.Verdict.{wrong_memory, rules, verdict}
use Rattle.layout.specs.Legal.{Named, Has}
use Rattle.layout.specs.Promises.{FirstTooMany, FirstPast, FirstPair, VerdictsAreExact}
use Rattle.layout.specs.declared.sections.Section.{Section}
use Rattle.layout.proofs.Searches.{found_with}
use Rattle.layout.proofs.Table.{Within, has_within, within_has}
use Rattle.layout.proofs.Counts.{many_over, over_many, few_not_over, many_section}
use Rattle.layout.proofs.Counts.{counted_of, within_of}
use Rattle.layout.proofs.Accepted.{named, name, put_in, words_apart, partnerless, verdict_rules, fine}
use Rattle.layout.proofs.Accepted.{right_memory, right_bits, right_counts, right_together, right_ends}
use Rattle.layout.proofs.Memory.{clash, wrong_of, of_wrong}
use Rattle.layout.proofs.Names.{rule_of, passed_before, first_fault, end_names_first, overlap_names_first}

both_have : (a b : Section) (k : ℕ) → Within a k → Within b k → shares a b ≡ true
both_have a b k v w =
    lt-ltb (max a.start.0 b.start.0) (min (end a) (end b)) (omega (arith, v.from, v.below, w.from, w.below))

module _ (r : Registers) where
  not_named : (Named r → ⊥) → all_named r ≡ false
  not_named n = go (all_named r) refl
    where
      go : (t : Bool) → all_named r ≡ t → t ≡ false
      go true e = absurd (n (named r e))
      go false e = refl

  -- 12
  first_many : (i : ℕ) → first_with 12 (over r) ≡ refused (names 12 i 7) → FirstTooMany r i
  first_many i e =
      let f = first_fault 12 (over r) i e in
      record {
        here = over_many r i f.inside f.here;
        before = λ j h t. clash (sym (many_over r j t) ∙ f.before j h);
      }

  many_first : (i : ℕ) → FirstTooMany r i → first_with 12 (over r) ≡ refused (names 12 i 7)
  many_first i f =
      let l = many_section r i f.here in
      found_with 12 (over r) i
      (sym
      (least_is (over r) 0 7 i (omega arith) l (many_over r i f.here)
      (λ j a h. few_not_over r j (omega arith) (f.before j h))))
      l

  -- 14
  past_first : (i : ℕ) → FirstPast r i → first_with 14 (past (memory_words r) (sections_of r)) ≡ refused (names 14 i 7)
  past_first i f =
      found_with 14 (past (memory_words r) (sections_of r)) i
      (sym
      (least_is (past (memory_words r) (sections_of r)) 0 7 i (omega arith) f.section (here f.here)
      (λ j a h. put_in r (memory_words r) j (omega (arith, f.section)) (λ k. f.before j k h))))
      f.section
    where
      here : (k : ℕ) × (memory_words r ≤ k) × Has r i k → past (memory_words r) (sections_of r) i ≡ true
      here w =
          lt-ltb (memory_words r) (end (get_or (sections_of r) i none))
          (omega (arith, w.1, (has_within r i w.0 w.2).below))

  -- 15
  pair_first : (i j : ℕ) → FirstPair r i j → pair_rule (sections_of r) ≡ refused (names 15 i j)
  unfolding partner
  pair_first i j f =
      let ss = sections_of r in
      let p : partner ss i ≡ j =
      least_is (λ x. shares (get_or ss i none) (get_or ss x none)) (i + 1) (7 - (i + 1)) j (omega (arith, f.order))
      (omega (arith, f.order, f.section))
      (both_have (get_or ss i none) (get_or ss j none) f.here.0 (has_within r i f.here.0 f.here.1)
      (has_within r j f.here.0 f.here.2))
      (λ b a h. words_apart _ _
      (λ k v w. f.higher b k (omega arith) h (within_has r i k v) (within_has r b k w))) in
      let l : least_from (has_partner ss) 0 7 ≡ i =
      least_is (has_partner ss) 0 7 i (omega arith) (omega (arith, f.order, f.section))
      (ap (λ (x : ℕ). ltb x 7) p ∙ lt-ltb j 7 f.section)
      (λ a x h. partnerless ss a (omega (arith, f.order, f.section))
      (λ b y z. words_apart _ _
      (λ k v w. f.lower a b k h y z (within_has r a k v) (within_has r b k w)))) in
      ap (λ (k : ℕ). refuse_if (ltb k 7) (names 15 k (partner ss k))) l
      ∙ turned_down (names 15 i (partner ss i)) (lt-ltb i 7 (omega (arith, f.order, f.section)))
      ∙ ap (λ (x : ℕ). refused (names 15 i x)) p

module _ (r : Registers) (words : ℕ) where
  -- rule k refuses, and those before it let pass
  given_by : (k : ℕ) (a : Refusal) → k < 6 → get_or (rules r words) k allowed ≡ refused a
      → ((j : ℕ) → j < k → get_or (rules r words) j allowed ≡ allowed) → verdict r words ≡ refused a
  given_by k a h e b = verdict_rules r words ∙ refused_first (rules r words) k a (h, e, b)

  -- what was refused, by the rule of its number
  module _ (k : ℕ) (a : Refusal) (n : a.number ≡ 10 + k) (e : verdict r words ≡ refused a) where
    by_rule : get_or (rules r words) k allowed ≡ refused a
    by_rule = rule_of r words k a n e

    before : (j : ℕ) → j < k → get_or (rules r words) j allowed ≡ allowed
    before = passed_before r words k a n e

  one_of : (a : Refusal) (k : ℕ) → get_or (rules r words) k allowed ≡ refused a
      → (a ≡ names 10 7 7)
      ⊎ (a ≡ names 11 7 7)
      ⊎ ((i : ℕ) × (a ≡ names 12 i 7))
      ⊎ (a ≡ names 13 7 7)
      ⊎ ((i : ℕ) × (a ≡ names 14 i 7))
      ⊎ ((i : ℕ) × (j : ℕ) × (a ≡ names 15 i j))
  one_of a zero e = inl (sym (refused_by (wrong_memory (memory_words r) words) (plain 10) a e).1)
  one_of a (suc zero) e = inr (inl (sym (refused_by (not (all_named r)) (plain 11) a e).1))
  one_of a (suc (suc zero)) e =
      let i = least_from (over r) 0 7 in inr (inr (inl (i, sym (refused_by (ltb i 7) (names 12 i 7) a e).1)))
  one_of a (suc (suc (suc zero))) e =
      inr (inr (inr (inl (sym (refused_by (ltb 32 (dedicated r + shared r)) (plain 13) a e).1))))
  one_of a (suc (suc (suc (suc zero)))) e =
      let i = least_from (past (memory_words r) (sections_of r)) 0 7 in
      inr (inr (inr (inr (inl (i, sym (refused_by (ltb i 7) (names 14 i 7) a e).1)))))
  one_of a (suc (suc (suc (suc (suc zero))))) e =
      let i = least_from (has_partner (sections_of r)) 0 7 in
      let j = partner (sections_of r) i in
      inr (inr (inr (inr (inr (i, j, sym (refused_by (ltb i 7) (names 15 i j) a e).1)))))
  one_of a (suc (suc (suc (suc (suc (suc k)))))) e = let z : ◌≡◌ {A = ℕ} 0 1 = cc in absurd (omega arith)

pub verdicts_are_exact : VerdictsAreExact
verdicts_are_exact r words = record {
  memory = (
    λ e. wrong_of r words (refused_by _ (plain 10) (plain 10) (by_rule r words 0 (plain 10) refl e)).0,
    λ n. given_by r words 0 (plain 10) (omega arith) (turned_down (plain 10) (of_wrong r words n))
        (λ j h. absurd (omega arith)),
  );
  bits = (
    λ e. (
      right_memory r words 1 (before r words 1 (plain 11) refl e) (omega arith),
      λ n. clash
          (sym (refused_by _ (plain 11) (plain 11) (by_rule r words 1 (plain 11) refl e)).0
          ∙ ap not (name r n)),
    ),
    λ f. given_by r words 1 (plain 11) (omega arith) (turned_down (plain 11) (ap not (not_named r f.1)))
        (fine r words 1 (λ h. f.0) (λ h. absurd (omega arith)) (λ h. absurd (omega arith))
        (λ h. absurd (omega arith)) (λ h. absurd (omega arith)) (λ h. absurd (omega arith))),
  );
  count = λ i. (
    λ e.
        let b = before r words 2 (names 12 i 7) refl e in (
          right_memory r words 2 b (omega arith),
          right_bits r words 2 b (omega arith),
          first_many r i (by_rule r words 2 (names 12 i 7) refl e),
        ),
    λ f. given_by r words 2 (names 12 i 7) (omega arith) (many_first r i f.2)
        (fine r words 2 (λ h. f.0) (λ h. f.1) (λ h. absurd (omega arith))
        (λ h. absurd (omega arith)) (λ h. absurd (omega arith)) (λ h. absurd (omega arith))),
  );
  together = (
    λ e.
        let b = before r words 3 (plain 13) refl e in (
          right_memory r words 3 b (omega arith),
          right_bits r words 3 b (omega arith),
          right_counts r words 3 b (omega arith),
          ltb-true 32 _ (refused_by _ (plain 13) (plain 13) (by_rule r words 3 (plain 13) refl e)).0,
        ),
    λ f. given_by r words 3 (plain 13) (omega arith) (turned_down (plain 13) (lt-ltb 32 _ f.3))
        (fine r words 3 (λ h. f.0) (λ h. f.1) (λ h. f.2) (λ h. absurd (omega arith))
        (λ h. absurd (omega arith)) (λ h. absurd (omega arith))),
  );
  past = λ i. (
    λ e.
        let b = before r words 4 (names 14 i 7) refl e in (
          right_memory r words 4 b (omega arith),
          right_bits r words 4 b (omega arith),
          counted_of r (right_counts r words 4 b (omega arith)) (right_together r words 4 b (omega arith)),
          end_names_first r words i e,
        ),
    λ f. given_by r words 4 (names 14 i 7) (omega arith) (past_first r i f.3)
        (fine r words 4 (λ h. f.0) (λ h. f.1) (λ h. within_of r f.2) (λ h. f.2.together)
        (λ h. absurd (omega arith)) (λ h. absurd (omega arith))),
  );
  pair = λ i j. (
    λ e.
        let b = before r words 5 (names 15 i j) refl e in (
          right_memory r words 5 b (omega arith),
          right_bits r words 5 b (omega arith),
          counted_of r (right_counts r words 5 b (omega arith)) (right_together r words 5 b (omega arith)),
          right_ends r words 5 b (omega arith),
          overlap_names_first r words i j e,
        ),
    λ f. given_by r words 5 (names 15 i j) (omega arith) (pair_first r i j f.4)
        (fine r words 5 (λ h. f.0) (λ h. f.1) (λ h. within_of r f.2) (λ h. f.2.together)
        (λ h. f.3) (λ h. absurd (omega arith))),
  );
  only =
      λ a e.
      let d = first_refused (rules r words) a (sym (verdict_rules r words) ∙ e) in
      one_of r words a d.0 d.1.1;
}
