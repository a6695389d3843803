-- The sections that a refused start names are the first such.
-- Assumes nothing.
use Prim.Native.Nat.{ℕ, zero, suc, ◌+◌, ◌-◌, ◌<◌}
use mathlib.Core.Path.{◌≡◌, refl, sym, ap, ◌∙◌}
use mathlib.Core.Bool.{Bool, true, false, not}
use mathlib.Core.Logic.{⊎_elim}
use borrow.Author.Tests.{ltb-true, ltb-false}
use native.Mathlib.Omega.{arith}
use lib.Dec.{ltb}
use lib.ListN.{get_or}
use Rattle.words.specs.Least.{least_from}
use Rattle.words.specs.Rules.{allowed, refused, refuse_if}
use Rattle.words.proofs.Lowest.{least_from_above, least_passes, least_below}
use Rattle.words.proofs.Rulings.{first_refused, refused_by}
use Rattle.shape.specs.Refusals.{Refusal, names}
use Rattle.registers.specs.Fields.{memory_words, tx_count}
use Rattle.registers.specs.Given.{all_named}
use Rattle.registers.specs.declared.Registers.{Registers}
use Rattle.layout.specs.Sections.{none, sections_of}
use Rattle.layout.specs.Verdict.{plain, wrong_memory, over, first_with, end, past, shares, partner, has_partner}
use Rattle.layout.specs.Verdict.{rules, verdict}
use Rattle.layout.specs.Promises.{FirstPast, FirstPair}
use Rattle.layout.proofs.Table.{Within, has_within, within_has, empty_or_some}
use Rattle.layout.proofs.Accepted.{apart_words, shared_word, no_partner, verdict_rules}

number_of : (t : Bool) (b a : Refusal) → refuse_if t b ≡ refused a → b.number ≡ a.number
number_of t b a e = ap (λ (x : Refusal). x.number) (refused_by t b a e).1

-- rule k refuses with number 10 + k
numbered : (r : Registers) (words k : ℕ) (a : Refusal)
    → get_or (rules r words) k allowed ≡ refused a → 10 + k ≡ a.number
numbered r words zero a e = number_of (wrong_memory (memory_words r) words) (plain 10) a e
numbered r words (suc zero) a e = number_of (not (all_named r)) (plain 11) a e
numbered r words (suc (suc zero)) a e =
    number_of (ltb (least_from (over r) 0 7) 7) (names 12 (least_from (over r) 0 7) 7) a e
numbered r words (suc (suc (suc zero))) a e = number_of (ltb 32 (tx_count r)) (plain 13) a e
numbered r words (suc (suc (suc (suc zero)))) a e =
    number_of (ltb (least_from (past (memory_words r) (sections_of r)) 0 7) 7)
    (names 14 (least_from (past (memory_words r) (sections_of r)) 0 7) 7) a e
numbered r words (suc (suc (suc (suc (suc zero))))) a e =
    let i = least_from (has_partner (sections_of r)) 0 7 in
    number_of (ltb i 7) (names 15 i (partner (sections_of r) i)) a e
numbered r words (suc (suc (suc (suc (suc (suc k)))))) a e = let z : ◌≡◌ {A = ℕ} 0 1 = cc in absurd (omega arith)

-- so a refusal comes from the rule of its number
pub rule_of : (r : Registers) (words k : ℕ) (a : Refusal) → a.number ≡ 10 + k
    → verdict r words ≡ refused a → get_or (rules r words) k allowed ≡ refused a
rule_of r words k a n e =
    let d = first_refused (rules r words) a (sym (verdict_rules r words) ∙ e) in
    let same : d.0 ≡ k = omega (arith, numbered r words d.0 a d.1.1) in
    ap (λ (i : ℕ). get_or (rules r words) i allowed) (sym same) ∙ d.1.1

-- and each rule before it lets pass
pub passed_before : (r : Registers) (words k : ℕ) (a : Refusal) → a.number ≡ 10 + k
    → verdict r words ≡ refused a → (j : ℕ) → j < k → get_or (rules r words) j allowed ≡ allowed
passed_before r words k a n e j h =
    let d = first_refused (rules r words) a (sym (verdict_rules r words) ∙ e) in
    d.1.2 j (omega (arith, numbered r words d.0 a d.1.1))

abbrev section : Refusal → ℕ
section a = a.section

-- the section that a search names has the fault, and none before it has
pub record FirstFault (fault : ℕ → Bool) (i : ℕ) : Type 0 where
  pub inside : i < 7
  pub here : fault i ≡ true
  pub before : (j : ℕ) → j < i → fault j ≡ false

pub first_fault : (n : ℕ) (fault : ℕ → Bool) (i : ℕ) → first_with n fault ≡ refused (names n i 7) → FirstFault fault i
first_fault n fault i e =
    let b = refused_by _ _ (names n i 7) e in
    let l = ltb-true (least_from fault 0 7) 7 b.0 in
    let m : least_from fault 0 7 ≡ i = ap section b.1 in
    record {
      inside = omega arith;
      here = ap fault (sym m) ∙ least_passes fault 0 7 l;
      before = λ j h. least_below fault 0 7 j (omega arith) (omega arith);
    }

pub end_names_first : (r : Registers) (words i : ℕ) → verdict r words ≡ refused (names 14 i 7)
    → FirstPast r i
end_names_first r words i e =
    let ss = sections_of r in
    let f = first_fault 14 (past (memory_words r) ss) i (rule_of r words 4 (names 14 i 7) refl e) in
    let s = get_or ss i none in
    let l = ltb-true (memory_words r) (end s) f.here in
    record {
      section = f.inside;
      here = (end s - 1, omega arith, within_has r i (end s - 1) (last i f.inside l));
      before =
          λ j k h w. omega (
            arith,
            (has_within r j k w).below,
            ltb-false (memory_words r) (end (get_or ss j none)) (f.before j h),
          );
    }
  where
    last : (i : ℕ) → i < 7 → memory_words r < end (get_or (sections_of r) i none)
        → Within (get_or (sections_of r) i none) (end (get_or (sections_of r) i none) - 1)
    last i h l =
        ⊎_elim (λ e. absurd (omega (arith, ap end e))) (λ m. record { from = omega arith; below = omega arith })
        (empty_or_some r i h)

abbrev other : Refusal → ℕ
other a = a.other

pub overlap_names_first : (r : Registers) (words i j : ℕ)
    → verdict r words ≡ refused (names 15 i j) → FirstPair r i j
unfolding partner
overlap_names_first r words i j e =
    let ss = sections_of r in
    let b = refused_by _ _ (names 15 i j) (rule_of r words 5 (names 15 i j) refl e) in
    let l = ltb-true (least_from (has_partner ss) 0 7) 7 b.0 in
    let m : least_from (has_partner ss) 0 7 ≡ i = ap section b.1 in
    let p : partner ss i ≡ j = ap (partner ss) (sym m) ∙ ap other b.1 in
    let has : has_partner ss i ≡ true = ap (has_partner ss) (sym m) ∙ least_passes (has_partner ss) 0 7 l in
    let k = ltb-true (partner ss i) 7 has in
    let here =
    shared_word (get_or ss i none) (get_or ss j none)
    (ap (λ (x : ℕ). shares (get_or ss i none) (get_or ss x none)) (sym p)
    ∙ least_passes (λ x. shares (get_or ss i none) (get_or ss x none)) (i + 1) (7 - (i + 1)) (omega arith)) in
    record {
      order = omega (arith, least_from_above (λ x. shares (get_or ss i none) (get_or ss x none)) (i + 1) (7 - (i + 1)));
      section = omega arith;
      here = (here.0, within_has r i here.0 here.1, within_has r j here.0 here.2);
      lower =
          λ a c x h g q v w. apart_words _ _
          (no_partner ss a (least_below (has_partner ss) 0 7 a (omega arith) (omega arith)) c g q) x (has_within r a x v)
          (has_within r c x w);
      higher =
          λ c x h g v w. apart_words _ _
          (least_below (λ y. shares (get_or ss i none) (get_or ss y none)) (i + 1) (7 - (i + 1)) c (omega arith)
          (omega arith)) x (has_within r i x v) (has_within r c x w);
    }
