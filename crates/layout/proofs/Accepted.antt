-- A start is accepted exactly where its layout is legal.
-- Assumes nothing.
use Prim.Native.Nat.{ℕ, zero, suc, ◌+◌, ◌-◌, ◌≤◌, ◌<◌, min, max}
use mathlib.Core.Path.{◌≡◌, refl, sym, ap, ap₂, ◌∙◌}
use mathlib.Core.Bool.{Bool, true, false, not, ◌&&◌}
use mathlib.Core.List.{List}
use mathlib.Core.Logic.{◌⊎◌, inl, inr, ⊎_elim}
use borrow.Author.Tests.{eqb-true, eq-eqb, ltb-true, ltb-false, le-ltb, leb-true, leb-false, not-false}
use native.Mathlib.Omega.{arith}
use lib.Dec.{leb}
use lib.ListN.{get_or}
use Rattle.words.specs.Fields.{only_named}
use Rattle.words.specs.Least.{least_from}
use Rattle.words.specs.Rules.{allowed, first}
use Rattle.words.proofs.Choices.{and_both}
use Rattle.words.proofs.Lowest.{least_below, least_absent}
use Rattle.words.proofs.Rulings.{all_allowed, allowed_all, held_off, let_pass}
use Rattle.words.proofs.Unnamed.{unnamed, agrees, below32}
use Rattle.registers.specs.Kinds.{sidfc, xidfc, rxfc, rxbc, rxesc, txefc, txbc, txesc, gfc, xidam}
use Rattle.registers.specs.Fields.{memory_words, dedicated, shared}
use Rattle.registers.specs.Given.{all_named}
use Rattle.registers.specs.declared.Registers.{Registers}
use Rattle.layout.specs.Sections.{none, sections_of}
use Rattle.layout.specs.Verdict.{plain, over, end, past, end_rule, shares, partner}
use Rattle.layout.specs.Verdict.{has_partner, pair_rule, rules, verdict}
use Rattle.layout.specs.Legal.{RightMemory, Named, WithinMost, Has, Legal}
use Rattle.layout.specs.Promises.{AcceptedIsLegal, AllInside, AllApart}
use Rattle.layout.specs.declared.sections.Section.{Section}
use Rattle.layout.proofs.Searches.{none_with, with_none}
use Rattle.layout.proofs.Counts.{none_over, all_within, counted_of, within_of}
use Rattle.layout.proofs.Memory.{right_of, of_right}
use Rattle.layout.proofs.Table.{Within, has_within, within_has, empty_or_some}

-- 11
words_of : (a b c d e f g h i j k : Bool) → (a && b && c && d && e && f && g && h && i && j && k) ≡ true
    → (a ≡ true) × (b ≡ true) × (c ≡ true) × (d ≡ true) × (e ≡ true) × (f ≡ true) × (g ≡ true) × (h ≡ true) × (i ≡ true)
    × (j ≡ true) × (k ≡ true)
words_of a b c d e f g h i j k p =
    let q10 = and_both (a && b && c && d && e && f && g && h && i && j) k p in
    let q9 = and_both (a && b && c && d && e && f && g && h && i) j q10.0 in
    let q8 = and_both (a && b && c && d && e && f && g && h) i q9.0 in
    let q7 = and_both (a && b && c && d && e && f && g) h q8.0 in
    let q6 = and_both (a && b && c && d && e && f) g q7.0 in
    let q5 = and_both (a && b && c && d && e) f q6.0 in
    let q4 = and_both (a && b && c && d) e q5.0 in
    let q3 = and_both (a && b && c) d q4.0 in
    let q2 = and_both (a && b) c q3.0 in
    let q1 = and_both a b q2.0 in
    (q1.0, q1.1, q2.1, q3.1, q4.1, q5.1, q6.1, q7.1, q8.1, q9.1, q10.1)

module _ (r : Registers) where
  pub named : all_named r ≡ true → Named r
  unfolding agrees below32
  named e =
      let w =
      words_of (only_named sidfc r.sidfc.word) (only_named xidfc r.xidfc.word) (only_named rxfc r.rxf0c.word)
      (only_named rxfc r.rxf1c.word) (only_named rxbc r.rxbc.word) (only_named rxesc r.rxesc.word)
      (only_named txefc r.txefc.word) (only_named txbc r.txbc.word) (only_named txesc r.txesc.word)
      (only_named gfc r.gfc.word) (only_named xidam r.xidam.word) e in
      record {
        sidfc = (unnamed sidfc tt tt tt _).0 (eqb-true _ _ w.0);
        xidfc = (unnamed xidfc tt tt tt _).0 (eqb-true _ _ w.1);
        rxf0c = (unnamed rxfc tt tt tt _).0 (eqb-true _ _ w.2);
        rxf1c = (unnamed rxfc tt tt tt _).0 (eqb-true _ _ w.3);
        rxbc = (unnamed rxbc tt tt tt _).0 (eqb-true _ _ w.4);
        rxesc = (unnamed rxesc tt tt tt _).0 (eqb-true _ _ w.5);
        txefc = (unnamed txefc tt tt tt _).0 (eqb-true _ _ w.6);
        txbc = (unnamed txbc tt tt tt _).0 (eqb-true _ _ w.7);
        txesc = (unnamed txesc tt tt tt _).0 (eqb-true _ _ w.8);
        gfc = (unnamed gfc tt tt tt _).0 (eqb-true _ _ w.9);
        xidam = (unnamed xidam tt tt tt _).0 (eqb-true _ _ w.10);
      }

  pub name : Named r → all_named r ≡ true
  unfolding agrees below32
  name n =
      ap₂ ◌&&◌ (ap₂ ◌&&◌ (ap₂ ◌&&◌ (ap₂ ◌&&◌ (ap₂ ◌&&◌ (ap₂ ◌&&◌ (ap₂ ◌&&◌ (ap₂ ◌&&◌ (ap₂ ◌&&◌ (ap₂ ◌&&◌
      (eq-eqb _ _ ((unnamed sidfc tt tt tt _).1 n.sidfc))
      (eq-eqb _ _ ((unnamed xidfc tt tt tt _).1 n.xidfc)))
      (eq-eqb _ _ ((unnamed rxfc tt tt tt _).1 n.rxf0c)))
      (eq-eqb _ _ ((unnamed rxfc tt tt tt _).1 n.rxf1c)))
      (eq-eqb _ _ ((unnamed rxbc tt tt tt _).1 n.rxbc)))
      (eq-eqb _ _ ((unnamed rxesc tt tt tt _).1 n.rxesc)))
      (eq-eqb _ _ ((unnamed txefc tt tt tt _).1 n.txefc)))
      (eq-eqb _ _ ((unnamed txbc tt tt tt _).1 n.txbc)))
      (eq-eqb _ _ ((unnamed txesc tt tt tt _).1 n.txesc)))
      (eq-eqb _ _ ((unnamed gfc tt tt tt _).1 n.gfc)))
      (eq-eqb _ _ ((unnamed xidam tt tt tt _).1 n.xidam))

-- 15: two sections share a word where some word is in both
pub apart_words : (a b : Section) → shares a b ≡ false → (k : ℕ) → Within a k → Within b k → ⊥
apart_words a b e k p q = omega (arith, ltb-false (max a.start.0 b.start.0) (min (end a) (end b)) e)

pub shared_word : (a b : Section) → shares a b ≡ true → (k : ℕ) × Within a k × Within b k
shared_word a b e =
    let l = ltb-true (max a.start.0 b.start.0) (min (end a) (end b)) e in (
      max a.start.0 b.start.0,
      record { from = omega arith; below = omega arith },
      record { from = omega arith; below = omega arith },
    )

pub words_apart : (a b : Section) → ((k : ℕ) → Within a k → Within b k → ⊥) → shares a b ≡ false
words_apart a b h = go (shares a b) refl
  where
    go : (t : Bool) → shares a b ≡ t → t ≡ false
    go true e = let w = shared_word a b e in absurd (h w.0 w.1 w.2)
    go false e = refl

module _ (ss : List Section) where
  pub no_partner : (i : ℕ) → has_partner ss i ≡ false → (j : ℕ) → i < j → j < 7
      → shares (get_or ss i none) (get_or ss j none) ≡ false
  unfolding partner
  no_partner i e j h l =
      least_below (λ k. shares (get_or ss i none) (get_or ss k none)) (i + 1) (7 - (i + 1)) j (omega arith)
      (omega (arith, ltb-false (partner ss i) 7 e))

  pub partnerless : (i : ℕ) → i < 7 → ((j : ℕ) → i < j → j < 7 → shares (get_or ss i none) (get_or ss j none) ≡ false)
      → has_partner ss i ≡ false
  unfolding partner
  partnerless i h f =
      le-ltb (partner ss i) 7
      (omega (
        arith,
        least_absent (λ k. shares (get_or ss i none) (get_or ss k none)) (i + 1) (7 - (i + 1))
            (λ j a b. f j (omega arith) (omega arith)),
      ))

module _ (r : Registers) (words : ℕ) where
  inside : end_rule words (sections_of r) ≡ allowed → (i k : ℕ) → i < 7 → Has r i k → k < words
  inside e i k h w =
      let v = has_within r i k w in
      omega (
        arith,
        v.below,
        ltb-false words (end (get_or (sections_of r) i none)) (none_with 14 (past words (sections_of r)) e i h),
      )

  -- a section whose words are all in the memory does not end past it
  pub put_in : (i : ℕ) → i < 7 → ((k : ℕ) → Has r i k → k < words) → past words (sections_of r) i ≡ false
  put_in i h f =
      le-ltb words (end (get_or (sections_of r) i none))
      (⊎_elim (λ e. omega (arith, ap end e)) (λ l. omega (arith, last l)) (empty_or_some r i h))
    where
      last : 0 < (get_or (sections_of r) i none).words → end (get_or (sections_of r) i none) - 1 < words
      last l =
          f (end (get_or (sections_of r) i none) - 1)
          (within_has r i (end (get_or (sections_of r) i none) - 1) (record { from = omega arith; below = omega arith }))

  put_inside : ((i k : ℕ) → i < 7 → Has r i k → k < words) → (i : ℕ) → i < 7 → past words (sections_of r) i ≡ false
  put_inside f i h = put_in i h (λ k. f i k h)

  apart : pair_rule (sections_of r) ≡ allowed → (i j k : ℕ) → i < j → j < 7 → Has r i k → Has r j k → ⊥
  apart e i j k h l v w =
      apart_words (get_or (sections_of r) i none) (get_or (sections_of r) j none)
      (no_partner (sections_of r) i
      (least_below (has_partner (sections_of r)) 0 7 i (omega arith)
      (omega (arith, ltb-false (least_from (has_partner (sections_of r)) 0 7) 7 (held_off _ _ e)))) j h l) k
      (has_within r i k v)
      (has_within r j k w)

  put_apart : ((i j k : ℕ) → i < j → j < 7 → Has r i k → Has r j k → ⊥) → pair_rule (sections_of r) ≡ allowed
  put_apart f =
      let_pass _
      (le-ltb (least_from (has_partner (sections_of r)) 0 7) 7
      (omega (
        arith,
        least_absent (has_partner (sections_of r)) 0 7
            (λ i a b. partnerless (sections_of r) i (omega arith)
            (λ j h l. words_apart _ _ (λ k v w. f i j k h l (within_has r i k v) (within_has r j k w)))),
      )))

module _ (r : Registers) (words : ℕ) where
  pub verdict_rules : verdict r words ≡ first (rules r words)
  unfolding verdict
  verdict_rules = refl

  -- the first k rules let pass where what they judge is right
  pub fine : (k : ℕ) → (0 < k → RightMemory r words) → (1 < k → Named r) → (2 < k → WithinMost r)
      → (3 < k → dedicated r + shared r ≤ 32) → (4 < k → AllInside r) → (5 < k → AllApart r)
      → (j : ℕ) → j < k → get_or (rules r words) j allowed ≡ allowed
  fine k m n c t s a zero h = let_pass (plain 10) (of_right r words (m h))
  fine k m n c t s a (suc zero) h = let_pass (plain 11) (ap not (name r (n h)))
  fine k m n c t s a (suc (suc zero)) h = with_none 12 (over r) (all_within r (c h))
  fine k m n c t s a (suc (suc (suc zero))) h = let_pass (plain 13) (le-ltb 32 _ (t h))
  fine k m n c t s a (suc (suc (suc (suc zero)))) h =
      with_none 14 (past (memory_words r) (sections_of r)) (put_inside r (memory_words r) (s h))
  fine k m n c t s a (suc (suc (suc (suc (suc zero))))) h = put_apart r words (a h)
  fine k m n c t s a (suc (suc (suc (suc (suc (suc j)))))) h = refl

  -- and only there
  module _ (k : ℕ) (b : (j : ℕ) → j < k → get_or (rules r words) j allowed ≡ allowed) where
    pub right_memory : 0 < k → RightMemory r words
    right_memory h = right_of r words (held_off _ (plain 10) (b 0 h))

    pub right_bits : 1 < k → Named r
    right_bits h = named r (not-false (all_named r) (held_off _ (plain 11) (b 1 h)))

    pub right_counts : 2 < k → WithinMost r
    right_counts h = none_over r (none_with 12 (over r) (b 2 h))

    pub right_together : 3 < k → dedicated r + shared r ≤ 32
    right_together h = ltb-false _ _ (held_off _ (plain 13) (b 3 h))

    pub right_ends : 4 < k → AllInside r
    right_ends h = inside r (memory_words r) (b 4 h)

    pub right_apart : 5 < k → AllApart r
    right_apart h = apart r words (b 5 h)

  to_legal : verdict r words ≡ allowed → Legal r words
  to_legal e = record {
    memory = right_memory 6 b (omega arith);
    named = right_bits 6 b (omega arith);
    counted = counted_of r (right_counts 6 b (omega arith)) (right_together 6 b (omega arith));
    inside =
        λ i k h w. omega (arith, (right_memory 6 b (omega arith)).lent, right_ends 6 b (omega arith) i k h w);
    apart = right_apart 6 b (omega arith);
  }
    where
      b : (j : ℕ) → j < 6 → get_or (rules r words) j allowed ≡ allowed
      b j h = all_allowed (rules r words) (sym verdict_rules ∙ e) j

  from_legal : Legal r words → verdict r words ≡ allowed
  from_legal h =
      verdict_rules
      ∙ allowed_all (rules r words)
      (fine 6 (λ l. h.memory) (λ l. h.named) (λ l. within_of r h.counted) (λ l. h.counted.together)
      (λ l i k a w. omega (arith, h.memory.lent, h.inside i k a w)) (λ l. h.apart))

pub accepted_is_legal : AcceptedIsLegal
accepted_is_legal r words = (to_legal r words, from_legal r words)

pub legal_buffers : (r : Registers) (words : ℕ) → allowed ≡ verdict r words → r.buffers ≤ 64
legal_buffers r words e = (to_legal r words (sym e)).counted.buffers

-- a legal section ends within the memory
pub ends_inside : (r : Registers) (words : ℕ) → Legal r words → (i : ℕ) → i < 7
    → end (get_or (sections_of r) i none) ≤ words
ends_inside r words h i l =
    ltb-false words (end (get_or (sections_of r) i none)) (put_inside r words h.inside i l)

-- of two legal sections one ends before the other starts
pub sections_apart : (r : Registers) (words : ℕ) → Legal r words → (i j : ℕ) → i < j → j < 7
    → (end (get_or (sections_of r) i none) ≤ (get_or (sections_of r) j none).start.0)
    ⊎ (end (get_or (sections_of r) j none) ≤ (get_or (sections_of r) i none).start.0)
sections_apart r words h i j l m =
    side (get_or (sections_of r) i none) (get_or (sections_of r) j none) (empty_or_some r i (omega arith))
    (empty_or_some r j m)
    (words_apart _ _ (λ k v w. h.apart i j k l m (within_has r i k v) (within_has r j k w)))
  where
    side : (a b : Section) → (a ≡ none) ⊎ (0 < a.words) → (b ≡ none) ⊎ (0 < b.words) → shares a b ≡ false
        → (end a ≤ b.start.0) ⊎ (end b ≤ a.start.0)
    side a b (inl e) y f = inl (omega (arith, ap end e))
    side a b (inr x) (inl e) f = inr (omega (arith, ap end e))
    side a b (inr x) (inr y) f = go (leb (end a) b.start.0) refl
      where
        go : (t : Bool) → leb (end a) b.start.0 ≡ t → (end a ≤ b.start.0) ⊎ (end b ≤ a.start.0)
        go true e = inl (leb-true (end a) b.start.0 e)
        go false e =
            inr
            (omega (
              arith,
              leb-false (end a) b.start.0 e,
              ltb-false (max a.start.0 b.start.0) (min (end a) (end b)) f,
            ))
