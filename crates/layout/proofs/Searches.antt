-- The verdict's searches: the first of the seven sections with a fault, and the first pair that shares a word.
-- Assumes nothing.
use Prim.Native.Nat.{ℕ, ◌+◌, ◌-◌, ◌≤◌, ◌<◌}
use mathlib.Core.Path.{◌≡◌, refl, sym, ap, ◌∙◌}
use mathlib.Core.Bool.{Bool, true, false}
use mathlib.Core.List.{List}
use borrow.Author.Tests.{ltb-false, lt-ltb, le-ltb}
use lib.Dec.{ltb}
use lib.ListN.{get_or}
use native.Mathlib.Omega.{arith}
use Rattle.std.specs.Prelude.{length, position, Some, None}
use Rattle.std.specs.List.{position_or_len}
use Rattle.std.proofs.lemmas.Grind.{common_steps}
use Rattle.std.proofs.lemmas.List.Sums.{fails_before_first}
use Rattle.std.proofs.lemmas.List.Quantifiers.{position-Some}
use Rattle.words.specs.Least.{least_from}
use Rattle.words.specs.Rules.{allowed, refused, refuse_if}
use Rattle.words.proofs.Lowest.{look_found, look_on, look_done, least_is, least_absent, least_below}
use Rattle.words.proofs.Rulings.{turned_down, let_pass, held_off}
use Rattle.shape.specs.Refusals.{names}
use Rattle.layout.specs.Sections.{none}
use Rattle.layout.specs.Verdict.{first_with, shares, partner, has_partner, pair_rule}
use Rattle.layout.specs.declared.sections.Section.{Section}

-- the rule of a search of the seven sections: it names the first with a fault, and lets pass where there is none
module _ (n : ℕ) (fault : ℕ → Bool) where
  pub found_with : (i : ℕ) → i ≡ least_from fault 0 7 → i < 7 → first_with n fault ≡ refused (names n i 7)
  found_with i e h =
      turned_down (names n (least_from fault 0 7) 7) (lt-ltb (least_from fault 0 7) 7 (omega arith))
      ∙ ap (λ (k : ℕ). refused (names n k 7)) (sym e)

  pub none_with : first_with n fault ≡ allowed → (i : ℕ) → i < 7 → fault i ≡ false
  none_with e i h =
      least_below fault 0 7 i (omega arith)
      (omega (arith, ltb-false (least_from fault 0 7) 7 (held_off _ (names n (least_from fault 0 7) 7) e)))

  pub with_none : ((i : ℕ) → i < 7 → fault i ≡ false) → first_with n fault ≡ allowed
  with_none h =
      let_pass (names n (least_from fault 0 7) 7)
      (le-ltb (least_from fault 0 7) 7 (omega (arith, least_absent fault 0 7 (λ j a b. h j (omega arith)))))

-- the same rule by the place of the first of seven that passes a test
module _ {X : Type 0} (p : X → Bool) (d : X) (xs : List X) (size : length xs ≡ 7) (n : ℕ) where
  pub first_at : (i : ℕ) → position p xs ≡ Some i → first_with n (λ k. p (get_or xs k d)) ≡ refused (names n i 7)
  first_at i e =
      let f = position-Some p xs i d e in
      found_with n (λ k. p (get_or xs k d)) i
      (sym
      (least_is (λ k. p (get_or xs k d)) 0 7 i (omega arith) (omega (arith, f.0)) f.1 (λ j a h. f.2 j h)))
      (omega (arith, f.0))

  pub first_none : position p xs ≡ None → first_with n (λ k. p (get_or xs k d)) ≡ allowed
  first_none e =
      let all : 7 ≤ position_or_len p xs = grind (arith, common_steps) in
      with_none n (λ k. p (get_or xs k d)) (λ i h. fails_before_first p xs i d (omega arith))

-- section j shares a word with section a
abbrev pub shares_with : List Section → Section → ℕ → Bool
shares_with s a j = shares a (get_or s j none)

module _ (s : List Section) (i : ℕ) where
  pub partner_from : partner s i ≡ least_from (shares_with s (get_or s i none)) (i + 1) (7 - (i + 1))
  unfolding partner
  partner_from = refl

  -- section j shares no word with section i: its partner is further on
  pub partner_on : (j : ℕ) → j < 7 → partner s i ≡ least_from (shares_with s (get_or s i none)) j (7 - j) → (t : Bool)
      → t ≡ shares (get_or s i none) (get_or s j none) → t ≡ false
      → partner s i ≡ least_from (shares_with s (get_or s i none)) (j + 1) (7 - (j + 1))
  partner_on j l p t f g = look_on (shares_with s (get_or s i none)) (partner s i) j 7 p l (sym f ∙ g)

  module _ (left : least_from (has_partner s) 0 7 ≡ least_from (has_partner s) i (7 - i)) where
    pub pair_found : (j : ℕ) → i < 7 → j < 7 → partner s i ≡ least_from (shares_with s (get_or s i none)) j (7 - j)
        → (t : Bool) → t ≡ shares (get_or s i none) (get_or s j none) → t ≡ true
        → refused (names 15 i j) ≡ pair_rule s
    pair_found j h l p t f g =
        let q : j ≡ partner s i = look_found (shares_with s (get_or s i none)) (partner s i) j 7 p l (sym f ∙ g) in
        let w : i ≡ least_from (has_partner s) 0 7 =
        look_found (has_partner s) (least_from (has_partner s) 0 7) i 7 left h (lt-ltb (partner s i) 7 (omega arith)) in
        ap (λ (k : ℕ). refused (names 15 i k)) q
        ∙ ap (λ (t : Bool). refuse_if t (names 15 i (partner s i))) (sym (lt-ltb i 7 h))
        ∙ ap (λ (k : ℕ). refuse_if (ltb k 7) (names 15 k (partner s k))) w

    -- section i has no partner: the search goes on
    pub pair_on : (j : ℕ) → i < 7 → j ≤ 7 → 7 ≤ j → partner s i ≡ least_from (shares_with s (get_or s i none)) j (7 - j)
        → least_from (has_partner s) 0 7 ≡ least_from (has_partner s) (i + 1) (7 - (i + 1))
    pair_on j h k l p =
        look_on (has_partner s) (least_from (has_partner s) 0 7) i 7 left h
        (le-ltb (partner s i) 7 (omega (arith, look_done (shares_with s (get_or s i none)) (partner s i) j 7 p k l)))

    pub pair_none : i ≤ 7 → 7 ≤ i → allowed ≡ pair_rule s
    pair_none k h =
        sym
        (ap
        (λ (t : Bool). refuse_if t (names 15 (least_from (has_partner s) 0 7) (partner s (least_from (has_partner s) 0 7))))
        (le-ltb (least_from (has_partner s) 0 7) 7
        (omega (arith, look_done (has_partner s) (least_from (has_partner s) 0 7) i 7 left k h))))
