-- What each action and type matches, by order and bit by bit.
-- Assumes nothing.
use Prim.Native.Nat.{ℕ, zero, suc, ◌^◌, ◌≤◌, ◌<◌, min}
use mathlib.Core.Path.{◌≡◌, refl, sym, ap, ◌∙◌}
use mathlib.Core.Bool.{Bool, true, ◌&&◌}
use mathlib.Core.Logic.{◌↔◌, ◌⊎◌, inl, inr, ⊎_elim}
use native.Mathlib.Nat.{pow-suc}
use native.Mathlib.Omega.{arith}
use Rattle.std.proofs.lemmas.Bool.{eqb-true, eq-eqb, leb-true, le-leb, and_parts, and_from, or_cases, or_left, or_right}
use lib.Bits.{bit_and, and_le_r}
use lib.Dec.{eqb}
use Rattle.words.specs.Bits.{bit}
use Rattle.words.proofs.BitLaws.{bit_of_and, bit_lt, same_bits}
use Rattle.filter.specs.Matching.{seen, in_range, either_of, at_set_bits, by_type, matches}
use Rattle.filter.specs.Promises.{SeenTells, MatchTells, MatchIsByType}
use Rattle.filter.specs.declared.filters.FilterElement.{FilterElement}
use Rattle.filter.proofs.Tests.{seen_long, seen_short, by_range, by_either, by_bits, by_plain_range, match_off}
use Rattle.filter.proofs.Tests.{match_buffer, match_type}

-- ---- tests and what they say

equal_tells : (a b : ℕ) → (eqb a b ≡ true) ↔ (a ≡ b)
equal_tells a b = (eqb-true a b, eq-eqb a b)

range_tells : (e : FilterElement) (x : ℕ) → (in_range e x ≡ true) ↔ ((e.id1 ≤ x) × (x ≤ e.id2))
range_tells e x = (
  λ h. let b = and_parts _ _ h in (leb-true e.id1 x b.0, leb-true x e.id2 b.1),
  λ h. and_from _ _ (le-leb e.id1 x h.0) (le-leb x e.id2 h.1),
)

either_tells : (e : FilterElement) (x : ℕ) → (either_of e x ≡ true) ↔ ((x ≡ e.id1) ⊎ (x ≡ e.id2))
either_tells e x = (
  λ h. ⊎_elim (λ a. inl (eqb-true x e.id1 a)) (λ b. inr (eqb-true x e.id2 b))
      (or_cases (eqb x e.id1) (eqb x e.id2) h),
  λ h. ⊎_elim (λ a. or_left _ (eqb x e.id2) (eq-eqb x e.id1 a))
      (λ b. or_right (eqb x e.id1) _ (eq-eqb x e.id2 b)) h,
)

below_pow : (n : ℕ) → n < 2 ^ n
below_pow zero = omega arith
below_pow (suc n) = omega (arith, below_pow n, pow-suc 2 n)

-- two words masked alike are equal exactly where they agree at each bit that is set in the mask
masked_tells : (x a m : ℕ) → (bit_and x m ≡ bit_and a m) ↔ ((k : ℕ) → bit m k ≡ 1 → bit x k ≡ bit a k)
masked_tells x a m = (
  λ h k s. omega (arith, bit_of_and x m k, bit_of_and a m k, ap (λ (w : ℕ). bit w k) h, bit_lt x k, bit_lt a k),
  λ h. same_bits m (bit_and x m) (bit_and a m) (omega (arith, and_le_r x m, below_pow m))
      (omega (arith, and_le_r a m, below_pow m)) (λ k l. at k h),
)
  where
    at : (k : ℕ) → ((k : ℕ) → bit m k ≡ 1 → bit x k ≡ bit a k) → bit (bit_and x m) k ≡ bit (bit_and a m) k
    at k h = bit_of_and x m k ∙ go (bit m k) refl (bit_lt m k) ∙ sym (bit_of_and a m k)
      where
        go : (b : ℕ) → bit m k ≡ b → b < 2 → min (bit x k) (bit m k) ≡ min (bit a k) (bit m k)
        go zero e l = omega arith
        go (suc zero) e l = ap (λ (y : ℕ). min y (bit m k)) (h k e)
        go (suc (suc b)) e l = absurd (omega arith)

bits_tell : (e : FilterElement) (x : ℕ)
    → (at_set_bits e x ≡ true) ↔ ((k : ℕ) → bit e.id2 k ≡ 1 → bit x k ≡ bit e.id1 k)
bits_tell e x = (
  λ h. (masked_tells x e.id1 e.id2).0 (eqb-true (bit_and x e.id2) (bit_and e.id1 e.id2) h),
  λ h. eq-eqb (bit_and x e.id2) (bit_and e.id1 e.id2) ((masked_tells x e.id1 e.id2).1 h),
)

-- a test that is another says what that says
told : {r t : Bool} {P : Type 0} → r ≡ t → (r ≡ true) ↔ P → (t ≡ true) ↔ P
told e p = (λ h. p.0 (e ∙ h), λ h. sym e ∙ p.1 h)

-- ---- the identifier seen

seen_tells : (xtd : Bool) (xidam id : ℕ) → SeenTells xtd xidam id
seen_tells xtd xidam id = record {
  short = λ h. sym (seen_short xtd xidam id h);
  long = λ h k. ap (λ (w : ℕ). bit w k) (sym (seen_long xtd xidam id h)) ∙ bit_of_and id xidam k;
}

-- ---- each action and type

module _ (xtd : Bool) (xidam : ℕ) (e : FilterElement) (id : ℕ) where
  abbrev x : ℕ
  x = seen xtd xidam id

  typed : (r : Bool) → 0 < e.action → e.action < 7 → r ≡ by_type e.filtertype xtd e x id
      → r ≡ matches xtd xidam e id
  typed r h k d = match_type xtd xidam e id x refl r d (λ z. omega arith) (λ z. omega arith)

  plain_range : 0 < e.action → e.action < 7 → e.filtertype ≡ 3 → (xtd && in_range e id) ≡ matches xtd xidam e id
  plain_range h k t =
      typed (xtd && in_range e id) h k
      (by_plain_range e.filtertype xtd e x id (in_range e id) refl
      (λ z. omega arith) (λ z. omega arith) (λ z. omega arith))

  match_tells : MatchTells xtd xidam e id
  match_tells = record {
    off = λ h. sym (match_off xtd xidam e id h);
    buffer = λ h. told (match_buffer xtd xidam e id x refl h) (equal_tells x e.id1);
    range = λ h k t.
        told (typed (in_range e x) h k (by_range e.filtertype xtd e x id (in_range e x) refl t))
        (range_tells e x);
    either = λ h k t.
        told (typed (either_of e x) h k (by_either e.filtertype xtd e x id (either_of e x) refl t))
        (either_tells e x);
    bitwise = λ h k t.
        told (typed (at_set_bits e x) h k (by_bits e.filtertype xtd e x id (at_set_bits e x) refl t))
        (bits_tell e x);
    short = λ h k t s. sym (plain_range h k t) ∙ ap (λ (b : Bool). b && in_range e id) s;
    long = λ h k t s. told (ap (λ (b : Bool). b && in_range e id) (sym s) ∙ plain_range h k t) (range_tells e id);
  }

pub match_is_by_type : MatchIsByType
match_is_by_type xtd xidam e id = (seen_tells xtd xidam id, match_tells xtd xidam e id)
