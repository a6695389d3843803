-- The test of a filter element, case by case.
-- Assumes nothing.
use Prim.Native.Nat.{ℕ}
use mathlib.Core.Path.{◌≡◌}
use mathlib.Core.Bool.{Bool, true, false, ◌&&◌}
use native.Mathlib.Omega.{arith}
use borrow.Author.Tests.{eq-eqb, ne_eqb}
use lib.Bits.{bit_and}
use lib.Dec.{eqb}
use Rattle.filter.specs.Matching.{seen, in_range, either_of, at_set_bits, by_type, matches}
use Rattle.filter.specs.declared.filters.FilterElement.{FilterElement}

module _ (xtd : Bool) (xidam id : ℕ) where
  pub seen_long : xtd ≡ true → bit_and id xidam ≡ seen xtd xidam id
  seen_long h = rw h

  pub seen_short : xtd ≡ false → id ≡ seen xtd xidam id
  seen_short h = rw h

module _ (t : ℕ) (xtd : Bool) (e : FilterElement) (x id : ℕ) (r : Bool) where
  pub by_range : r ≡ in_range e x → t ≡ 0 → r ≡ by_type t xtd e x id
  unfolding by_type
  by_range d h = rw h d

  pub by_either : r ≡ either_of e x → t ≡ 1 → r ≡ by_type t xtd e x id
  unfolding by_type
  by_either d h = rw h d

  pub by_bits : r ≡ at_set_bits e x → t ≡ 2 → r ≡ by_type t xtd e x id
  unfolding by_type
  by_bits d h = rw h d

  pub by_plain_range : r ≡ in_range e id → (t ≡ 0 → ⊥) → (t ≡ 1 → ⊥) → (t ≡ 2 → ⊥) → (xtd && r) ≡ by_type t xtd e x id
  unfolding by_type
  by_plain_range d h k l = rw (ne_eqb t 0 h, ne_eqb t 1 k, ne_eqb t 2 l, d)

module _ (xtd : Bool) (xidam : ℕ) (e : FilterElement) (id : ℕ) where
  pub match_off : e.action ≡ 0 → false ≡ matches xtd xidam e id
  unfolding matches
  match_off h = rw (eq-eqb e.action 0 h)

  module _ (x : ℕ) (s : x ≡ seen xtd xidam id) where
    pub match_buffer : e.action ≡ 7 → eqb x e.id1 ≡ matches xtd xidam e id
    unfolding matches
    match_buffer h = rw (ne_eqb e.action 0 (λ z. omega arith), eq-eqb e.action 7 h, s)

    pub match_type : (r : Bool) → r ≡ by_type e.filtertype xtd e x id → (e.action ≡ 0 → ⊥) → (e.action ≡ 7 → ⊥)
        → r ≡ matches xtd xidam e id
    unfolding matches
    match_type r d h k = rw (ne_eqb e.action 0 h, ne_eqb e.action 7 k, ← s) d
