-- Which identifiers a filter element matches, of 11 and of 29 bits.
use Rattle.std.specs.Prelude.{ℕ, Bool, false, ◌&&◌, ◌||◌, eqb, leb}
use Rattle.std.specs.Int.Bits.{bit_and}
use Rattle.words.specs.Choice.{pick}
use Rattle.filter.specs.declared.filters.FilterElement.{FilterElement}

-- the identifier that the tests see: one of 29 bits is first ANDed with XIDAM
abbrev pub seen : Bool → ℕ → ℕ → ℕ
seen xtd xidam id = pick xtd (bit_and id xidam) id

-- a range, ends included
abbrev pub in_range : FilterElement → ℕ → Bool
in_range e x = leb e.id1 x && leb x e.id2

-- either of two
abbrev pub either_of : FilterElement → ℕ → Bool
either_of e x = eqb x e.id1 || eqb x e.id2

-- no difference from ID1 at the places where ID2 has a 1
abbrev pub at_set_bits : FilterElement → ℕ → Bool
at_set_bits e x = eqb (bit_and x e.id2) (bit_and e.id1 e.id2)

-- x is seen: 0 range; 1 either of two; 2 equal at the bits set; 3 off for 11 bits, and for 29 a range without XIDAM
unfoldable pub by_type : ℕ → Bool → FilterElement → ℕ → ℕ → Bool
by_type t xtd e x id =
    pick (eqb t 0) (in_range e x)
    (pick (eqb t 1) (either_of e x)
    (pick (eqb t 2) (at_set_bits e x)
    (xtd && in_range e id)))

-- action 0 is off; action 7 wants equality with ID1, whatever the type; every other goes by type
unfoldable pub matches : Bool → ℕ → FilterElement → ℕ → Bool
matches xtd xidam e id =
    pick (eqb e.action 0) false
    (pick (eqb e.action 7) (eqb (seen xtd xidam id) e.id1)
    (by_type e.filtertype xtd e (seen xtd xidam id) id))
