-- The identifier: of 11 or of 29 bits.
use Rattle.std.specs.Prelude.{ℕ, ◌/◌, ◌^◌, ◌≤◌, Bool}
use Rattle.words.specs.Choice.{pick}

-- the largest of a kind
abbrev pub most_id : Bool → ℕ
most_id xtd = pick xtd 0x1FFFFFFF 0x7FF

-- an identifier is within the bits of its kind
pub record IdInKind (xtd : Bool) (id : ℕ) : Type 0 where
  pub within : id ≤ most_id xtd

-- the base identifier: all of 11 bits, the upper 11 of 29
abbrev pub base_id : Bool → ℕ → ℕ
base_id xtd id = pick xtd (id / 2 ^ 18) id
