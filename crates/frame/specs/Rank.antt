-- The rank of a frame in arbitration: the smaller wins.
use Rattle.std.specs.Prelude.{ℕ, ◌+◌, ◌*◌, ◌%◌, ◌^◌, Bool}
use Rattle.words.specs.Choice.{pick}
use Rattle.frame.specs.Identifier.{base_id}

-- what is added for frames of one base identifier: 29 bits come after 11, and remote after data
abbrev pub after_base : Bool → Bool → ℕ → ℕ
after_base xtd rtr id = pick xtd (2 ^ 20 + 2 ^ 19 + id % 2 ^ 18 * 2 + pick rtr 1 0) (pick rtr 1 0 * 2 ^ 20)

unfoldable pub rank : Bool → Bool → ℕ → ℕ
rank xtd rtr id = base_id xtd id * 2 ^ 21 + after_base xtd rtr id
