-- Word 0, the same in every element: ESI 31, XTD 30, RTR 29, identifier 28:0.
use Rattle.std.specs.Prelude.{ℕ, ◌+◌, ◌*◌, ◌^◌, Bool}
use Rattle.words.specs.Choice.{pick}
use Rattle.words.specs.Fields.{bits}
use Rattle.frame.specs.declared.Frame.{Frame}

-- the identifier in its place: 11 bits stand in 28:18, and the rest is 0
abbrev pub id_bits : Bool → ℕ → ℕ
id_bits xtd id = pick xtd id (id * 2 ^ 18)

unfoldable pub word0 : Frame → ℕ
word0 f = pick f.esi 1 0 * 2 ^ 31 + pick f.xtd 1 0 * 2 ^ 30 + pick f.rtr 1 0 * 2 ^ 29 + id_bits f.xtd f.id

-- the identifier that stands in a word 0, of 29 bits or of 11
abbrev pub id_in : Bool → ℕ → ℕ
id_in xtd w = pick xtd (bits 28 0 w) (bits 28 18 w)
