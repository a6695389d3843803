-- Which frames are malformed (refusal 21).
use Rattle.std.specs.Prelude.{ℕ, ◌≤◌, ◌≡◌, Bool, true, false, not, ◌&&◌, ◌||◌, ltb, eqb}
use Rattle.frame.specs.Identifier.{IdInKind}
use Rattle.frame.specs.Length.{data_length}
use Rattle.frame.specs.declared.Frame.{Frame}

-- a frame with so many bytes of data is malformed: the six grounds, in the paper's order
unfoldable pub malformed : Frame → ℕ → Bool
malformed f len =
    not f.xtd && ltb 0x7FF f.id
    || f.xtd && ltb 0x1FFFFFFF f.id
    || ltb 15 f.dlc
    || f.fdf && f.rtr
    || (f.brs || f.esi) && not f.fdf
    || not (eqb len (data_length f.rtr f.fdf f.dlc))

-- what holds of every frame that is not
pub record WellFormed (f : Frame) (len : ℕ) : Type 0 where
  pub id : IdInKind f.xtd f.id
  pub dlc : f.dlc ≤ 15
  pub remote : f.fdf ≡ true → f.rtr ≡ false
  pub switch : f.brs ≡ true → f.fdf ≡ true
  pub passive : f.esi ≡ true → f.fdf ≡ true
  pub length : len ≡ data_length f.rtr f.fdf f.dlc
