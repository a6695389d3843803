-- The filter's match as fields, and a frame whose values fit theirs.
use Rattle.std.specs.Prelude.{ℕ, ◌≤◌, Bool, true, false, Option, Some, None}
use Rattle.frame.specs.Identifier.{IdInKind}
use Rattle.frame.specs.declared.Frame.{Frame}

-- no filter matched
abbrev pub anmf_of : Option ℕ → Bool
anmf_of None = true
anmf_of (Some i) = false

-- the index of the filter that matched, 0 if none did
abbrev pub index_of : Option ℕ → ℕ
index_of None = 0
index_of (Some i) = i

-- a frame's values fit their fields
pub record InFields (f : Frame) : Type 0 where
  pub id : IdInKind f.xtd f.id
  pub dlc : f.dlc ≤ 15
