-- How many data bytes a frame has.
use Rattle.std.specs.Prelude.{ℕ, min, Bool, List, [], ◌∷◌, get_or}
use Rattle.words.specs.Choice.{pick}

-- the bytes of each DLC in FD
abbrev pub fd_bytes : List ℕ
fd_bytes = 0 ∷ 1 ∷ 2 ∷ 3 ∷ 4 ∷ 5 ∷ 6 ∷ 7 ∷ 8 ∷ 12 ∷ 16 ∷ 20 ∷ 24 ∷ 32 ∷ 48 ∷ 64 ∷ []

-- a remote frame has none; a classic one has at most 8
unfoldable pub data_length : Bool → Bool → ℕ → ℕ
data_length rtr fdf dlc = pick rtr 0 (pick fdf (get_or fd_bytes dlc 0) (min dlc 8))
