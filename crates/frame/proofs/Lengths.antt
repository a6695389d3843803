-- The data length, case by case, and its bounds.
-- Assumes nothing.
use Prim.Native.Nat.{ℕ, zero, suc, ◌≤◌, min, max}
use mathlib.Core.Path.{◌≡◌, refl}
use mathlib.Core.Bool.{Bool, true, false}
use mathlib.Core.List.{List, [], ◌∷◌}
use native.Mathlib.Omega.{arith}
use lib.ListN.{get_or}
use Rattle.frame.specs.Length.{fd_bytes, data_length}

-- no entry of a list is above its largest
abbrev largest : List ℕ → ℕ
largest [] = 0
largest (x ∷ xs) = max x (largest xs)

entry_le : (l : List ℕ) (i : ℕ) → get_or l i 0 ≤ largest l
entry_le [] i = omega arith
entry_le (x ∷ xs) zero = omega arith
entry_le (x ∷ xs) (suc i) = omega (arith, entry_le xs i)

pub fd_most : (dlc : ℕ) → get_or fd_bytes dlc 0 ≤ 64
fd_most dlc = entry_le fd_bytes dlc

module _ (rtr fdf : Bool) (dlc : ℕ) where
  pub length_remote : rtr ≡ true → 0 ≡ data_length rtr fdf dlc
  unfolding data_length
  length_remote a = simp a

  pub length_fd : rtr ≡ false → fdf ≡ true → get_or fd_bytes dlc 0 ≡ data_length rtr fdf dlc
  unfolding data_length
  length_fd a b = simp (a, b)

  pub length_classic : rtr ≡ false → fdf ≡ false → min dlc 8 ≡ data_length rtr fdf dlc
  unfolding data_length
  length_classic a b = simp (a, b)

-- ---- bounds

pub length_most : (rtr fdf : Bool) (dlc : ℕ) → data_length rtr fdf dlc ≤ 64
length_most true fdf dlc = omega (arith, length_remote true fdf dlc refl)
length_most false true dlc = omega (arith, length_fd false true dlc refl refl, fd_most dlc)
length_most false false dlc = omega (arith, length_classic false false dlc refl refl)

pub classic_most : (rtr : Bool) (dlc : ℕ) → data_length rtr false dlc ≤ 8
classic_most true dlc = omega (arith, length_remote true false dlc refl)
classic_most false dlc = omega (arith, length_classic false false dlc refl refl)
