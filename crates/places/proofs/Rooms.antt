-- A place of an area lies in the memory.
-- Assumes nothing.
use Prim.Native.Nat.{ℕ, ◌+◌, ◌≤◌}
use native.Mathlib.Nat.{mul-le-mul_right}
use native.Mathlib.Omega.{arith}
use Rattle.places.specs.Areas.{HasPlace, place_in}
use Rattle.places.specs.declared.Area.{Area}

module _ (a : Area) (place words : ℕ) (h : HasPlace a place words) where
  pub place_room : place_in a place + a.each ≤ words
  place_room = omega (arith, mul-le-mul_right a.each h.within, h.room.room)
