-- What an acknowledge of a held place leaves.
-- Assumes nothing.
use Prim.Native.Nat.{ℕ}
use Rattle.ring.specs.Rings.{released_through}
use Rattle.ring.specs.declared.Ring.{Ring}
use Rattle.ring.proofs.Moves.{held_released_through}
use Rattle.engine.specs.Holding.{YoungerStay}
use Rattle.engine.specs.Needs.{HoldsPlace}

pub younger_stay : (q : Ring) (size place : ℕ) → HoldsPlace q size place
    → YoungerStay q size place (released_through q size place)
younger_stay q size place h p = held_released_through q size h.ring place h.holds p
