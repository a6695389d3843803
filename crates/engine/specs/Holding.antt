-- A place in FIFO 0 or 1 or the event list that a call names: what is against the call, and what an acknowledge leaves.
use Rattle.std.specs.Prelude.{ℕ, ◌≡◌, not, ◌&&◌, [], ◌∷◌, ltb, leb}
use Rattle.ring.specs.Rings.{age, held}
use Rattle.ring.specs.declared.Ring.{Ring}
use Rattle.shape.specs.Refusals.{Refusals}
use Rattle.engine.specs.Calls.{◌when◌}

-- 23 and 29, which come after 20: no such place; it is not held
unfoldable pub place_refusals : Ring → ℕ → ℕ → Refusals
place_refusals q size place = 23 when leb size place ∷ 29 when not (held q size place) ∷ []

-- of those held before, the ones younger than a place are held after, and no other is
abbrev pub YoungerStay : Ring → ℕ → ℕ → Ring → Type 0
YoungerStay before size place last =
    (p : ℕ) → held last size p ≡ (held before size p && ltb (age before size place) (age before size p))
