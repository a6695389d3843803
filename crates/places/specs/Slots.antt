-- What becomes of a new element in a ring of places.
use Rattle.std.specs.Prelude.{ℕ, Bool, not, ◌||◌, List, Option, Some, None, eqb, ltb}
use Rattle.words.specs.Choice.{pick}
use Rattle.words.specs.Runs.{splice}
use Rattle.ring.specs.Rings.{put_place, pushed, overwritten}
use Rattle.ring.specs.declared.Ring.{Ring}
use Rattle.places.specs.Areas.{place_in}
use Rattle.places.specs.declared.Area.{Area}
use Rattle.places.specs.declared.Taken.{Taken}

-- room: at the put place. Full and blocking, or of size 0: lost. Full and overwriting: in the place of the oldest
unfoldable pub take_rule : ℕ → Bool → Ring → Taken
take_rule size overwrites q =
    pick (ltb q.fill size)
    (record { slot = Some (put_place q size); ring = pushed q })
    (pick (eqb size 0 || not overwrites)
    (record { slot = None; ring = q })
    (record { slot = Some q.oldest; ring = overwritten q size }))

-- the memory after an element of these words went into a slot of an area
abbrev pub slot_memory : List ℕ → Area → List ℕ → Option ℕ → List ℕ
slot_memory mem a ws (Some p) = splice mem (place_in a p) ws
slot_memory mem a ws None = mem
