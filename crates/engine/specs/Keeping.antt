-- What becomes of a new element in a ring of elements, with its flags: FIFO 0, FIFO 1 and the event list alike.
use Rattle.std.specs.Prelude.{ℕ, ◌+◌, ltb, Option, Some, None}
use Rattle.words.specs.Choice.{pick}
use Rattle.ring.specs.declared.Ring.{Ring}
use Rattle.places.specs.Slots.{take_rule}
use Rattle.engine.specs.Flags.{raised, filling}
use Rattle.engine.specs.declared.keeping.Keeper.{Keeper}
use Rattle.engine.specs.declared.keeping.Kept.{Kept}
use Rattle.engine.specs.declared.state.Record.{Record}

-- of a ring that was full: new where it took the oldest's place, which is no loss flag, and else lost
abbrev pub slot_flags : Keeper → Option ℕ → Record → Record
slot_flags k (Some p) r = raised r k.first
slot_flags k None r = raised r (k.first + 3)

-- of any ring, by the fill before
unfoldable pub kept_flags : Keeper → ℕ → Option ℕ → Record → Record
kept_flags k fill slot r =
    pick (ltb fill k.size) (filling r k.first (fill + 1) k.mark k.size) (slot_flags k slot r)

-- room: at the put place. Full and blocking, or of size 0: lost. Full and overwriting: in the place of the oldest
unfoldable pub keep_rule : Keeper → Ring → Record → Kept
keep_rule k q r =
    let t = take_rule k.size k.overwrites q in
    record { slot = t.slot; ring = t.ring; recorded = kept_flags k q.fill t.slot r }
