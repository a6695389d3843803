-- What a match for priority leaves in the record: flag 8, and the priority word.
use Rattle.std.specs.Prelude.{ℕ, ◌+◌, Bool, eqb, Option, Some, None}
use Rattle.words.specs.Choice.{pick}
use Rattle.element.specs.Fitting.{index_of}
use Rattle.element.specs.declared.Arrival.{Arrival}
use Rattle.filter.specs.Destination.{reason}
use Rattle.filter.specs.declared.Reason.TheVariants.{PriorityOnly}
use Rattle.engine.specs.Flags.{raised, with_priority, priority_word}
use Rattle.engine.specs.declared.state.Record.{Record}

-- the word has the list of the frame's kind, the index of the filter element, the outcome and the place
abbrev pub prioritised : Record → Arrival → ℕ → ℕ → Record
prioritised r a outcome place =
    with_priority (raised r 8) (priority_word a.frame.xtd (index_of a.matched) outcome place)

-- outcome and place by what became of the frame in FIFO 0 or 1: 2 and 3 stored, 1 lost
abbrev pub slot_outcome : ℕ → Option ℕ → ℕ
slot_outcome fifo (Some p) = 2 + fifo
slot_outcome fifo None = 1

abbrev pub slot_place : Option ℕ → ℕ
slot_place (Some p) = p
slot_place None = 0

-- after a FIFO, for a frame with priority or without
abbrev pub slot_noted : Record → Bool → Arrival → ℕ → Option ℕ → Record
slot_noted r priority a fifo slot = pick priority (prioritised r a (slot_outcome fifo slot) (slot_place slot)) r

-- after a discard: outcome 0, of a match for priority only
abbrev pub drop_noted : Record → Arrival → ℕ → Record
drop_noted r a why = pick (eqb why (reason PriorityOnly)) (prioritised r a 0 0) r
