-- What is promised of a report: statements only.
use Rattle.std.specs.Prelude.{ℕ, Bool, ◌&&◌, List, ltb}
use Rattle.words.specs.Choice.{pick}
use Rattle.words.specs.Ranges.{Range, front, Inside, OnlyIn}
use Rattle.ring.specs.Rings.{put_place}
use Rattle.registers.specs.Fields.{event_size}
use Rattle.places.specs.Areas.{place_range}
use Rattle.areas.specs.Areas.{event_area}
use Rattle.areas.specs.Own.{SameSections}
use Rattle.engine.specs.Calls.{World, with_memory, Alike}
use Rattle.choosing.specs.Buffers.{header_of}
use Rattle.reporting.specs.Reporting.{report_sent}

-- the words of one event: that at the put place, where the sent element wants one and the list has room, else none
abbrev pub event_range : World → ℕ → Range
event_range w buffer =
    let s = w.state in
    let n = event_size s.regs in
    pick ((header_of s w.memory buffer).wish && ltb s.events.fill n)
    (place_range (event_area s.regs) (put_place s.events n))
    (front 0)

-- of the memory a report changes at most these
abbrev pub ReportWritesOneEvent : Type 0
ReportWritesOneEvent =
    (w : World) (buffer : ℕ) (passive : Bool) (time : ℕ)
    → OnlyIn (event_range w buffer) w.memory (report_sent w buffer passive time).world.memory

-- it looks at section 6 alone, that of the Tx buffers: with two memories that have the same there, and maybe in others,
-- it says and does the same, and they still have
abbrev pub ReportLooksAtTxBuffers : Type 0
ReportLooksAtTxBuffers =
    (w : World) (other : List ℕ) (buffer : ℕ) (passive : Bool) (time : ℕ) (sections : Range) → Inside sections 6
    → SameSections w.state.regs sections w.memory other
    → Alike sections (report_sent w buffer passive time) (report_sent (with_memory w other) buffer passive time)
