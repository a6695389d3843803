-- What is promised of calls 12 and 13: statements only.
use Rattle.std.specs.Prelude.{ℕ, ◌<◌, ◌≡◌, List, length}
use Rattle.words.specs.Ranges.{SameIn}
use Rattle.shape.specs.Calls.{done}
use Rattle.places.specs.Areas.{place_range}
use Rattle.registers.specs.Fields.{event_size}
use Rattle.areas.specs.Areas.{event_area}
use Rattle.engine.specs.Calls.{World, with_memory, in_memory}
use Rattle.engine.specs.Holding.{YoungerStay}
use Rattle.events.specs.Events.{read_event, acknowledge_event}

-- an acknowledge releases all held up to and including the place, and no other
abbrev pub AcknowledgeReleases : Type 0
AcknowledgeReleases =
    (w : World) (place : ℕ) → let o = acknowledge_event w place in let s = w.state in o.says ≡ done
    → YoungerStay s.events (event_size s.regs) place o.world.state.events

-- a read looks at the words of its own event alone, where there is one, and an acknowledge at none:
-- with another memory, as long, that has the same words there, each does the same
pub record OwnEventAlone (w : World) (other : List ℕ) : Type 0 where
  pub read : (place : ℕ) → let a = event_area w.state.regs in
      (place < a.count → SameIn (place_range a place) w.memory other)
      → read_event (with_memory w other) place ≡ in_memory other (read_event w place)
  pub acknowledge : (place : ℕ)
      → acknowledge_event (with_memory w other) place ≡ in_memory other (acknowledge_event w place)

abbrev pub CallsReadOwnEvent : Type 0
CallsReadOwnEvent = (w : World) (other : List ℕ) → length other ≡ length w.memory → OwnEventAlone w other
