-- Calls 12 and 13, read and acknowledge an event.
use Rattle.std.specs.Prelude.{ℕ, Bool, not, List, [], ◌∷◌, leb}
use Rattle.ring.specs.Rings.{held, released_through}
use Rattle.shape.specs.Calls.{leaves, tells, call}
use Rattle.shape.specs.Refusals.{Refusals}
use Rattle.places.specs.Areas.{place_in}
use Rattle.registers.specs.Fields.{event_size}
use Rattle.registers.specs.declared.Registers.{Registers}
use Rattle.element.specs.Headers.{event_header_in, headed}
use Rattle.element.specs.declared.EventHeader.{EventHeader}
use Rattle.areas.specs.Areas.{event_area}
use Rattle.engine.specs.Calls.{World, with_state, Outcome, ◌when◌, is_unfit}
use Rattle.engine.specs.States.{with_events}
use Rattle.engine.specs.declared.state.State.{State}

-- 23: no such place in the list
abbrev pub no_event : State → ℕ → Bool
no_event s place = leb (event_size s.regs) place

-- 29: the place is not held
abbrev pub event_free : State → ℕ → Bool
event_free s place = not (held s.events (event_size s.regs) place)

-- what is against both
unfoldable pub event_refusals : World → ℕ → Refusals
event_refusals w place = 20 when is_unfit w ∷ 23 when no_event w.state place ∷ 29 when event_free w.state place ∷ []

-- the event at a place
unfoldable pub event_at : Registers → List ℕ → ℕ → EventHeader
event_at g mem place = headed event_header_in mem (place_in (event_area g) place)

-- call 12
abbrev pub read_event : World → ℕ → Outcome EventHeader
read_event w place = call w [] (event_refusals w place) (tells (event_at w.state.regs w.memory place) w)

-- all held events up to and including a place are released
abbrev pub released_events : State → ℕ → State
released_events s place = with_events s (released_through s.events (event_size s.regs) place)

-- call 13
abbrev pub acknowledge_event : World → ℕ → Outcome (Unit {0})
acknowledge_event w place =
    call w [] (event_refusals w place) (leaves (with_state w (released_events w.state place)))
