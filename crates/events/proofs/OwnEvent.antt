-- A read looks at its own event alone, and an acknowledge at no word.
-- Assumes nothing.
use Prim.Native.Nat.{ℕ, ◌+◌}
use mathlib.Core.Path.{◌≡◌, refl, ap, ap₂}
use mathlib.Core.List.{List, []}
use native.Mathlib.Omega.{arith}
use lib.ListN.{length}
use Rattle.words.specs.Ranges.{SameIn}
use Rattle.words.specs.Rules.{first}
use Rattle.shape.specs.Calls.{answers, settles, leaves, tells}
use Rattle.places.specs.Areas.{place_in, place_range}
use Rattle.registers.specs.declared.Registers.{Registers}
use Rattle.element.specs.Headers.{event_header_in}
use Rattle.element.specs.declared.EventHeader.{EventHeader}
use Rattle.areas.specs.Areas.{event_area}
use Rattle.engine.specs.Calls.{World, with_state, with_memory}
use Rattle.engine.proofs.Memories.{same_in_memory}
use Rattle.events.specs.Events.{event_refusals, event_at, released_events}
use Rattle.events.specs.Promises.{CallsReadOwnEvent}
use Rattle.events.proofs.Judgements.{event_open}

event_same : (g : Registers) (mem other : List ℕ) (place : ℕ) → SameIn (place_range (event_area g) place) mem other
    → event_at g other place ≡ event_at g mem place
unfolding event_at
event_same g mem other place same =
    let at = place_in (event_area g) place in
    ap₂ event_header_in (same.within at (omega arith) (omega arith)) (same.within (at + 1) (omega arith) (omega arith))

-- the rows ask for the length alone
event_rows_alike : (w : World) (other : List ℕ) → length other ≡ length w.memory → (place : ℕ)
    → event_refusals (with_memory w other) place ≡ event_refusals w place
unfolding event_refusals
event_rows_alike w other size place = simp (size)

pub calls_read_own_event : CallsReadOwnEvent
calls_read_own_event w other size = record {
  read = λ place same.
      same_in_memory w other [] (event_refusals w place) (event_refusals (with_memory w other) place)
      (tells (event_at w.state.regs w.memory place) w)
      (tells (event_at w.state.regs other place) (with_memory w other))
      (ap first (event_rows_alike w other size place))
      (λ t.
      ap (λ (h : EventHeader). settles (answers h) (with_memory w other))
      (event_same w.state.regs w.memory other place (same (event_open w place t).element.within)));
  acknowledge = λ place.
      same_in_memory w other [] (event_refusals w place) (event_refusals (with_memory w other) place)
      (leaves (with_state w (released_events w.state place)))
      (leaves (with_state (with_memory w other) (released_events w.state place)))
      (ap first (event_rows_alike w other size place)) (λ t. refl);
}
