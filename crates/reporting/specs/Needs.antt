-- What helpers ask of their callers. A reader of the promises need not read it.
use Rattle.std.specs.Prelude.{ℕ, ◌<◌, ◌≡◌, true, Option, Some}
use Rattle.ring.specs.Rings.{Fit}
use Rattle.frame.specs.declared.Frame.{Frame}
use Rattle.registers.specs.Fields.{tx_count, event_size}
use Rattle.layout.specs.Legal.{Legal}
use Rattle.element.specs.Fitting.{InFields}
use Rattle.places.specs.Areas.{Roomy}
use Rattle.places.specs.declared.Area.{Area}
use Rattle.engine.specs.Fitness.{Sound}
use Rattle.engine.specs.declared.state.State.{State}
use Rattle.choosing.specs.Choosing.{is_candidate}

-- a buffer can be reported
pub record Reportable (s : State) (words buffer : ℕ) : Type 0 where
  pub sound : Sound s words
  pub within : buffer < tx_count s.regs
  pub candidate : is_candidate s buffer ≡ true

-- an event can be kept
pub record CanTell (s : State) (words : ℕ) : Type 0 where
  pub legal : Legal s.regs words
  pub events : Fit s.events (event_size s.regs)

-- an event can be written to a slot: it is in the area, if it is anywhere
pub record EventFits (a : Area) (words : ℕ) (slot : Option ℕ) (f : Frame) : Type 0 where
  pub room : Roomy a words
  pub within : (p : ℕ) → slot ≡ Some p → p < a.count
  pub frame : InFields f
