-- The event of a send: its slot is one of the list, and the sent element has a place.
-- Assumes nothing.
use Prim.Native.Nat.{ℕ, ◌<◌}
use mathlib.Core.Path.{◌≡◌, refl, ap, ◌∙◌}
use mathlib.Core.Bool.{Bool}
use native.Mathlib.Omega.{arith}
use Rattle.frame.specs.declared.Frame.{Frame}
use Rattle.registers.specs.Fields.{tx_count}
use Rattle.registers.specs.declared.Registers.{Registers}
use Rattle.element.specs.Fitting.{InFields}
use Rattle.element.proofs.Fitness.{sent_fits}
use Rattle.places.specs.Areas.{HasPlace}
use Rattle.places.specs.declared.Area.{Area}
use Rattle.areas.specs.Areas.{event_area, tx_area}
use Rattle.areas.proofs.Rooms.{tx_roomy, event_roomy}
use Rattle.engine.specs.Keeping.{keep_rule}
use Rattle.engine.specs.declared.keeping.Keeper.{Keeper}
use Rattle.engine.specs.declared.keeping.Kept.{Kept}
use Rattle.engine.specs.declared.state.State.{State}
use Rattle.engine.specs.declared.state.Record.{Record}
use Rattle.engine.proofs.Keeps.{kept_within}
use Rattle.choosing.specs.Choosing.{form_sent}
use Rattle.reporting.specs.Reporting.{event_keeper}
use Rattle.reporting.specs.Needs.{CanTell, EventFits}

pub event_fits : (s : State) (r : Record) (words : ℕ) (f : Frame) (k : Keeper) (t : Kept) (a : Area) → CanTell s words
    → InFields f → k ≡ event_keeper s.regs → t ≡ keep_rule k s.events r → a ≡ event_area s.regs
    → EventFits a words t.slot f
event_fits s r words f k t a h i e q u =
    let kept : t ≡ keep_rule (event_keeper s.regs) s.events r = q ∙ ap (λ (x : Keeper). keep_rule x s.events r) e in
    rw (u, kept)
    (record {
      room = event_roomy s.regs words h.legal;
      within = kept_within (event_keeper s.regs) s.events r (record { ring = h.events; flags = omega arith });
      frame = i;
    })

pub sent_place : (s : State) (words buffer : ℕ) (a : Area) → CanTell s words → buffer < tx_count s.regs
    → a ≡ tx_area s.regs → HasPlace a buffer words
sent_place s words buffer a h l e = rw e (record { room = tx_roomy s.regs words h.legal; within = l })

pub sent_in_fields : (g : Registers) (f : Frame) (passive : Bool) → InFields f → InFields (form_sent g f passive)
sent_in_fields g f passive i = sent_fits f (form_sent g f passive) g.fdon g.rateon passive refl i
