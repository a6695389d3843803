-- What is known where nothing is against a call.
-- Assumes nothing.
use Prim.Native.Nat.{ℕ}
use mathlib.Core.Path.{◌≡◌, sym}
use mathlib.Core.Bool.{false}
use mathlib.Core.List.{List}
use borrow.Author.Tests.{leb-false, not-false}
use lib.ListN.{length}
use Rattle.words.specs.Rules.{allowed, first}
use Rattle.words.proofs.Rulings.{all_three}
use Rattle.ring.specs.Rings.{held}
use Rattle.places.specs.Areas.{HasPlace}
use Rattle.registers.specs.Fields.{event_size}
use Rattle.layout.specs.Verdict.{plain}
use Rattle.areas.specs.Areas.{event_area}
use Rattle.areas.proofs.Rooms.{event_roomy}
use Rattle.engine.specs.Calls.{World, world, is_unfit}
use Rattle.engine.specs.Needs.{HoldsPlace}
use Rattle.engine.specs.declared.state.State.{State}
use Rattle.engine.specs.declared.state.Record.{Record}
use Rattle.engine.proofs.Sounds.{sound_of}
use Rattle.events.specs.Events.{no_event, event_free, event_refusals}

pub record EventOpen (w : World) (place : ℕ) : Type 0 where
  pub fit : is_unfit w ≡ false
  pub holds : HoldsPlace w.state.events (event_size w.state.regs) place
  pub element : HasPlace (event_area w.state.regs) place (length w.memory)

pub event_open : (w : World) (place : ℕ) → first (event_refusals w place) ≡ allowed → EventOpen w place
unfolding event_refusals
event_open w place e =
    let p =
    all_three (is_unfit w) (no_event w.state place) (event_free w.state place) (plain 20) (plain 23) (plain 29) e in
    let n = event_size w.state.regs in
    let words = length w.memory in
    let sound = sound_of w.state w.recorded words p.0 in
    record {
      fit = p.0;
      holds = record { ring = sound.events; holds = not-false (held w.state.events n place) p.2 };
      element = record { room = event_roomy w.state.regs words sound.legal; within = leb-false n place p.1 };
    }

-- the same, as the code finds it

module _ (s : State) (r : Record) (mem : List ℕ) (place : ℕ)
    (e : allowed ≡ first (event_refusals (world s r mem) place)) where
  pub holds_event : HoldsPlace s.events (event_size s.regs) place
  holds_event = (event_open (world s r mem) place (sym e)).holds

  pub has_event : HasPlace (event_area s.regs) place (length mem)
  has_event = (event_open (world s r mem) place (sym e)).element
