-- An acknowledge leaves the state fit, and releases all held up to its place and no other.
-- Assumes nothing.
use Prim.Native.Nat.{ℕ}
use mathlib.Core.Path.{◌≡◌}
use mathlib.Core.Bool.{false}
use mathlib.Core.List.{[]}
use native.Mathlib.Omega.{arith}
use lib.ListN.{length}
use Rattle.words.specs.Rules.{allowed, first}
use Rattle.ring.proofs.Fitness.{fit_released_through}
use Rattle.shape.specs.Calls.{done, leaves}
use Rattle.shape.proofs.Calls.{call_cases}
use Rattle.registers.specs.Fields.{event_size}
use Rattle.engine.specs.Calls.{World, with_state, Outcome, is_unfit}
use Rattle.engine.specs.Holding.{YoungerStay}
use Rattle.engine.proofs.Holdings.{younger_stay}
use Rattle.engine.proofs.Parts.{with_events_sound}
use Rattle.engine.proofs.Sounds.{sound_of, flags_of, fit_of}
use Rattle.events.specs.Events.{event_refusals, released_events}
use Rattle.events.specs.Promises.{AcknowledgeReleases}
use Rattle.events.proofs.Judgements.{event_open}

pub acknowledge_event_fit : (w : World) (place : ℕ) → first (event_refusals w place) ≡ allowed
    → is_unfit (with_state w (released_events w.state place)) ≡ false
acknowledge_event_fit w place e =
    let o = event_open w place e in
    let words = length w.memory in
    fit_of _ w.recorded words
    (with_events_sound w.state words _ (sound_of w.state w.recorded words o.fit)
    (fit_released_through w.state.events (event_size w.state.regs) o.holds.ring place o.holds.holds))
    (flags_of w.state w.recorded words o.fit)

pub acknowledge_releases : AcknowledgeReleases
acknowledge_releases w place =
    let q = w.state.events in
    let n = event_size w.state.regs in
    call_cases w [] (event_refusals w place) (leaves (with_state w (released_events w.state place)))
    (λ (o : Outcome (Unit {0})). o.says ≡ done → YoungerStay q n place o.world.state.events)
    (λ k e. let z : ◌≡◌ {A = ℕ} 0 1 = cc in absurd (omega arith))
    (λ e said. younger_stay q n place (event_open w place e).holds)
