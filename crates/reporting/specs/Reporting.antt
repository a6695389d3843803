-- Call 11, report sent.
use Rattle.std.specs.Prelude.{ℕ, Bool, false, not, ◌&&◌, [], ◌∷◌, eqb}
use Rattle.words.specs.Choice.{pick}
use Rattle.words.specs.Best.{Best, nobody, somebody}
use Rattle.words.specs.Bits.{with_bit, without_bit}
use Rattle.ring.specs.Rings.{released}
use Rattle.ring.specs.declared.Ring.{Ring}
use Rattle.frame.specs.declared.Frame.{Frame}
use Rattle.registers.specs.Fields.{shared, event_size, event_mark}
use Rattle.registers.specs.declared.Registers.{Registers}
use Rattle.element.specs.Elements.{event_element}
use Rattle.places.specs.Slots.{slot_memory}
use Rattle.areas.specs.Areas.{event_area}
use Rattle.shape.specs.Calls.{leaves, call}
use Rattle.shape.specs.Refusals.{Refusals}
use Rattle.engine.specs.Buffers.{no_tx_buffer, in_shared_fifo}
use Rattle.engine.specs.Calls.{World, world, Outcome, ◌when◌, is_unfit}
use Rattle.engine.specs.Flags.{raised, raised_if}
use Rattle.engine.specs.Keeping.{keep_rule}
use Rattle.engine.specs.States.{with_events, with_tx}
use Rattle.engine.specs.declared.keeping.Keeper.{Keeper}
use Rattle.engine.specs.declared.state.State.{State}
use Rattle.engine.specs.declared.state.Record.{Record}
use Rattle.choosing.specs.Buffers.{header_of}
use Rattle.choosing.specs.Choosing.{choice, sent_frame}

-- the buffer is the present choice; 28 where it is not
abbrev pub is_chosen : Best → ℕ → Bool
is_chosen nobody buffer = false
is_chosen (somebody b) buffer = eqb b buffer

-- what is against the call
unfoldable pub report_refusals : World → ℕ → Refusals
report_refusals w buffer =
    20 when is_unfit w
    ∷ 23 when no_tx_buffer w.state buffer
    ∷ 28 when not (is_chosen (choice w.state w.memory) buffer)
    ∷ []

-- ---- the send

-- the shared FIFO's ring: its head moves where the buffer is in it
abbrev pub shared_sent : State → ℕ → Ring
shared_sent s buffer = pick (in_shared_fifo s buffer) (released s.shared (shared s.regs) 1) s.shared

-- the buffer is sent, and no longer pending: with any ring of the shared FIFO, and with that one
abbrev pub sent_with : State → Ring → ℕ → State
sent_with s next buffer = with_tx s next (without_bit 32 s.pending buffer) (with_bit s.sent buffer) s.cancelled

abbrev pub sent_state : State → ℕ → State
sent_state s buffer = sent_with s (shared_sent s buffer) buffer

-- sent 9; 11 where this send emptied the shared FIFO
abbrev pub sent_record : State → Record → ℕ → Record
sent_record s r buffer = raised_if (raised r 9) (in_shared_fifo s buffer && eqb (shared_sent s buffer).fill 0) 11

abbrev pub after_send : World → ℕ → World
after_send w buffer =
    world (sent_state w.state buffer) (sent_record w.state w.recorded buffer) w.memory

-- ---- its event

-- the event list's flags are 12 to 15; it blocks when full
abbrev pub event_keeper : Registers → Keeper
event_keeper g = record { size = event_size g; mark = event_mark g; overwrites = false; first = 12 }

-- an event goes into the list, or is lost
abbrev pub event_kept : World → ℕ → Frame → ℕ → World
event_kept w marker f time =
    let s = w.state in
    let k = keep_rule (event_keeper s.regs) s.events w.recorded in
    world (with_events s k.ring) k.recorded
    (slot_memory w.memory (event_area s.regs) (event_element marker f time) k.slot)

-- one is due where the sent element wants it: it has the frame as sent
abbrev pub event_due : World → ℕ → Bool → ℕ → World
event_due w buffer passive time =
    let h = header_of w.state w.memory buffer in
    pick h.wish (event_kept w h.marker (sent_frame w.state w.memory passive buffer) time) w

-- ---- the call

unfoldable pub reports : World → ℕ → Bool → ℕ → World
reports w buffer passive time = event_due (after_send w buffer) buffer passive time

-- call 11
abbrev pub report_sent : World → ℕ → Bool → ℕ → Outcome (Unit {0})
report_sent w buffer passive time = call w [] (report_refusals w buffer) (leaves (reports w buffer passive time))
