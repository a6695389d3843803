-- Calls 14, clear flags, and 15, report status.
use Rattle.std.specs.Prelude.{ℕ, [], ◌∷◌}
use Rattle.std.specs.Int.Count.{ones}
use Rattle.ring.specs.Rings.{put_place}
use Rattle.ring.specs.declared.Ring.{Ring}
use Rattle.shape.specs.Calls.{leaves, tells, call}
use Rattle.shape.specs.Refusals.{Refusals}
use Rattle.registers.specs.Fields.{fifo_size, event_size}
use Rattle.engine.specs.Calls.{World, with_recorded, Outcome, ◌when◌, is_unfit}
use Rattle.engine.specs.Fitness.{shared_ring_size}
use Rattle.engine.specs.Flags.{cleared}
use Rattle.engine.specs.declared.state.State.{State}
use Rattle.overview.specs.declared.Overview.{Overview}
use Rattle.overview.specs.declared.RingStatus.{RingStatus}

-- what is against both
unfoldable pub overview_refusals : World → Refusals
overview_refusals w = 20 when is_unfit w ∷ []

-- call 14: the flags of a mask are cleared
abbrev pub clear_flags : World → ℕ → Outcome (Unit {0})
clear_flags w mask = call w [] (overview_refusals w) (leaves (with_recorded w (cleared w.recorded mask)))

-- fill, oldest and put place of a ring
abbrev pub ring_status : Ring → ℕ → RingStatus
ring_status r size = record { fill = r.fill; oldest = r.oldest; put = put_place r size }

-- the four rings, and the number of pending buffers
unfoldable pub status_of : State → Overview
status_of s = record {
  fifo0 = ring_status s.fifo0 (fifo_size s.regs 0);
  fifo1 = ring_status s.fifo1 (fifo_size s.regs 1);
  events = ring_status s.events (event_size s.regs);
  shared = ring_status s.shared (shared_ring_size s.regs);
  pending = ones s.pending;
}

-- call 15
abbrev pub report_status : World → Outcome Overview
report_status w = call w [] (overview_refusals w) (tells (status_of w.state) w)
