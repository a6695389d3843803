-- Call 2, receive.
use Rattle.std.specs.Prelude.{ℕ, Option, Some, None, Bool, not, ◌&&◌, List, [], ◌∷◌, length}
use Rattle.words.specs.Bits.{with_bit}
use Rattle.words.specs.Runs.{splice}
use Rattle.shape.specs.Calls.{tells, call}
use Rattle.shape.specs.Refusals.{Refusals}
use Rattle.places.specs.Areas.{place_in}
use Rattle.places.specs.Slots.{slot_memory}
use Rattle.frame.specs.Malformed.{malformed}
use Rattle.frame.specs.declared.Frame.{Frame}
use Rattle.element.specs.Elements.{rx_element}
use Rattle.element.specs.Fitting.{index_of}
use Rattle.element.specs.declared.Arrival.{Arrival}
use Rattle.filter.specs.Destination.{Goes, to_fifo, to_buffer, discarded, reason, destination}
use Rattle.areas.specs.Areas.{fifo_area, buffer_area, data_words}
use Rattle.engine.specs.Calls.{World, world, with_recorded, Outcome, Effect, ◌when◌, is_unfit}
use Rattle.engine.specs.Flags.{raised}
use Rattle.engine.specs.Keeping.{keep_rule}
use Rattle.engine.specs.States.{fifo_ring, with_fifo, with_new_data}
use Rattle.receiving.specs.Fifos.{keeper_of}
use Rattle.receiving.specs.Priority.{slot_noted, drop_noted}
use Rattle.receiving.specs.declared.receive.Received.{Received}
use Rattle.receiving.specs.declared.receive.Received.TheVariants.{Stored, StoredBuffer, Lost, Discarded}

-- ---- what it tells

-- what became of a frame, with the filter element that matched it, if one did
pub data Fate : Type 0 where
  -- in a FIFO, at a place
  stored : ℕ → ℕ → Option ℕ → Fate
  -- in an Rx buffer, by the element of this index
  stored_buffer : ℕ → ℕ → Fate
  -- to a FIFO
  lost_to : ℕ → Option ℕ → Fate
  -- the reason's number
  dropped : ℕ → Option ℕ → Fate

-- what the code answers
abbrev pub fate_of : Received → Fate
fate_of (Stored fifo place m) = stored fifo place m
fate_of (StoredBuffer buffer i) = stored_buffer buffer i
fate_of (Lost fifo m) = lost_to fifo m
fate_of (Discarded why m) = dropped (reason why) m

-- ---- what is against it

unfoldable pub receive_refusals : World → Frame → ℕ → Refusals
receive_refusals w f bytes =
    20 when is_unfit w ∷ 21 when malformed f bytes ∷ 22 when (f.fdf && not w.state.regs.fdon) ∷ []

-- ---- what it does, by where the frame goes

abbrev pub arrival : Frame → ℕ → Option ℕ → Arrival
arrival f time m = record { frame = f; time = time; matched = m }

-- what a FIFO's slot tells
abbrev pub slot_says : ℕ → Option ℕ → Option ℕ → Fate
slot_says fifo m (Some p) = stored fifo p m
slot_says fifo m None = lost_to fifo m

-- 6: to FIFO 0 or 1, with priority or without
unfoldable pub into_fifo : World → ℕ → Bool → Arrival → List ℕ → Effect Fate
into_fifo w fifo priority a d =
    let s = w.state in
    let k = keep_rule (keeper_of s.regs fifo) (fifo_ring s fifo) w.recorded in
    let area = fifo_area s.regs fifo in
    tells (slot_says fifo a.matched k.slot)
    (world
    (with_fifo s fifo k.ring)
    (slot_noted k.recorded priority a fifo k.slot)
    (slot_memory w.memory area (rx_element a d (data_words area)) k.slot))

-- 5: storing in an Rx buffer sets its new-data bit, and flag 19
unfoldable pub into_buffer : World → ℕ → Arrival → List ℕ → Effect Fate
into_buffer w buffer a d =
    let s = w.state in
    let area = buffer_area s.regs in
    tells (stored_buffer buffer (index_of a.matched))
    (world
    (with_new_data s (with_bit s.newdata buffer))
    (raised w.recorded 19)
    (splice w.memory (place_in area buffer) (rx_element a d (data_words area))))

-- discarded: nothing changes, but for the record where the match was for priority only
unfoldable pub into_nothing : World → ℕ → Arrival → Effect Fate
into_nothing w why a = tells (dropped why a.matched) (with_recorded w (drop_noted w.recorded a why))

abbrev pub goes_to : World → Frame → List ℕ → ℕ → Goes → Effect Fate
goes_to w f d time (to_fifo fifo priority m) = into_fifo w fifo priority (arrival f time m) d
goes_to w f d time (to_buffer buffer i) = into_buffer w buffer (arrival f time (Some i)) d
goes_to w f d time (discarded why m) = into_nothing w why (arrival f time m)

abbrev pub receives : World → Frame → List ℕ → ℕ → Effect Fate
receives w f d time = goes_to w f d time (destination w.state.regs w.memory f w.state.newdata)

-- call 2
abbrev pub receive : World → Frame → List ℕ → ℕ → Outcome Fate
receive w f d time = call w [] (receive_refusals w f (length d)) (receives w f d time)
