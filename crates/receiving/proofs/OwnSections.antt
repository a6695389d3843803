-- A receive looks at the words of sections 0 to 4 alone, and changes alike what is alike in them.
-- Assumes nothing.
use Rattle.std.proofs.Common.{Option, Some, None}
use Prim.Native.Nat.{ℕ, ◌≤◌, ◌<◌}
use mathlib.Core.Path.{◌≡◌, refl, ap, subst}
use mathlib.Core.Bool.{Bool, true, false, not, ◌&&◌}
use mathlib.Core.List.{List, [], ◌∷◌}
use native.Mathlib.Omega.{arith}
use lib.ListN.{length, get_or}
use Rattle.words.specs.Ranges.{range_end, SameIn}
use Rattle.words.specs.Rules.{first}
use Rattle.words.specs.Runs.{splice}
use Rattle.shape.specs.Calls.{effected}
use Rattle.shape.specs.Refusals.{Refusals}
use Rattle.places.specs.Areas.{place_in, Roomy}
use Rattle.places.specs.Slots.{slot_memory}
use Rattle.places.specs.declared.Area.{Area}
use Rattle.places.proofs.Stores.{element_inside}
use Rattle.frame.specs.Malformed.{malformed}
use Rattle.frame.specs.declared.Frame.{Frame}
use Rattle.registers.specs.declared.Registers.{Registers}
use Rattle.layout.specs.Legal.{Has}
use Rattle.element.specs.Elements.{rx_element}
use Rattle.element.specs.declared.Arrival.{Arrival}
use Rattle.filter.specs.Destination.{Goes, to_fifo, to_buffer, discarded, destination}
use Rattle.filter.specs.Promises.{Within}
use Rattle.filter.specs.Search.{list_of, list_range}
use Rattle.filter.proofs.OwnSection.{destination_reads_its_list}
use Rattle.areas.specs.Areas.{fifo_area, buffer_area, data_words}
use Rattle.areas.specs.Own.{receiving_sections, SameSections}
use Rattle.areas.proofs.Rooms.{fifo_roomy, buffer_roomy}
use Rattle.engine.specs.Calls.{World, with_memory, Alike, ◌when◌}
use Rattle.engine.specs.Fitness.{unfit}
use Rattle.engine.specs.Keeping.{keep_rule}
use Rattle.engine.specs.States.{fifo_ring, with_fifo}
use Rattle.engine.proofs.Alike.{store_alike, call_alike}
use Rattle.receiving.specs.Fifos.{keeper_of}
use Rattle.receiving.specs.Promises.{ReceiveReadsItsSections}
use Rattle.receiving.specs.Receive.{receive_refusals, into_fifo, into_buffer, into_nothing, goes_to, receives}
use Rattle.receiving.proofs.Elements.{arrival_length}
use Rattle.receiving.proofs.Judgements.{ReceiveOpen, receive_open}
use Rattle.receiving.proofs.Outcomes.{goes_within}
use Rattle.receiving.proofs.Stores.{slot_within}

-- the filter list of each kind is one of these sections
pub lists_same : (g : Registers) (mem other : List ℕ) → SameSections g receiving_sections mem other → (xtd : Bool)
    → SameIn (list_range (list_of g xtd)) mem other
lists_same g mem other same xtd = record { size = same.size; within = go xtd }
  where
    word : (i k : ℕ) → i < 5 → Has g i k → get_or other k 0 ≡ get_or mem k 0
    word i k l h = same.words i k (record { from = omega arith; below = omega arith }) h

    go : (x : Bool) → let r = list_range (list_of g x) in
        (k : ℕ) → r.from ≤ k → k < range_end r → get_or other k 0 ≡ get_or mem k 0
    go true k a b = word 1 k (omega arith) (record { from = a; below = omega arith })
    go false k a b = word 0 k (omega arith) (record { from = a; below = omega arith })

module _ (w : World) (other : List ℕ) (f : Frame) (d : List ℕ) (time : ℕ)
    (same : SameSections w.state.regs receiving_sections w.memory other) where
  abbrev g : Registers
  g = w.state.regs

  abbrev v : World
  v = with_memory w other

  abbrev Same : List ℕ → List ℕ → Type 0
  Same l m = SameSections g receiving_sections l m

  arrival_alike : (area : Area) (place : ℕ) (a : Arrival) → Roomy area (length w.memory) → place < area.count
      → let ws = rx_element a d (data_words area) in
      Same (splice w.memory (place_in area place) ws) (splice other (place_in area place) ws)
  arrival_alike area place a room l =
      store_alike g receiving_sections w.memory other same (place_in area place) (rx_element a d (data_words area))
      (omega (arith, arrival_length a d area room.header, element_inside area place l, room.room))

  slot_alike : (area : Area) (a : Arrival) → Roomy area (length w.memory)
      → (x : Option ℕ) → ((p : ℕ) → x ≡ Some p → p < area.count)
      → let ws = rx_element a d (data_words area) in Same (slot_memory w.memory area ws x) (slot_memory other area ws x)
  slot_alike area a room (Some p) h = arrival_alike area p a room (h p refl)
  slot_alike area a room None h = same

  module _ (passed : ReceiveOpen w f (length d)) where
    goes_alike : (x : Goes) → Within g w.state.newdata x
        → Alike receiving_sections (effected (goes_to w f d time x)) (effected (goes_to v f d time x))
    unfolding into_fifo into_buffer into_nothing with_fifo
    goes_alike (to_fifo k priority m) b = record {
      says = refl;
      state = refl;
      recorded = refl;
      memory =
          slot_alike (fifo_area g k) _ (fifo_roomy g (length w.memory) passed.sound.legal k)
          (keep_rule (keeper_of g k) (fifo_ring w.state k) w.recorded).slot
          (slot_within w.state (length w.memory) k w.recorded passed.sound b.0);
      output = refl;
    }
    goes_alike (to_buffer n i) b = record {
      says = refl;
      state = refl;
      recorded = refl;
      memory = arrival_alike (buffer_area g) n _ (buffer_roomy g (length w.memory) passed.sound.legal) b.0;
      output = refl;
    }
    goes_alike (discarded why m) b = record { says = refl; state = refl; recorded = refl; memory = same; output = refl }

    -- the frame goes where it went
    effect_alike : Alike receiving_sections (effected (receives w f d time)) (effected (receives v f d time))
    effect_alike =
        subst (λ (x : Goes). Alike receiving_sections (effected (receives w f d time)) (effected (goes_to v f d time x)))
        (destination_reads_its_list g w.memory other f w.state.newdata
        (lists_same g w.memory other same f.xtd))
        (goes_alike (destination g w.memory f w.state.newdata) (goes_within w f (length d) passed))

  rows_same : first (receive_refusals v f (length d)) ≡ first (receive_refusals w f (length d))
  unfolding receive_refusals
  rows_same =
      let rest : Refusals = 21 when malformed f (length d) ∷ 22 when (f.fdf && not g.fdon) ∷ [] in
      ap (λ (n : ℕ). first (20 when unfit w.state w.recorded n ∷ rest)) same.size

pub receive_reads_its_sections : ReceiveReadsItsSections
receive_reads_its_sections w other f d time same =
    call_alike receiving_sections w other [] same
    (receive_refusals w f (length d)) (receive_refusals (with_memory w other) f (length d))
    (receives w f d time) (receives (with_memory w other) f d time) (rows_same w other f d time same)
    (λ e. effect_alike w other f d time same (receive_open w f (length d) e))
