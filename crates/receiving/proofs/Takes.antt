-- What the steps of call 2 ask, given by a fit state and a frame that is well-formed.
-- Assumes nothing.
use Rattle.std.proofs.Common.{Option, Some, None}
use Prim.Native.Nat.{ℕ, ◌<◌}
use mathlib.Core.Path.{◌≡◌, refl, sym, ap, ◌∙◌, subst}
use mathlib.Core.Bool.{Bool}
use mathlib.Core.List.{List}
use native.Mathlib.Omega.{arith}
use lib.ListN.{length}
use Rattle.places.specs.Areas.{Roomy}
use Rattle.places.specs.declared.Area.{Area}
use Rattle.frame.specs.declared.Frame.{Frame}
use Rattle.registers.specs.Fields.{fifo_size}
use Rattle.element.specs.Fitting.{index_of}
use Rattle.element.specs.declared.Arrival.{Arrival}
use Rattle.filter.specs.Destination.{Goes, to_fifo, to_buffer, discarded, destination}
use Rattle.filter.specs.Promises.{Within}
use Rattle.filter.specs.Needs.{ListsFit}
use Rattle.filter.proofs.Bounds.{destination_is_within}
use Rattle.areas.specs.Areas.{fifo_area, buffer_area}
use Rattle.areas.proofs.Rooms.{fifo_roomy, buffer_roomy}
use Rattle.engine.specs.Keeping.{keep_rule}
use Rattle.engine.specs.States.{fifo_ring}
use Rattle.engine.specs.declared.keeping.Kept.{Kept}
use Rattle.engine.specs.declared.state.State.{State}
use Rattle.engine.specs.declared.state.Record.{Record}
use Rattle.engine.proofs.Sounds.{ring_fits}
use Rattle.receiving.specs.Fifos.{keeper_of}
use Rattle.receiving.specs.Needs.{CanStore, CanPut, RingFits, SlotNotable, Ready, ReadyFifo, ReadyBuffer}
use Rattle.receiving.specs.Priority.{slot_place}
use Rattle.receiving.proofs.Lists.{legal_lists, index_small}
use Rattle.receiving.proofs.Stores.{slot_within}

-- ---- to FIFO 0 or 1

module _ (s : State) (fifo : ℕ) (a : Arrival) (words : ℕ) (h : ReadyFifo s fifo a words) where
  pub ring_ready : RingFits s fifo
  ring_ready = record { number = h.number; ring = ring_fits s words fifo h.sound }

  room : Roomy (fifo_area s.regs fifo) words
  room = fifo_roomy s.regs words h.sound.legal fifo

  -- what was kept
  module _ (r : Record) (k : Kept) (e : k ≡ keep_rule (keeper_of s.regs fifo) (fifo_ring s fifo) r) where
    within : (p : ℕ) → k.slot ≡ Some p → p < fifo_size s.regs fifo
    within p z = slot_within s words fifo r h.sound h.number p (sym (ap (λ (x : Kept). x.slot) e) ∙ z)

    pub put_ready : (area : Area) → area ≡ fifo_area s.regs fifo → CanPut area k.slot a words
    put_ready area u =
        subst (λ (x : Area). CanPut x k.slot a words) (sym u)
        (record { room = room; within = within; fields = h.fields })

    pub note_ready : SlotNotable a fifo k.slot
    note_ready = record { index = h.fields.index; number = h.number; element = small k.slot within }
      where
        small : (x : Option ℕ) → ((p : ℕ) → x ≡ Some p → p < fifo_size s.regs fifo) → slot_place x < 64
        small (Some p) g = omega (arith, g p refl, room.few)
        small None g = omega arith

-- ---- to an Rx buffer

pub buffer_ready : (s : State) (buffer : ℕ) (a : Arrival) (words : ℕ) → ReadyBuffer s buffer a words
    → (area : Area) → area ≡ buffer_area s.regs → CanStore area buffer a words
buffer_ready s buffer a words h area e =
    subst (λ (x : Area). CanStore x buffer a words) (sym e)
    (record {
      element = record { room = buffer_roomy s.regs words h.sound.legal; within = h.number };
      fields = h.fields;
    })

-- ---- by the destination

module _ (s : State) (mem : List ℕ) (f : Frame) (h : Ready s f (length mem)) where
  pub lists_ready : ListsFit s.regs (length mem)
  lists_ready = legal_lists s.regs (length mem) h.sound.legal

  -- where it goes is within bounds
  bounds : (x : Goes) → x ≡ destination s.regs mem f s.newdata → Within s.regs s.newdata x
  bounds x e =
      subst (Within s.regs s.newdata) (sym e) (destination_is_within s.regs mem f s.newdata lists_ready.few)

  pub fifo_ready : (fifo : ℕ) (priority : Bool) (m : Option ℕ)
      → to_fifo fifo priority m ≡ destination s.regs mem f s.newdata
      → (a : Arrival) → a.frame ≡ f → a.matched ≡ m → ReadyFifo s fifo a (length mem)
  fifo_ready fifo priority m e a x y =
      let b = bounds (to_fifo fifo priority m) e in
      record {
        sound = h.sound;
        number = b.0;
        fields = record { index = rw y (index_small m b.1); frame = rw x h.fields };
      }

  pub to_buffer_ready : (buffer i : ℕ) → to_buffer buffer i ≡ destination s.regs mem f s.newdata
      → (a : Arrival) → a.frame ≡ f → a.matched ≡ Some i → ReadyBuffer s buffer a (length mem)
  to_buffer_ready buffer i e a x y =
      let b = bounds (to_buffer buffer i) e in
      record { sound = h.sound; number = b.0; fields = record { index = rw y b.2; frame = rw x h.fields } }

  pub drop_ready : (why : ℕ) (m : Option ℕ) → discarded why m ≡ destination s.regs mem f s.newdata → index_of m < 128
  drop_ready why m e = index_small m (bounds (discarded why m) e).1
