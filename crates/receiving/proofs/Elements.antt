-- The element that a receive stores: its words stand where the answer says, and all others are as they were.
-- Assumes nothing.
use Rattle.std.proofs.Common.{Option, Some, None}
use Prim.Native.Nat.{ℕ, zero, suc, ◌+◌, ◌≤◌, ◌<◌}
use mathlib.Core.Path.{◌≡◌, refl}
use mathlib.Core.List.{List}
use native.Mathlib.Omega.{arith}
use lib.ListN.{length}
use Rattle.words.specs.Ranges.{front, Inside, OnlyIn}
use Rattle.words.specs.Rules.{allowed, first}
use Rattle.words.specs.Runs.{splice}
use Rattle.words.proofs.Ranges.{only_none}
use Rattle.shape.specs.Calls.{answers}
use Rattle.places.specs.Areas.{place_in, place_range, words_at, Roomy}
use Rattle.places.specs.Slots.{slot_memory}
use Rattle.places.specs.declared.Area.{Area}
use Rattle.places.proofs.Stores.{element_inside, store_there, store_own}
use Rattle.frame.specs.declared.Frame.{Frame}
use Rattle.registers.specs.Fields.{fifo_size}
use Rattle.registers.specs.declared.Registers.{Registers}
use Rattle.layout.specs.Legal.{Has}
use Rattle.element.specs.Elements.{rx_element}
use Rattle.element.specs.Promises.{Holds}
use Rattle.element.specs.Word0.{word0}
use Rattle.element.specs.Word1.{rx_word1}
use Rattle.element.specs.declared.Arrival.{Arrival}
use Rattle.element.proofs.Storing.{element_length}
use Rattle.areas.specs.Areas.{fifo_area, buffer_area, data_words}
use Rattle.areas.specs.Own.{own}
use Rattle.areas.proofs.Rooms.{fifo_roomy, buffer_roomy}
use Rattle.areas.proofs.Sections.{areas_are_sections}
use Rattle.engine.specs.Calls.{World, Outcome, Effect}
use Rattle.engine.specs.Keeping.{keep_rule}
use Rattle.engine.specs.States.{fifo_ring}
use Rattle.receiving.specs.Fifos.{keeper_of}
use Rattle.receiving.specs.Promises.{stored_in, named_by, OneElement, ReceiveWritesOneElement}
use Rattle.receiving.specs.Promises.{HoldsFrame, StoredIsThere}
use Rattle.receiving.specs.Receive.{Fate, arrival, slot_says, receive_refusals}
use Rattle.receiving.specs.Receive.{into_fifo, into_buffer, into_nothing, receives}
use Rattle.receiving.proofs.Judgements.{ReceiveOpen, receive_open}
use Rattle.receiving.proofs.Outcomes.{receives_cases, receive_cases}
use Rattle.receiving.proofs.Stores.{slot_within}

-- ---- at a place of an area

-- an arrival's element fills its place
pub arrival_length : (a : Arrival) (d : List ℕ) (area : Area) → 2 ≤ area.each
    → length (rx_element a d (data_words area)) ≡ area.each
arrival_length a d area h = omega (arith, element_length (word0 a.frame) (rx_word1 a) d (data_words area))

-- what stands at a place is what an element's read goes by
pub held_there : (mem : List ℕ) (a : Arrival) (d : List ℕ) (area : Area) (place : ℕ) → 2 ≤ area.each
    → words_at area place mem ≡ rx_element a d (data_words area)
    → Holds mem (place_in area place) (rx_element a d (data_words area))
held_there mem a d area place h e = rw (arrival_length a d area h) e

module _ (mem : List ℕ) (area : Area) (room : Roomy area (length mem)) (place : ℕ) (within : place < area.count)
    (a : Arrival) (d : List ℕ) where
  abbrev after : List ℕ
  after = splice mem (place_in area place) (rx_element a d (data_words area))

  pub arrival_there : words_at area place after ≡ rx_element a d (data_words area)
  arrival_there = store_there area mem room.room place within _ (arrival_length a d area room.header)

  pub arrival_only : OnlyIn (place_range area place) mem after
  arrival_only = store_own area mem room.room place within _ (arrival_length a d area room.header)

-- its words are those of its section
module _ (g : Registers) where
  place_has : (i place k : ℕ) → i < 5 → place < (own g i).count → Inside (place_range (own g i) place) k → Has g (2 + i) k
  place_has i place k l h x =
      (areas_are_sections g i k l).0
      (record { from = omega (arith, x.from); below = omega (arith, x.below, element_inside (own g i) place h) })

  fifo_has : (fifo place k : ℕ) → fifo ≤ 1 → place < fifo_size g fifo → Inside (place_range (fifo_area g fifo) place) k
      → Has g (2 + fifo) k
  fifo_has zero place k l h x = place_has 0 place k (omega arith) h x
  fifo_has (suc zero) place k l h x = place_has 1 place k (omega arith) h x
  fifo_has (suc (suc n)) place k l h x = absurd (omega arith)

  buffer_has : (buffer k : ℕ) → buffer < g.buffers → Inside (place_range (buffer_area g) buffer) k → Has g 4 k
  buffer_has buffer k h x = place_has 2 buffer k (omega arith) h x

-- nothing is named, and nothing changes
none_written : (g : Registers) (mem : List ℕ) → OneElement g (front 0) mem mem
none_written g mem = record { only = only_none (front 0) mem; own = λ k x. absurd (omega (arith, x.below)) }

-- ---- by a receive

module _ (w : World) (f : Frame) (d : List ℕ) (time : ℕ) (passed : ReceiveOpen w f (length d)) where
  abbrev g : Registers
  g = w.state.regs

  within : (k : ℕ) → k ≤ 1 → (p : ℕ)
      → (keep_rule (keeper_of g k) (fifo_ring w.state k) w.recorded).slot ≡ Some p → p < fifo_size g k
  within k l = slot_within w.state (length w.memory) k w.recorded passed.sound l

  fifo_room : (k : ℕ) → Roomy (fifo_area g k) (length w.memory)
  fifo_room k = fifo_roomy g (length w.memory) passed.sound.legal k

  buffer_room : Roomy (buffer_area g) (length w.memory)
  buffer_room = buffer_roomy g (length w.memory) passed.sound.legal

  -- what is to be shown of the effect
  abbrev There : Effect Fate → Type 0
  There e = HoldsFrame g f d time e.world.memory (answers e.answer)

  abbrev One : Effect Fate → Type 0
  One e = OneElement g (stored_in g e.answer) w.memory e.world.memory

  -- in a slot of FIFO 0 or 1
  module _ (k : ℕ) (m : Option ℕ) where
    abbrev after_slot : Option ℕ → List ℕ
    after_slot x = slot_memory w.memory (fifo_area g k) (rx_element (arrival f time m) d (data_words (fifo_area g k))) x

    slot_there : (x : Option ℕ) → ((p : ℕ) → x ≡ Some p → p < fifo_size g k)
        → HoldsFrame g f d time (after_slot x) (answers (slot_says k m x))
    slot_there (Some p) h = arrival_there w.memory (fifo_area g k) (fifo_room k) p (h p refl) (arrival f time m) d
    slot_there None h = tt

    slot_one : k ≤ 1 → (x : Option ℕ) → ((p : ℕ) → x ≡ Some p → p < fifo_size g k)
        → OneElement g (stored_in g (slot_says k m x)) w.memory (after_slot x)
    slot_one l (Some p) h = record {
      only = arrival_only w.memory (fifo_area g k) (fifo_room k) p (h p refl) (arrival f time m) d;
      own = λ n x. (2 + k, omega arith, omega arith, fifo_has g k p n l (h p refl) x);
    }
    slot_one l None h = none_written g w.memory

  effect_there : There (receives w f d time)
  unfolding into_fifo into_buffer into_nothing
  effect_there =
      receives_cases w f d time passed There
      (λ k priority m l x. slot_there k m _ (within k l))
      (λ b i l z x. arrival_there w.memory (buffer_area g) buffer_room b l _ d)
      (λ why m x. tt)

  effect_one : One (receives w f d time)
  unfolding into_fifo into_buffer into_nothing
  effect_one =
      receives_cases w f d time passed One
      (λ k priority m l x. slot_one k m l _ (within k l))
      (λ b i l z x. record {
        only = arrival_only w.memory (buffer_area g) buffer_room b l _ d;
        own = λ n y. (4, omega arith, omega arith, buffer_has g b n l y);
      })
      (λ why m x. none_written g w.memory)

pub stored_is_there : StoredIsThere
stored_is_there w f d time =
    receive_cases w f d time (λ (o : Outcome Fate). HoldsFrame w.state.regs f d time o.world.memory o.says)
    (λ n. tt) (effect_there w f d time)

pub receive_writes_one_element : ReceiveWritesOneElement
receive_writes_one_element w f d time =
    receive_cases w f d time
    (λ (o : Outcome Fate). let g = w.state.regs in OneElement g (named_by g o.says) w.memory o.world.memory)
    (λ n. none_written w.state.regs w.memory) (effect_one w f d time)

-- the words that are written are those of the element that the answer names
pub receive_memory : (w : World) (f : Frame) (d : List ℕ) (time : ℕ) → first (receive_refusals w f (length d)) ≡ allowed
    → let e = receives w f d time in OnlyIn (stored_in w.state.regs e.answer) w.memory e.world.memory
receive_memory w f d time e = (effect_one w f d time (receive_open w f (length d) e)).only
