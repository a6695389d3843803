-- What is promised of a receive: statements only.
use Rattle.std.specs.Prelude.{ℕ, ◌≤◌, ◌≡◌, List, Some}
use Rattle.words.specs.Ranges.{Range, front, Inside, OnlyIn}
use Rattle.shape.specs.Calls.{Says, refuses, answers}
use Rattle.places.specs.Areas.{place_range, words_at}
use Rattle.frame.specs.declared.Frame.{Frame}
use Rattle.registers.specs.declared.Registers.{Registers}
use Rattle.layout.specs.Legal.{Has}
use Rattle.element.specs.Elements.{rx_element}
use Rattle.areas.specs.Areas.{fifo_area, buffer_area, data_words}
use Rattle.areas.specs.Own.{receiving_sections, SameSections}
use Rattle.engine.specs.Calls.{World, with_memory, Alike}
use Rattle.receiving.specs.Receive.{Fate, stored, stored_buffer, lost_to, dropped, arrival, receive}

-- ---- it writes one element at most

-- the words of the element that an answer names: none where the frame is lost or discarded
abbrev pub stored_in : Registers → Fate → Range
stored_in g (stored fifo place m) = place_range (fifo_area g fifo) place
stored_in g (stored_buffer buffer i) = place_range (buffer_area g) buffer
stored_in g (lost_to fifo m) = front 0
stored_in g (dropped why m) = front 0

-- a refusal names none
abbrev pub named_by : Registers → Says Fate → Range
named_by g (answers fate) = stored_in g fate
named_by g (refuses n) = front 0

pub record OneElement (g : Registers) (named : Range) (before last : List ℕ) : Type 0 where
  -- every other word is as it was
  pub only : OnlyIn named before last
  -- the element's words are of FIFO 0, FIFO 1 or the Rx buffers, sections 2 to 4
  pub own : (k : ℕ) → Inside named k → (i : ℕ) × (2 ≤ i) × (i ≤ 4) × Has g i k

abbrev pub ReceiveWritesOneElement : Type 0
ReceiveWritesOneElement =
    (w : World) (f : Frame) (d : List ℕ) (time : ℕ) → let o = receive w f d time in
    OneElement w.state.regs (named_by w.state.regs o.says) w.memory o.world.memory

-- ---- what is stored stands in the memory

-- the element that the answer names has the words of the frame with its match, its timestamp and its data
abbrev pub HoldsFrame : Registers → Frame → List ℕ → ℕ → List ℕ → Says Fate → Type 0
HoldsFrame g f d time mem (answers (stored fifo place m)) =
    let a = fifo_area g fifo in words_at a place mem ≡ rx_element (arrival f time m) d (data_words a)
HoldsFrame g f d time mem (answers (stored_buffer buffer i)) =
    let a = buffer_area g in words_at a buffer mem ≡ rx_element (arrival f time (Some i)) d (data_words a)
HoldsFrame g f d time mem (answers (lost_to fifo m)) = Unit {0}
HoldsFrame g f d time mem (answers (dropped why m)) = Unit {0}
HoldsFrame g f d time mem (refuses n) = Unit {0}

abbrev pub StoredIsThere : Type 0
StoredIsThere =
    (w : World) (f : Frame) (d : List ℕ) (time : ℕ) → let o = receive w f d time in
    HoldsFrame w.state.regs f d time o.world.memory o.says

-- ---- it looks at sections 0 to 4 alone: the filter lists, the FIFOs and the Rx buffers

abbrev pub ReceiveReadsItsSections : Type 0
ReceiveReadsItsSections =
    (w : World) (other : List ℕ) (f : Frame) (d : List ℕ) (time : ℕ)
    → SameSections w.state.regs receiving_sections w.memory other
    → Alike receiving_sections (receive w f d time) (receive (with_memory w other) f d time)
