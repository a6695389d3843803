-- That a state and a memory hold exactly the book's pending requests.
use Rattle.std.specs.Prelude.{ℕ, ◌+◌, ◌^◌, ◌<◌, ◌≡◌, true, false, List}
use Rattle.words.specs.Bits.{is_set}
use Rattle.words.specs.Ranges.{OnlyIn}
use Rattle.ring.specs.Rings.{Fit, none_held, held}
use Rattle.element.specs.Elements.{tx_element}
use Rattle.places.specs.Areas.{area_range}
use Rattle.places.specs.declared.Area.{Area}
use Rattle.registers.specs.Fields.{dedicated, shared, tx_count, is_queue}
use Rattle.registers.specs.declared.Registers.{Registers}
use Rattle.areas.specs.Areas.{tx_area, data_words}
use Rattle.engine.specs.Calls.{World, is_unfit}
use Rattle.engine.specs.Fitness.{shared_ring_size}
use Rattle.engine.specs.declared.state.State.{State}
use Rattle.books.specs.Balance.{RequestsBalanced}
use Rattle.books.specs.Lists.{Each}
use Rattle.books.specs.Pending.{BuffersHold, CircleAgrees, BitsTell}
use Rattle.requests.specs.Requests.{Request, Sendable, Book}

-- a request's element, in the area of the Tx buffers
abbrev pub element_of : Registers → Request → List ℕ
element_of g q = tx_element q.header q.bytes (data_words (tx_area g))

-- all that is kept of the transmit requests
pub record TxAgrees (g : Registers) (l : Book) (s : State) (mem : List ℕ) : Type 0 where
  -- the pending bits are those of the pending requests, and each stands in its buffer word for word
  pub buffers : BuffersHold (tx_area g) (element_of g) l.pending s.pending mem
  pub sendable : Each (λ e. Sendable e.request) l.pending
  -- a shared FIFO's wait in its circle of places, and are sent in the order in which they were accepted
  pub fifo : is_queue g ≡ false → CircleAgrees (dedicated g) (shared g) l s.shared
  pub queue : is_queue g ≡ true → s.shared ≡ none_held
  -- each that was accepted is exactly once pending, sent or cancelled
  pub balanced : RequestsBalanced l
  -- the sent bit of a buffer is 1 exactly where its latest request since the start was sent, the cancelled bit exactly
  -- where it was cancelled
  pub bits : BitsTell l s.sent s.cancelled

-- ---- before and after a call

-- a fit world, and the book agrees with it
pub record InStep (l : Book) (w : World) : Type 0 where
  pub fit : is_unfit w ≡ false
  pub agrees : TxAgrees w.state.regs l w.state w.memory

-- of the state, what no call on the Tx buffers changes
pub record RestSame (s next : State) : Type 0 where
  pub regs : next.regs ≡ s.regs
  pub fifo0 : next.fifo0 ≡ s.fifo0
  pub fifo1 : next.fifo1 ≡ s.fifo1
  pub newdata : next.newdata ≡ s.newdata

-- what a call on the Tx buffers leaves: the next book agrees, and of the memory only an area changed
pub record Leaves (a : Area) (w : World) (l : Book) (v : World) : Type 0 where
  pub agrees : TxAgrees w.state.regs l v.state v.memory
  pub state : RestSame w.state v.state
  pub memory : OnlyIn (area_range a) w.memory v.memory

-- what a request and a cancel leave: it is the area of the Tx buffers, and no event comes
pub record LeavesTx (w : World) (l : Book) (v : World) : Type 0 where
  pub left : Leaves (tx_area w.state.regs) w l v
  pub events : v.state.events ≡ w.state.events

-- the part of fitness that is the Tx buffers'
pub record TxFit (s : State) : Type 0 where
  pub shared : Fit s.shared (shared_ring_size s.regs)
  pub pending : s.pending < 2 ^ tx_count s.regs
  pub held_bits : (p : ℕ) → p < shared_ring_size s.regs
      → is_set s.pending (dedicated s.regs + p) ≡ held s.shared (shared_ring_size s.regs) p
