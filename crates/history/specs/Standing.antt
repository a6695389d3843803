-- That a state and a memory hold exactly what the book says.
use Rattle.std.specs.Prelude.{ℕ, ◌≤◌, ◌<◌, ◌≡◌, true, List}
use Rattle.words.specs.Bits.{is_set}
use Rattle.places.specs.Areas.{words_at}
use Rattle.registers.specs.Fields.{buffers as buffer_count}
use Rattle.registers.specs.declared.Registers.{Registers}
use Rattle.areas.specs.Areas.{fifo_area, buffer_area, event_area}
use Rattle.areas.specs.Own.{written_sections, OnlySections}
use Rattle.engine.specs.States.{fifo_ring}
use Rattle.engine.specs.declared.state.State.{State}
use Rattle.books.specs.Standing.{RingAgrees}
use Rattle.requests.specs.Standing.{TxAgrees}
use Rattle.history.specs.Books.{InRxBuffer, Book, fifo_ledger, last_in}

-- each Rx buffer that has new data holds what was last stored in it
pub record BuffersAgree (g : Registers) (newdata : ℕ) (buffered : List InRxBuffer) (mem : List ℕ) : Type 0 where
  pub inside : (n : ℕ) → is_set newdata n ≡ true → n < buffer_count g
  pub words : (n : ℕ) → is_set newdata n ≡ true → words_at (buffer_area g) n mem ≡ last_in n buffered

-- began is the memory at the start
pub record BookAgrees (g : Registers) (began : List ℕ) (b : Book) (s : State) (mem : List ℕ) : Type 0 where
  -- the registers are those of the start
  pub regs : s.regs ≡ g
  -- every frame sent to a FIFO is exactly once released, held or lost, in order; those held stand in the memory word
  -- for word
  pub fifos : (fifo : ℕ) → fifo ≤ 1 → RingAgrees (fifo_area g fifo) (fifo_ledger b fifo) (fifo_ring s fifo) mem
  -- and every event due
  pub events : RingAgrees (event_area g) b.events s.events mem
  -- every accepted request is exactly once pending, sent or cancelled; those pending are the pending bits and stand in
  -- their buffers word for word; a shared FIFO's are sent in order
  pub requests : TxAgrees g b.requests s mem
  -- what the Rx buffers hold
  pub newdata : s.newdata ≡ b.newdata
  pub buffers : BuffersAgree g b.newdata b.buffered mem
  -- the memory is as long as at the start, and every word that is not of the FIFOs, Rx buffers, events or Tx buffers is
  -- as it was
  pub rest : OnlySections g written_sections began mem
