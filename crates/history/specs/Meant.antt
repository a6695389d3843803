-- The frames that the rules send to a FIFO or an Rx buffer: by the filters and the rule for no match, not by answers.
use Rattle.std.specs.Prelude.{ℕ, List, [], ◌∷◌, ◌++◌, eqb, Some}
use Rattle.words.specs.Choice.{pick}
use Rattle.frame.specs.declared.Frame.{Frame}
use Rattle.registers.specs.declared.Registers.{Registers}
use Rattle.filter.specs.Destination.{Goes, to_fifo, to_buffer, discarded, destination}
use Rattle.areas.specs.Areas.{fifo_area, buffer_area}
use Rattle.shape.specs.Histories.{Told, noted}
use Rattle.books.specs.Ledgers.{Entry}
use Rattle.handler.specs.Calls.{Call, start, receive, read_fifo, acknowledge_fifo, read_buffer, release_buffer}
use Rattle.handler.specs.Calls.{request_dedicated, request_shared, cancel, ask_choice, report_sent, read_event}
use Rattle.handler.specs.Calls.{acknowledge_event, clear_flags, report_status, Answer}
use Rattle.history.specs.Books.{InRxBuffer, Book, frame_in, note}

abbrev pub words_of : Entry → List ℕ
words_of e = e.words

-- what a frame with its data and timestamp brings somewhere, by where it goes
abbrev pub Brings : Type 0 → Type 0
Brings A = Frame → List ℕ → ℕ → Goes → List A

-- to a FIFO: the words of its element
abbrev pub to_this_fifo : Registers → ℕ → Brings (List ℕ)
to_this_fifo g fifo f d time (to_fifo k priority m) = pick (eqb k fifo) (frame_in (fifo_area g fifo) f d time m ∷ []) []
to_this_fifo g fifo f d time (to_buffer buffer i) = []
to_this_fifo g fifo f d time (discarded why m) = []

-- to the Rx buffers: the buffer's number, and the words
abbrev pub to_buffers : Registers → Brings InRxBuffer
to_buffers g f d time (to_fifo k priority m) = []
to_buffers g f d time (to_buffer buffer i) =
    record { buffer = buffer; words = frame_in (buffer_area g) f d time (Some i) } ∷ []
to_buffers g f d time (discarded why m) = []

module _ {A : Type 0} (brings : Brings A) (g : Registers) (began : List ℕ) where
  -- by call: a frame that is received goes where it is destined, by the filter words of the memory at the start and the
  -- new-data bits of the book
  abbrev pub meant_by : Book → Call → List A
  meant_by b (start regs) = []
  meant_by b (receive f d time) = brings f d time (destination g began f b.newdata)
  meant_by b (read_fifo fifo place out) = []
  meant_by b (acknowledge_fifo fifo place) = []
  meant_by b (read_buffer buffer out) = []
  meant_by b (release_buffer buffer) = []
  meant_by b (request_dedicated buffer h d) = []
  meant_by b (request_shared h d) = []
  meant_by b (cancel buffer) = []
  meant_by b (ask_choice passive out) = []
  meant_by b (report_sent buffer passive time) = []
  meant_by b (read_event place) = []
  meant_by b (acknowledge_event place) = []
  meant_by b (clear_flags mask) = []
  meant_by b report_status = []

  -- of a history from a book on, all in order; a refused call brings nothing
  abbrev pub meant : Book → List ((c : Call) × Told (Answer c)) → List A
  meant b [] = []
  meant b (t ∷ ts) = noted [] (λ a. meant_by b t.0) t.1.says ++ meant (note g b t.0 t.1.says) ts
