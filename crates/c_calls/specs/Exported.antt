-- The fifteen calls from C: what each is given beside what it is lent, and what its function does.
use Rattle.std.specs.Prelude.{ℕ, List}
use Rattle.c_entering.specs.Entering.{Lent, Returned}
use Rattle.c_entering.specs.EngineCalls.{start_call, clear_call, status_call}
use Rattle.c_receiving.specs.ReceivingCalls.{receive_call, read_fifo_call, acknowledge_fifo_call, read_buffer_call}
use Rattle.c_receiving.specs.ReceivingCalls.{release_buffer_call}
use Rattle.c_requesting.specs.RequestingCalls.{request_dedicated_call, request_shared_call, cancel_call}
use Rattle.c_requesting.specs.EventCalls.{read_event_call, acknowledge_event_call}
use Rattle.c_choosing.specs.ChoosingCalls.{ask_choice_call, report_sent_call}

pub data FromC : Type 0 where
  -- 1: the registers' words
  start : List ℕ → FromC
  -- 2: the frame's words, data, timestamp
  receive : List ℕ → List ℕ → ℕ → FromC
  -- 3: FIFO, place
  read_fifo : ℕ → ℕ → FromC
  -- 4: FIFO, place
  acknowledge_fifo : ℕ → ℕ → FromC
  -- 5: buffer
  read_buffer : ℕ → FromC
  -- 6: buffer
  release_buffer : ℕ → FromC
  -- 7: buffer, the frame's words, data, marker, a word for the event wish
  request_dedicated : ℕ → List ℕ → List ℕ → ℕ → ℕ → FromC
  -- 8: the same without a buffer
  request_shared : List ℕ → List ℕ → ℕ → ℕ → FromC
  -- 9: buffer
  cancel : ℕ → FromC
  -- 10: a word for error passive
  ask_choice : ℕ → FromC
  -- 11: buffer, a word for error passive, timestamp
  report_sent : ℕ → ℕ → ℕ → FromC
  -- 12: place
  read_event : ℕ → FromC
  -- 13: place
  acknowledge_event : ℕ → FromC
  -- 14: mask
  clear_flags : ℕ → FromC
  -- 15
  report_status : FromC

abbrev pub exported : Lent → FromC → Returned
exported l (start registers) = start_call l registers
exported l (receive frame bytes time) = receive_call l frame bytes time
exported l (read_fifo fifo place) = read_fifo_call l fifo place
exported l (acknowledge_fifo fifo place) = acknowledge_fifo_call l fifo place
exported l (read_buffer buffer) = read_buffer_call l buffer
exported l (release_buffer buffer) = release_buffer_call l buffer
exported l (request_dedicated buffer frame bytes marker wish) = request_dedicated_call l buffer frame bytes marker wish
exported l (request_shared frame bytes marker wish) = request_shared_call l frame bytes marker wish
exported l (cancel buffer) = cancel_call l buffer
exported l (ask_choice passive) = ask_choice_call l passive
exported l (report_sent buffer passive time) = report_sent_call l buffer passive time
exported l (read_event place) = read_event_call l place
exported l (acknowledge_event place) = acknowledge_event_call l place
exported l (clear_flags mask) = clear_call l mask
exported l report_status = status_call l
