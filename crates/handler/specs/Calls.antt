-- The fifteen calls: what each is given, what it tells, and its definition.
use Rattle.std.specs.Prelude.{ℕ, Bool, false, List, [], length}
use Rattle.registers.specs.declared.Registers.{Registers}
use Rattle.frame.specs.declared.Frame.{Frame}
use Rattle.element.specs.declared.RxRead.{RxRead}
use Rattle.element.specs.declared.TxHeader.{TxHeader}
use Rattle.element.specs.declared.EventHeader.{EventHeader}
use Rattle.engine.specs.Calls.{World, Outcome}
use Rattle.engine.specs.States.{never_started}
use Rattle.starting.specs.Starting
use Rattle.starting.specs.Starting.{unreported}
use Rattle.receiving.specs.Receive
use Rattle.receiving.specs.Receive.{Fate}
use Rattle.taking.specs.Reading
use Rattle.taking.specs.Releasing
use Rattle.requesting.specs.Requesting
use Rattle.requesting.specs.Cancelling
use Rattle.choosing.specs.Choosing
use Rattle.choosing.specs.Choosing.{Next}
use Rattle.reporting.specs.Reporting
use Rattle.events.specs.Events
use Rattle.overview.specs.Overview
use Rattle.overview.specs.declared.Overview.{Overview as Told}

-- a call with all that it is given beside the world; a lent output is given by its bytes
pub data Call : Type 0 where
  -- 1: the registers
  start : Registers → Call
  -- 2: frame, data, timestamp
  receive : Frame → List ℕ → ℕ → Call
  -- 3: FIFO, place, lent output
  read_fifo : ℕ → ℕ → List ℕ → Call
  -- 4: FIFO, place
  acknowledge_fifo : ℕ → ℕ → Call
  -- 5: buffer, lent output
  read_buffer : ℕ → List ℕ → Call
  -- 6: buffer
  release_buffer : ℕ → Call
  -- 7: buffer, request (frame, marker and event wish), its data
  request_dedicated : ℕ → TxHeader → List ℕ → Call
  -- 8: request, its data
  request_shared : TxHeader → List ℕ → Call
  -- 9: buffer
  cancel : ℕ → Call
  -- 10: error passive, lent output
  ask_choice : Bool → List ℕ → Call
  -- 11: buffer, error passive, timestamp
  report_sent : ℕ → Bool → ℕ → Call
  -- 12: place
  read_event : ℕ → Call
  -- 13: place
  acknowledge_event : ℕ → Call
  -- 14: mask
  clear_flags : ℕ → Call
  -- 15
  report_status : Call

-- the same, with the call's number and a name for each thing; what a call is not given is 0 or empty. A start's
-- output is what it reports: no sections yet
pub record Given : Type 0 where
  pub call : ℕ
  pub registers : Registers
  pub frame : Frame
  pub bytes : ℕ
  pub fifo : ℕ
  pub place : ℕ
  pub buffer : ℕ
  pub output : List ℕ

abbrev pub gives : ℕ → Registers → Frame → ℕ → ℕ → ℕ → ℕ → List ℕ → Given
gives call registers frame bytes fifo place buffer output = record {
  call = call;
  registers = registers;
  frame = frame;
  bytes = bytes;
  fifo = fifo;
  place = place;
  buffer = buffer;
  output = output;
}

abbrev pub no_registers : Registers
no_registers = never_started.regs

abbrev pub no_frame : Frame
no_frame = record { id = 0; xtd = false; rtr = false; fdf = false; brs = false; esi = false; dlc = 0 }

abbrev pub given : Call → Given
given (start g) = gives 1 g no_frame 0 0 0 0 unreported
given (receive f d time) = gives 2 no_registers f (length d) 0 0 0 []
given (read_fifo fifo place out) = gives 3 no_registers no_frame 0 fifo place 0 out
given (acknowledge_fifo fifo place) = gives 4 no_registers no_frame 0 fifo place 0 []
given (read_buffer buffer out) = gives 5 no_registers no_frame 0 0 0 buffer out
given (release_buffer buffer) = gives 6 no_registers no_frame 0 0 0 buffer []
given (request_dedicated buffer h d) = gives 7 no_registers h.frame (length d) 0 0 buffer []
given (request_shared h d) = gives 8 no_registers h.frame (length d) 0 0 0 []
given (cancel buffer) = gives 9 no_registers no_frame 0 0 0 buffer []
given (ask_choice passive out) = gives 10 no_registers no_frame 0 0 0 0 out
given (report_sent buffer passive time) = gives 11 no_registers no_frame 0 0 0 buffer []
given (read_event place) = gives 12 no_registers no_frame 0 0 place 0 []
given (acknowledge_event place) = gives 13 no_registers no_frame 0 0 place 0 []
given (clear_flags mask) = gives 14 no_registers no_frame 0 0 0 0 []
given report_status = gives 15 no_registers no_frame 0 0 0 0 []

-- what a call tells
abbrev pub Answer : Call → Type 0
Answer (start g) = Unit {0}
Answer (receive f d time) = Fate
Answer (read_fifo fifo place out) = RxRead
Answer (acknowledge_fifo fifo place) = Unit {0}
Answer (read_buffer buffer out) = RxRead
Answer (release_buffer buffer) = Unit {0}
Answer (request_dedicated buffer h d) = ℕ
Answer (request_shared h d) = ℕ
Answer (cancel buffer) = Unit {0}
Answer (ask_choice passive out) = Next
Answer (report_sent buffer passive time) = Unit {0}
Answer (read_event place) = EventHeader
Answer (acknowledge_event place) = Unit {0}
Answer (clear_flags mask) = Unit {0}
Answer report_status = Told

-- the definition of each
abbrev pub step : World → (c : Call) → Outcome (Answer c)
step w (start g) = Starting.start w g
step w (receive f d time) = Receive.receive w f d time
step w (read_fifo fifo place out) = Reading.read_fifo w fifo place out
step w (acknowledge_fifo fifo place) = Releasing.acknowledge_fifo w fifo place
step w (read_buffer buffer out) = Reading.read_buffer w buffer out
step w (release_buffer buffer) = Releasing.release_buffer w buffer
step w (request_dedicated buffer h d) = Requesting.request_dedicated w buffer h d
step w (request_shared h d) = Requesting.request_shared w h d
step w (cancel buffer) = Cancelling.cancel w buffer
step w (ask_choice passive out) = Choosing.ask_choice w passive out
step w (report_sent buffer passive time) = Reporting.report_sent w buffer passive time
step w (read_event place) = Events.read_event w place
step w (acknowledge_event place) = Events.acknowledge_event w place
step w (clear_flags mask) = Overview.clear_flags w mask
step w report_status = Overview.report_status w
