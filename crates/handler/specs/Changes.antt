-- What a call may change, by its answer: words of the memory, bytes of the output, parts of state and record. A
-- refusal changes nothing.
use Rattle.std.specs.Prelude.{ℕ, ◌≡◌, Bool, false, ◌||◌, List, [], ◌∷◌, eqb}
use Rattle.words.specs.Choice.{pick}
use Rattle.words.specs.Ranges.{Range, front}
use Rattle.shape.specs.Calls.{Says, refuses, answers}
use Rattle.places.specs.Areas.{place_range}
use Rattle.registers.specs.declared.Registers.{Registers}
use Rattle.areas.specs.Areas.{tx_area}
use Rattle.filter.specs.Destination.{reason}
use Rattle.filter.specs.declared.Reason.TheVariants.{PriorityOnly}
use Rattle.engine.specs.Calls.{World}
use Rattle.receiving.specs.Promises.{stored_in}
use Rattle.receiving.specs.Receive.{Fate, stored, stored_buffer, lost_to, dropped}
use Rattle.choosing.specs.Choosing.{Next, none, send}
use Rattle.reporting.specs.Promises.{event_range}
use Rattle.handler.specs.Calls.{Call, start, receive, read_fifo, acknowledge_fifo, read_buffer, release_buffer}
use Rattle.handler.specs.Calls.{request_dedicated, request_shared, cancel, ask_choice, report_sent, read_event}
use Rattle.handler.specs.Calls.{acknowledge_event, clear_flags, report_status, Answer}

-- ---- the parts of an engine's state and of its record

pub data Part : Type 0 where
  registers fifo0 fifo1 events shared new_data pending sent cancelled flags priority : Part

-- a part of one world is that of another
abbrev pub Same : Part → World → World → Type 0
Same registers w v = v.state.regs ≡ w.state.regs
Same fifo0 w v = v.state.fifo0 ≡ w.state.fifo0
Same fifo1 w v = v.state.fifo1 ≡ w.state.fifo1
Same events w v = v.state.events ≡ w.state.events
Same shared w v = v.state.shared ≡ w.state.shared
Same new_data w v = v.state.newdata ≡ w.state.newdata
Same pending w v = v.state.pending ≡ w.state.pending
Same sent w v = v.state.sent ≡ w.state.sent
Same cancelled w v = v.state.cancelled ≡ w.state.cancelled
Same flags w v = v.recorded.flags ≡ w.recorded.flags
Same priority w v = v.recorded.priority ≡ w.recorded.priority

-- numbers to compare them by
abbrev pub number : Part → ℕ
number registers = 0
number fifo0 = 1
number fifo1 = 2
number events = 3
number shared = 4
number new_data = 5
number pending = 6
number sent = 7
number cancelled = 8
number flags = 9
number priority = 10

abbrev pub is_in : Part → List Part → Bool
is_in p [] = false
is_in p (q ∷ qs) = eqb (number p) (number q) || is_in p qs

abbrev pub every_part : List Part
every_part =
    registers ∷ fifo0 ∷ fifo1 ∷ events ∷ shared ∷ new_data ∷ pending ∷ sent ∷ cancelled ∷ flags ∷ priority ∷ []

-- ---- what may change

pub record Changes : Type 0 where
  pub memory : Range
  pub output : Range
  pub parts : List Part

abbrev pub changes : Range → Range → List Part → Changes
changes m o ps = record { memory = m; output = o; parts = ps }

abbrev pub nothing : Changes
nothing = changes (front 0) (front 0) []

-- parts of state and record alone
abbrev pub parts_only : List Part → Changes
parts_only ps = changes (front 0) (front 0) ps

-- the first bytes of the output alone
abbrev pub bytes_only : ℕ → Changes
bytes_only n = changes (front 0) (front n) []

-- FIFO 0 or 1
abbrev pub fifo_part : ℕ → Part
fifo_part fifo = pick (eqb fifo 0) fifo0 fifo1

-- call 2: what keeps the frame, and the record. Of the discards, a match for priority only is noted
abbrev pub parts_by : Fate → List Part
parts_by (stored fifo place m) = fifo_part fifo ∷ flags ∷ priority ∷ []
parts_by (stored_buffer buffer i) = new_data ∷ flags ∷ []
parts_by (lost_to fifo m) = flags ∷ priority ∷ []
parts_by (dropped why m) = pick (eqb why (reason PriorityOnly)) (flags ∷ priority ∷ []) []

-- call 10: the bytes to send
abbrev pub by_choice : Next → Changes
by_choice none = nothing
by_choice (send c) = bytes_only c.count

-- calls 7 and 8: the buffer's element and bits, with other parts
abbrev pub by_request : Registers → ℕ → List Part → Changes
by_request g buffer ps = changes (place_range (tx_area g) buffer) (front 0) (pending ∷ sent ∷ cancelled ∷ ps)

abbrev pub changes_of : World → (c : Call) → Answer c → Changes
changes_of w (start g) a = changes (front 0) (front 14) every_part
changes_of w (receive f d time) a = changes (stored_in w.state.regs a) (front 0) (parts_by a)
changes_of w (read_fifo fifo place out) a = bytes_only a.count
changes_of w (acknowledge_fifo fifo place) a = parts_only (fifo_part fifo ∷ [])
changes_of w (read_buffer buffer out) a = bytes_only a.count
changes_of w (release_buffer buffer) a = parts_only (new_data ∷ [])
changes_of w (request_dedicated buffer h d) a = by_request w.state.regs a []
changes_of w (request_shared h d) a = by_request w.state.regs a (shared ∷ [])
changes_of w (cancel buffer) a = parts_only (pending ∷ cancelled ∷ flags ∷ [])
changes_of w (ask_choice passive out) a = by_choice a
changes_of w (report_sent buffer passive time) a =
    changes (event_range w buffer) (front 0) (events ∷ shared ∷ pending ∷ sent ∷ flags ∷ [])
changes_of w (read_event place) a = nothing
changes_of w (acknowledge_event place) a = parts_only (events ∷ [])
changes_of w (clear_flags mask) a = parts_only (flags ∷ [])
changes_of w report_status a = nothing

abbrev pub named : World → (c : Call) → Says (Answer c) → Changes
named w c (answers a) = changes_of w c a
named w c (refuses n) = nothing
