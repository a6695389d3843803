-- The record: which flags are up and what the priority word is after every call, by what the call is given, what it
-- answers, the element that decided, and the fills before and after. Statements only.
use Rattle.std.specs.Prelude.{ℕ, ◌+◌, ◌*◌, ◌^◌, ◌<◌, ◌≡◌, Bool, true, false, not, ◌&&◌, ◌||◌, List, [], ◌∷◌, ◌++◌, eqb, ltb, Option, Some, None}
use Rattle.words.specs.Bits.{is_set}
use Rattle.words.specs.Choice.{pick}
use Rattle.words.specs.Fields.{bits}
use Rattle.shape.specs.Calls.{Says, refuses, answers}
use Rattle.registers.specs.Fields.{fifo_size, fifo_mark, event_size, event_mark}
use Rattle.frame.specs.declared.Frame.{Frame}
use Rattle.filter.specs.Search.{filter_at}
use Rattle.engine.specs.Calls.{World}
use Rattle.engine.specs.States.{fifo_ring}
use Rattle.receiving.specs.Receive.{Fate, stored, stored_buffer, lost_to, dropped}
use Rattle.choosing.specs.Buffers.{header_of}
use Rattle.handler.specs.Calls.{Call, start, receive, read_fifo, acknowledge_fifo, read_buffer, release_buffer}
use Rattle.handler.specs.Calls.{request_dedicated, request_shared, cancel, ask_choice, report_sent, read_event}
use Rattle.handler.specs.Calls.{acknowledge_event, clear_flags, report_status, Answer, step}
use Rattle.handler.specs.Demand2.{list_for, match_in}

-- ---- what a call leaves in the record

-- flags, each with whether it is raised
abbrev pub Raises : Type 0
Raises = List (ℕ × Bool)

-- flag n is among them, and it is raised
abbrev pub raises : Raises → ℕ → Bool
raises [] n = false
raises (f ∷ fs) n = f.1 && eqb n f.0 || raises fs n

-- the priority word: as it was, 0, or one with the list (whether of 29 bits), filter index, outcome and element
pub data Word : Type 0 where
  same zeroed : Word
  fields : Bool → ℕ → ℕ → ℕ → Word

pub record Notes : Type 0 where
  pub clears : ℕ → Bool
  pub raised : Raises
  pub priority : Word

abbrev pub notes : (ℕ → Bool) → Raises → Word → Notes
notes c r p = record { clears = c; raised = r; priority = p }

-- no flag is cleared; these are raised
abbrev pub raising : Raises → Notes
raising r = notes (λ n. false) r same

-- ---- FIFO 0, FIFO 1 and the event list, from the first of four flags: new; watermark and full, where the fill rose to
-- it (so one of 0 is never met); lost

abbrev pub ring_raises : ℕ → ℕ → ℕ → ℕ → ℕ → Bool → Bool → Raises
ring_raises first mark size before last new lost =
    (first, new)
    ∷ (first + 1, ltb before last && eqb last mark)
    ∷ (first + 2, ltb before last && eqb last size)
    ∷ (first + 3, lost)
    ∷ []

-- ---- call 2

-- the answer is that the frame is stored in FIFO k, and so new there even where it took the oldest's place; or that it
-- is lost to FIFO k; or that it is in an Rx buffer
abbrev pub stored_to : Fate → ℕ → Bool
stored_to (stored fifo place m) k = eqb fifo k
stored_to (stored_buffer buffer i) k = false
stored_to (lost_to fifo m) k = false
stored_to (dropped why m) k = false

abbrev pub lost_in : Fate → ℕ → Bool
lost_in (stored fifo place m) k = false
lost_in (stored_buffer buffer i) k = false
lost_in (lost_to fifo m) k = eqb fifo k
lost_in (dropped why m) k = false

abbrev pub in_buffer : Fate → Bool
in_buffer (stored fifo place m) = false
in_buffer (stored_buffer buffer i) = true
in_buffer (lost_to fifo m) = false
in_buffer (dropped why m) = false

-- the filter element that matched is for priority: its action is 4, 5 or 6
abbrev pub for_priority : World → Frame → Option ℕ → Bool
for_priority w f None = false
for_priority w f (Some i) =
    let action = (filter_at w.memory (list_for w f) i).action in eqb action 4 || eqb action 5 || eqb action 6

abbrev pub index_in : Option ℕ → ℕ
index_in None = 0
index_in (Some i) = i

-- 0 no FIFO, 1 lost, 2 and 3 stored in FIFO 0 and 1
abbrev pub outcome_in : Fate → ℕ
outcome_in (stored fifo place m) = 2 + fifo
outcome_in (stored_buffer buffer i) = 0
outcome_in (lost_to fifo m) = 1
outcome_in (dropped why m) = 0

abbrev pub element_in : Fate → ℕ
element_in (stored fifo place m) = place
element_in (stored_buffer buffer i) = 0
element_in (lost_to fifo m) = 0
element_in (dropped why m) = 0

-- FIFO 0 has the flags 0 to 3, FIFO 1 has 4 to 7
abbrev pub fifo_raises : World → Fate → World → ℕ → Raises
fifo_raises w a v k =
    let g = w.state.regs in
    ring_raises (4 * k) (fifo_mark g k) (fifo_size g k) (fifo_ring w.state k).fill (fifo_ring v.state k).fill
    (stored_to a k) (lost_in a k)

abbrev pub receive_notes : World → Frame → Fate → World → Notes
receive_notes w f a v =
    let p = for_priority w f (match_in a) in
    notes (λ n. false)
    (fifo_raises w a v 0 ++ (fifo_raises w a v 1 ++ ((8, p) ∷ (19, in_buffer a) ∷ [])))
    (pick p (fields f.xtd (index_in (match_in a)) (outcome_in a) (element_in a)) same)

-- ---- call 11: 9 sent; 11 where this send emptied the shared FIFO; 12 to 15 where the sent element wants an event: new
-- where the list has room, else lost

abbrev pub report_raises : World → ℕ → World → Raises
report_raises w buffer v =
    let s = w.state in
    let wish = (header_of s w.memory buffer).wish in
    let room = ltb s.events.fill (event_size s.regs) in
    (9, true)
    ∷ (11, ltb 0 s.shared.fill && eqb v.state.shared.fill 0)
    ∷ ring_raises 12 (event_mark s.regs) (event_size s.regs) s.events.fill v.state.events.fill
    (wish && room) (wish && not room)

-- ---- every call, by its answer and the world after it

abbrev pub notes_of : World → (c : Call) → Answer c → World → Notes
notes_of w (start g) a v = notes (λ n. true) [] zeroed
notes_of w (receive f d time) a v = receive_notes w f a v
notes_of w (read_fifo fifo place out) a v = raising []
notes_of w (acknowledge_fifo fifo place) a v = raising []
notes_of w (read_buffer buffer out) a v = raising []
notes_of w (release_buffer buffer) a v = raising []
notes_of w (request_dedicated buffer h d) a v = raising []
notes_of w (request_shared h d) a v = raising []
notes_of w (cancel buffer) a v = raising ((10, true) ∷ [])
notes_of w (ask_choice passive out) a v = raising []
notes_of w (report_sent buffer passive time) a v = raising (report_raises w buffer v)
notes_of w (read_event place) a v = raising []
notes_of w (acknowledge_event place) a v = raising []
notes_of w (clear_flags mask) a v = notes (λ n. is_set mask n) [] same
notes_of w report_status a v = raising []

-- a refusal leaves none
abbrev pub notes_in : World → (c : Call) → Says (Answer c) → World → Notes
notes_in w c (answers a) v = notes_of w c a v
notes_in w c (refuses n) v = raising []

-- ---- what is promised

-- the fields of the priority word; every other bit of it is 0
pub record PriorityFields (word : ℕ) (long : Bool) (index outcome element : ℕ) : Type 0 where
  pub list : is_set word 15 ≡ long
  pub filter : bits 14 8 word ≡ index
  pub became : bits 7 6 word ≡ outcome
  pub place : bits 5 0 word ≡ element
  pub rest : word < 2 ^ 16

abbrev pub PriorityIs : Word → ℕ → ℕ → Type 0
PriorityIs same before last = last ≡ before
PriorityIs zeroed before last = last ≡ 0
PriorityIs (fields long index outcome element) before last = PriorityFields last long index outcome element

pub record Noted (w v : World) (n : Notes) : Type 0 where
  -- a flag is up exactly where it was up and is not cleared, or is raised
  pub flags : (k : ℕ)
      → is_set v.recorded.flags k ≡ (is_set w.recorded.flags k && not (n.clears k) || raises n.raised k)
  pub priority : PriorityIs n.priority w.recorded.priority v.recorded.priority

-- after every call, accepted or refused; a mask is of 32 bits
abbrev pub RecordTells : Type 0
RecordTells =
    (w : World) (c : Call) → ((mask : ℕ) → c ≡ clear_flags mask → mask < 2 ^ 32)
    → let o = step w c in Noted w o.world (notes_in w c o.says o.world)
