-- What a call says, in words: the number that it returns, and the words of its answer.
use Rattle.std.specs.Prelude.{ℕ, ◌+◌, Option, Some, None, Result, Ok, Err, List, [], ◌∷◌, ◌++◌}
use Rattle.shape.specs.Calls.{Says, refuses, answers}
use Rattle.element.specs.declared.RxRead.{RxRead}
use Rattle.element.specs.declared.EventHeader.{EventHeader}
use Rattle.layout.specs.Verdict.{refusal_of}
use Rattle.engine.specs.Answers.{number_of}
use Rattle.receiving.specs.Receive.{Fate, stored, stored_buffer, lost_to, dropped}
use Rattle.choosing.specs.Choosing.{Next, none, send}
use Rattle.choosing.specs.declared.asking.Chosen.{Chosen}
use Rattle.overview.specs.declared.Overview.{Overview}
use Rattle.overview.specs.declared.RingStatus.{RingStatus}
use Rattle.c_words.specs.Words.{yes_no}
use Rattle.c_words.specs.Frames.{pack_frame}
use Rattle.c_answers.specs.declared.numbers.CRefusal.{CRefusal}
use Rattle.c_answers.specs.declared.numbers.CRefusal.TheVariants.{WrongLength, Neither, Layout, Call}

-- what refuses a call from C, by its number
abbrev pub code_of : CRefusal → ℕ
code_of WrongLength = 100
code_of Neither = 101
code_of (Layout n) = (refusal_of n).number
code_of (Call n) = number_of n

-- what a call from C returns: 0 where it is done
abbrev pub code : {A : Type 0} → Result A CRefusal → ℕ
code (Ok a) = 0
code (Err e) = code_of e

-- of a call that has nothing to tell
abbrev pub no_words : Unit {0} → List ℕ
no_words u = []

-- call 1: the two sections that a refusal names, 7 for none; where it is accepted 7 and 7, and first word and words of
-- each section, which are a start's output
abbrev pub start_words : Says (Unit {0}) → List ℕ → List ℕ
start_words (refuses n) sections = n.section ∷ n.other ∷ []
start_words (answers u) sections = 7 ∷ 7 ∷ sections

-- a filter element: its index + 1, 0 for none
abbrev pub filter_number : Option ℕ → ℕ
filter_number None = 0
filter_number (Some i) = i + 1

-- call 2: the kind (1 FIFO, 2 Rx buffer, 3 lost, 4 discarded); FIFO, buffer, FIFO, reason; the place in a FIFO; the
-- filter element
abbrev pub fate_words : Fate → List ℕ
fate_words (stored fifo place m) = 1 ∷ fifo ∷ place ∷ filter_number m ∷ []
fate_words (stored_buffer buffer i) = 2 ∷ buffer ∷ 0 ∷ (i + 1) ∷ []
fate_words (lost_to fifo m) = 3 ∷ fifo ∷ 0 ∷ filter_number m ∷ []
fate_words (dropped why m) = 4 ∷ why ∷ 0 ∷ filter_number m ∷ []

-- calls 3 and 5: the frame; timestamp; filter index and ANMF as they stand in the element; how many bytes were written
unfoldable pub read_words : RxRead → List ℕ
read_words r =
    pack_frame r.header.frame
    ++ (r.header.time ∷ r.header.index ∷ yes_no r.header.anmf ∷ r.count ∷ [])

-- calls 7 and 8: the buffer
abbrev pub buffer_words : ℕ → List ℕ
buffer_words buffer = buffer ∷ []

-- call 10: buffer, marker, event wish, the frame as sent, how many bytes were written; or 32 for nothing to send
abbrev pub chosen_head : Chosen → List ℕ
chosen_head c = c.buffer ∷ c.marker ∷ yes_no c.wish ∷ []

unfoldable pub chosen_words : Chosen → List ℕ
chosen_words c = chosen_head c ++ pack_frame c.frame ++ (c.count ∷ [])

abbrev pub choice_words : Next → List ℕ
choice_words none = 32 ∷ []
choice_words (send c) = chosen_words c

-- call 12: the frame as sent; marker, type, timestamp
unfoldable pub event_words : EventHeader → List ℕ
event_words h = pack_frame h.frame ++ (h.marker ∷ h.kind ∷ h.time ∷ [])

-- call 15: fill, oldest and put place of FIFO 0, FIFO 1, events, shared; the number of pending buffers
abbrev pub ring_words : RingStatus → List ℕ
ring_words t = t.fill ∷ t.oldest ∷ t.put ∷ []

unfoldable pub overview_words : Overview → List ℕ
overview_words t =
    ring_words t.fifo0 ++ ring_words t.fifo1 ++ ring_words t.events ++ ring_words t.shared ++ (t.pending ∷ [])
