-- A call from C seen through the packing: the call that its words mean, 100 and 101, its outcome in words and back.
use Rattle.std.specs.Prelude.{ℕ, Bool, true, ◌&&◌, List, [], ◌∷◌, eqb}
use Rattle.words.specs.Choice.{pick}
use Rattle.words.specs.Runs.{part}
use Rattle.shape.specs.Calls.{refuses, answers}
use Rattle.shape.specs.Histories.{Told}
use Rattle.shape.specs.Refusals.{Refusal, names}
use Rattle.layout.specs.Verdict.{plain}
use Rattle.engine.specs.Calls.{Outcome}
use Rattle.starting.specs.Starting.{unreported}
use Rattle.handler.specs.Calls as Handler
use Rattle.handler.specs.Calls.{Call, given, Answer}
use Rattle.c_words.specs.Words.{word, says_yes, is_yes_no}
use Rattle.c_words.specs.Frames.{unpack_frame}
use Rattle.c_words.specs.States.{register_words, state_words, unpack_registers}
use Rattle.c_answers.specs.Answers.{no_words, fate_words, read_words, buffer_words, choice_words, event_words, overview_words}
use Rattle.c_answers.specs.Back.{fate_in, read_in, buffer_in, choice_in, event_in, overview_in}
use Rattle.c_entering.specs.Entering.{Lent, Returned, has, in_words}
use Rattle.c_entering.specs.EngineCalls.{start_in_words}
use Rattle.c_calls.specs.Exported.{FromC, start, receive, read_fifo, acknowledge_fifo, read_buffer, release_buffer}
use Rattle.c_calls.specs.Exported.{request_dedicated, request_shared, cancel, ask_choice, report_sent, read_event}
use Rattle.c_calls.specs.Exported.{acknowledge_event, clear_flags, report_status}

-- the call that the words mean; a lent output is given by its bytes
abbrev pub call_of : List ℕ → FromC → Call
call_of out (start registers) = Handler.start (unpack_registers registers)
call_of out (receive frame bytes time) = Handler.receive (unpack_frame frame) bytes time
call_of out (read_fifo fifo place) = Handler.read_fifo fifo place out
call_of out (acknowledge_fifo fifo place) = Handler.acknowledge_fifo fifo place
call_of out (read_buffer buffer) = Handler.read_buffer buffer out
call_of out (release_buffer buffer) = Handler.release_buffer buffer
call_of out (request_dedicated buffer frame bytes marker wish) =
    Handler.request_dedicated buffer (record { frame = unpack_frame frame; marker = marker; wish = says_yes wish }) bytes
call_of out (request_shared frame bytes marker wish) =
    Handler.request_shared (record { frame = unpack_frame frame; marker = marker; wish = says_yes wish }) bytes
call_of out (cancel buffer) = Handler.cancel buffer
call_of out (ask_choice passive) = Handler.ask_choice (says_yes passive) out
call_of out (report_sent buffer passive time) = Handler.report_sent buffer (says_yes passive) time
call_of out (read_event place) = Handler.read_event place
call_of out (acknowledge_event place) = Handler.acknowledge_event place
call_of out (clear_flags mask) = Handler.clear_flags mask
call_of out report_status = Handler.report_status

-- ---- 100 and 101

-- the call's own buffers that have a length of their own, with it
abbrev pub own_buffers : List ℕ → FromC → List (List ℕ × ℕ)
own_buffers answer (start registers) = (registers, register_words) ∷ (answer, 16) ∷ []
own_buffers answer (receive frame bytes time) = (frame, 7) ∷ (answer, 16) ∷ []
own_buffers answer (read_fifo fifo place) = (answer, 16) ∷ []
own_buffers answer (acknowledge_fifo fifo place) = []
own_buffers answer (read_buffer buffer) = (answer, 16) ∷ []
own_buffers answer (release_buffer buffer) = []
own_buffers answer (request_dedicated buffer frame bytes marker wish) = (frame, 7) ∷ (answer, 16) ∷ []
own_buffers answer (request_shared frame bytes marker wish) = (frame, 7) ∷ (answer, 16) ∷ []
own_buffers answer (cancel buffer) = []
own_buffers answer (ask_choice passive) = (answer, 16) ∷ []
own_buffers answer (report_sent buffer passive time) = []
own_buffers answer (read_event place) = (answer, 16) ∷ []
own_buffers answer (acknowledge_event place) = []
own_buffers answer (clear_flags mask) = []
own_buffers answer report_status = (answer, 16) ∷ []

abbrev pub buffers_of : Lent → FromC → List (List ℕ × ℕ)
buffers_of l c = (l.state, state_words) ∷ (l.recorded, 2) ∷ own_buffers l.answer c

-- the words of registers and of a frame that say yes or no
abbrev pub switches : List ℕ → List ℕ → List ℕ
switches ws more = word ws 12 ∷ word ws 13 ∷ more

abbrev pub frame_yes_nos : List ℕ → List ℕ
frame_yes_nos frame = word frame 1 ∷ word frame 2 ∷ word frame 3 ∷ word frame 4 ∷ word frame 5 ∷ []

-- the words that say yes or no: of the state, but of a start of its registers, and the call's own
abbrev pub yes_nos : List ℕ → FromC → List ℕ
yes_nos state (start registers) = switches registers []
yes_nos state (receive frame bytes time) = switches state (frame_yes_nos frame)
yes_nos state (read_fifo fifo place) = switches state []
yes_nos state (acknowledge_fifo fifo place) = switches state []
yes_nos state (read_buffer buffer) = switches state []
yes_nos state (release_buffer buffer) = switches state []
yes_nos state (request_dedicated buffer frame bytes marker wish) = switches state (wish ∷ frame_yes_nos frame)
yes_nos state (request_shared frame bytes marker wish) = switches state (wish ∷ frame_yes_nos frame)
yes_nos state (cancel buffer) = switches state []
yes_nos state (ask_choice passive) = switches state (passive ∷ [])
yes_nos state (report_sent buffer passive time) = switches state (passive ∷ [])
yes_nos state (read_event place) = switches state []
yes_nos state (acknowledge_event place) = switches state []
yes_nos state (clear_flags mask) = switches state []
yes_nos state report_status = switches state []

-- all of them are right
abbrev pub every : {A : Type 0} → (A → Bool) → List A → Bool
every p [] = true
every p (x ∷ xs) = p x && every p xs

abbrev pub have_lengths : Lent → FromC → Bool
have_lengths l c = every (λ b. has b.0 b.1) (buffers_of l c)

abbrev pub say_yes_or_no : Lent → FromC → Bool
say_yes_or_no l c = every is_yes_no (yes_nos l.state c)

-- ---- an outcome in words, and back

abbrev pub step_in_words : (l : Lent) (c : FromC) → Outcome (Answer (call_of l.output c)) → Returned
step_in_words l (start registers) o = start_in_words l o
step_in_words l (receive frame bytes time) o = in_words l fate_words o
step_in_words l (read_fifo fifo place) o = in_words l read_words o
step_in_words l (acknowledge_fifo fifo place) o = in_words l no_words o
step_in_words l (read_buffer buffer) o = in_words l read_words o
step_in_words l (release_buffer buffer) o = in_words l no_words o
step_in_words l (request_dedicated buffer frame bytes marker wish) o = in_words l buffer_words o
step_in_words l (request_shared frame bytes marker wish) o = in_words l buffer_words o
step_in_words l (cancel buffer) o = in_words l no_words o
step_in_words l (ask_choice passive) o = in_words l choice_words o
step_in_words l (report_sent buffer passive time) o = in_words l no_words o
step_in_words l (read_event place) o = in_words l event_words o
step_in_words l (acknowledge_event place) o = in_words l no_words o
step_in_words l (clear_flags mask) o = in_words l no_words o
step_in_words l report_status o = in_words l overview_words o

-- the answer that stands in the words told
abbrev pub answer_in : (out : List ℕ) (c : FromC) → List ℕ → Answer (call_of out c)
answer_in out (start registers) ws = tt
answer_in out (receive frame bytes time) ws = fate_in ws
answer_in out (read_fifo fifo place) ws = read_in ws
answer_in out (acknowledge_fifo fifo place) ws = tt
answer_in out (read_buffer buffer) ws = read_in ws
answer_in out (release_buffer buffer) ws = tt
answer_in out (request_dedicated buffer frame bytes marker wish) ws = buffer_in ws
answer_in out (request_shared frame bytes marker wish) ws = buffer_in ws
answer_in out (cancel buffer) ws = tt
answer_in out (ask_choice passive) ws = choice_in ws
answer_in out (report_sent buffer passive time) ws = tt
answer_in out (read_event place) ws = event_in ws
answer_in out (acknowledge_event place) ws = tt
answer_in out (clear_flags mask) ws = tt
answer_in out report_status ws = overview_in ws

-- and the output: its bytes, or the sections that an accepted start reports behind its two names
abbrev pub output_in : FromC → Returned → List ℕ
output_in (start registers) r = pick (eqb r.number 0) (part 2 14 r.lent.answer) unreported
output_in (receive frame bytes time) r = []
output_in (read_fifo fifo place) r = r.lent.output
output_in (acknowledge_fifo fifo place) r = []
output_in (read_buffer buffer) r = r.lent.output
output_in (release_buffer buffer) r = []
output_in (request_dedicated buffer frame bytes marker wish) r = []
output_in (request_shared frame bytes marker wish) r = []
output_in (cancel buffer) r = []
output_in (ask_choice passive) r = r.lent.output
output_in (report_sent buffer passive time) r = []
output_in (read_event place) r = []
output_in (acknowledge_event place) r = []
output_in (clear_flags mask) r = []
output_in report_status r = []

-- the refusal of a number, with the sections that a start names in its two words
abbrev pub refusal_in : Call → ℕ → List ℕ → Refusal
refusal_in c n ws = pick (eqb (given c).call 1) (names n (word ws 0) (word ws 1)) (plain n)

-- all that the call told, from what it returned
abbrev pub told_in : (out : List ℕ) (c : FromC) → Returned → Told (Answer (call_of out c))
told_in out c r = record {
  says =
      pick (eqb r.number 0) (answers (answer_in out c r.lent.answer))
      (refuses (refusal_in (call_of out c) r.number r.lent.answer));
  output = output_in c r;
}
