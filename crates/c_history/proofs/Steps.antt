-- Each exported function is a step by computation; what it said comes back from its number and words.
-- Assumes nothing.
use Rattle.std.proofs.Common.{ℕ, ◌≡◌, refl, sym, ap, ap₂, ◌∙◌, Bool, false, ◌&&◌, List, [], arith, ne_eqb, eqb}
use Rattle.std.proofs.Common.{length}
use Rattle.words.specs.Choice.{pick}
use Rattle.words.specs.Runs.{part, splice}
use Rattle.words.proofs.Choices.{pick_second}
use Rattle.shape.specs.Calls.{Says, refuses, answers, done}
use Rattle.shape.specs.Refusals.{Refusal, names}
use Rattle.shape.proofs.Calls.{call_answers}
use Rattle.registers.specs.declared.Registers.{Registers}
use Rattle.frame.specs.declared.Frame.{Frame}
use Rattle.layout.specs.Sections.{sections_of}
use Rattle.layout.specs.Verdict.{plain, rules}
use Rattle.filter.specs.Destination.{Goes, to_fifo, to_buffer, discarded, destination}
use Rattle.engine.specs.Calls.{World, Outcome}
use Rattle.starting.specs.Starting.{unreported, flat, starts}
use Rattle.receiving.specs.Receive.{into_fifo, into_buffer, into_nothing, goes_to}
use Rattle.requesting.specs.Requesting.{requests}
use Rattle.choosing.specs.Choosing.{Next, none, send}
use Rattle.handler.specs.Calls as Handler
use Rattle.handler.specs.Calls.{Call, given, Answer, step}
use Rattle.handler.proofs.Exact.{does, step_cases, refusals_are_exact}
use Rattle.c_words.specs.Frames.{unpack_frame}
use Rattle.c_words.specs.States.{unpack_registers}
use Rattle.c_words.specs.Words.{word, says_yes}
use Rattle.c_answers.specs.Answers.{no_words, fate_words, read_words, buffer_words, choice_words, event_words, overview_words}
use Rattle.c_answers.specs.Answers.{start_words}
use Rattle.c_answers.specs.Back.{fate_in, read_in, buffer_in, choice_in, event_in, overview_in}
use Rattle.c_answers.proofs.Back.{answers_come_back}
use Rattle.c_entering.specs.Entering.{Lent, entering, sized, world_of, said_in, in_words}
use Rattle.c_entering.specs.EngineCalls.{start_in, start_in_words}
use Rattle.c_choosing.proofs.Nothing.{nothing_is_no_buffer}
use Rattle.c_calls.specs.Exported.{FromC, exported, start, receive, read_fifo, acknowledge_fifo, read_buffer, release_buffer}
use Rattle.c_calls.specs.Exported.{request_dedicated, request_shared, cancel, ask_choice, report_sent, read_event}
use Rattle.c_calls.specs.Exported.{acknowledge_event, clear_flags, report_status}
use Rattle.c_history.specs.Steps.{call_of, step_in_words, output_in, told_in}
use Rattle.c_history.specs.Promises.{ExportedIsStep, WordsTellTheAnswer}
use Rattle.c_history.proofs.Refusals.{Known, refusals_known}
use Rattle.c_history.proofs.Tables.{own_lengths, say_so, lengths_tabled, words_tabled}

-- with the tests as the calls make them
entered : (l : Lent) (c : FromC)
    → exported l c
    ≡ entering l (sized l.state l.recorded && own_lengths l.answer c) (say_so l.state c)
    (step_in_words l c (step (world_of l) (call_of l.output c)))
entered l (start registers) = refl
entered l (receive frame bytes time) = refl
entered l (read_fifo fifo place) = refl
entered l (acknowledge_fifo fifo place) = refl
entered l (read_buffer buffer) = refl
entered l (release_buffer buffer) = refl
entered l (request_dedicated buffer frame bytes marker wish) = refl
entered l (request_shared frame bytes marker wish) = refl
entered l (cancel buffer) = refl
entered l (ask_choice passive) = refl
entered l (report_sent buffer passive time) = refl
entered l (read_event place) = refl
entered l (acknowledge_event place) = refl
entered l (clear_flags mask) = refl
entered l report_status = refl

pub exported_is_step : ExportedIsStep
exported_is_step l c =
    entered l c
    ∙ ap₂ (λ (x y : Bool). entering l x y (step_in_words l c (step (world_of l) (call_of l.output c))))
    (lengths_tabled l c) (words_tabled l c)

-- ---- what was said comes back

-- of a call but a start, where its answers come back from their words
module _ {A : Type 0} (l : Lent) (words : A → List ℕ) (back : List ℕ → A) where
  abbrev Read : Outcome A → Says A
  Read o =
      let r = in_words l words o in
      pick (eqb r.number 0) (answers (back r.lent.answer)) (refuses (plain r.number))

  read_back : (call : ℕ) (o : Outcome A) → eqb call 1 ≡ false
      → ((a : A) → o.says ≡ answers a → back (splice l.answer 0 (words a)) ≡ a)
      → ((n : Refusal) → o.says ≡ refuses n → Known call n) → Read o ≡ o.says
  read_back call o other comes known = go o.says comes known
    where
      go : (v : Says A) → ((a : A) → v ≡ answers a → back (splice l.answer 0 (words a)) ≡ a)
          → ((n : Refusal) → v ≡ refuses n → Known call n)
          → pick (eqb (said_in l words o.world o.output v).number 0)
          (answers (back (said_in l words o.world o.output v).lent.answer))
          (refuses (plain (said_in l words o.world o.output v).number))
          ≡ v
      go (answers a) comes known = ap answers (comes a refl)
      go (refuses n) comes known =
          let k = known n refl in
          pick_second _ _ (ne_eqb n.number 0 k.some) ∙ ap refuses (sym (k.alone other))

-- a start tells its names in two words
started_back : (l : Lent) (o : Outcome (Unit {0})) → ((n : Refusal) → o.says ≡ refuses n → Known 1 n)
    → let r = start_in_words l o in
    let ws = r.lent.answer in
    pick (eqb r.number 0) (answers tt) (refuses (names r.number (word ws 0) (word ws 1))) ≡ o.says
unfolding splice
started_back l o known = go o.says known
  where
    go : (v : Says (Unit {0})) → ((n : Refusal) → v ≡ refuses n → Known 1 n)
        → let r = start_in l o.world o.output v in
        let ws = r.lent.answer in
        pick (eqb r.number 0) (answers tt) (refuses (names r.number (word ws 0) (word ws 1))) ≡ v
    go (answers u) known = refl
    go (refuses n) known = pick_second _ _ (ne_eqb n.number 0 (known n refl).some)

-- 32 is no buffer that is chosen
choice_back : (answer : List ℕ) (w : World) (passive : ℕ) (out : List ℕ) (a : Next)
    → (step w (call_of out (ask_choice passive))).says ≡ answers a
    → choice_in (splice answer 0 (choice_words a)) ≡ a
choice_back answer w passive out none e = answers_come_back.nothing answer
choice_back answer w passive out (send c) e =
    let small = nothing_is_no_buffer w (says_yes passive) out c e in
    answers_come_back.choice answer c (λ q. omega arith)

-- of a step
by_words : (l : Lent) (w : World) (c : Call) (words : Answer c → List ℕ) (back : List ℕ → Answer c)
    → eqb (given c).call 1 ≡ false
    → ((a : Answer c) → (step w c).says ≡ answers a → back (splice l.answer 0 (words a)) ≡ a)
    → Read l words back (step w c) ≡ (step w c).says
by_words l w c words back other comes =
    read_back l words back (given c).call (step w c) other comes (refusals_known w c)

abbrev nothing : List ℕ → Unit {0}
nothing ws = tt

says_told : (l : Lent) (c : FromC) (w : World) → let o = step w (call_of l.output c) in
    (told_in l.output c (step_in_words l c o)).says ≡ o.says
says_told l (start registers) w =
    let c = call_of l.output (start registers) in started_back l (step w c) (refusals_known w c)
says_told l (receive frame bytes time) w =
    by_words l w (call_of l.output (receive frame bytes time)) fate_words fate_in refl (λ a e. answers_come_back.fate l.answer a)
says_told l (read_fifo fifo place) w =
    by_words l w (call_of l.output (read_fifo fifo place)) read_words read_in refl (λ a e. answers_come_back.read l.answer a)
says_told l (acknowledge_fifo fifo place) w =
    by_words l w (call_of l.output (acknowledge_fifo fifo place)) no_words nothing refl (λ a e. refl)
says_told l (read_buffer buffer) w =
    by_words l w (call_of l.output (read_buffer buffer)) read_words read_in refl (λ a e. answers_come_back.read l.answer a)
says_told l (release_buffer buffer) w =
    by_words l w (call_of l.output (release_buffer buffer)) no_words nothing refl (λ a e. refl)
says_told l (request_dedicated buffer frame bytes marker wish) w =
    by_words l w (call_of l.output (request_dedicated buffer frame bytes marker wish)) buffer_words buffer_in refl (λ a e. answers_come_back.buffer l.answer a)
says_told l (request_shared frame bytes marker wish) w =
    by_words l w (call_of l.output (request_shared frame bytes marker wish)) buffer_words buffer_in refl (λ a e. answers_come_back.buffer l.answer a)
says_told l (cancel buffer) w =
    by_words l w (call_of l.output (cancel buffer)) no_words nothing refl (λ a e. refl)
says_told l (ask_choice passive) w =
    by_words l w (call_of l.output (ask_choice passive)) choice_words choice_in refl (choice_back l.answer w passive l.output)
says_told l (report_sent buffer passive time) w =
    by_words l w (call_of l.output (report_sent buffer passive time)) no_words nothing refl (λ a e. refl)
says_told l (read_event place) w =
    by_words l w (call_of l.output (read_event place)) event_words event_in refl (λ a e. answers_come_back.event l.answer a)
says_told l (acknowledge_event place) w =
    by_words l w (call_of l.output (acknowledge_event place)) no_words nothing refl (λ a e. refl)
says_told l (clear_flags mask) w =
    by_words l w (call_of l.output (clear_flags mask)) no_words nothing refl (λ a e. refl)
says_told l report_status w =
    by_words l w (call_of l.output report_status) overview_words overview_in refl (λ a e. answers_come_back.overview l.answer a)

-- ---- the output too

module _ {A : Type 0} (l : Lent) (o : Outcome A) where
  -- bytes that were lent
  put_out : (words : A → List ℕ) → ((n : Refusal) → o.says ≡ refuses n → o.output ≡ l.output)
      → (in_words l words o).lent.output ≡ o.output
  put_out words stays = go o.says stays
    where
      go : (v : Says A) → ((n : Refusal) → v ≡ refuses n → o.output ≡ l.output)
          → (said_in l words o.world o.output v).lent.output ≡ o.output
      go (answers a) h = refl
      go (refuses n) h = sym (h n refl)

-- sections that an accepted start reports
reported : (l : Lent) (g : Registers) (o : Outcome (Unit {0})) → ((n : Refusal) → o.says ≡ refuses n → Known 1 n)
    → ((n : Refusal) → o.says ≡ refuses n → o.output ≡ unreported)
    → (o.says ≡ done → o.output ≡ flat (sections_of g))
    → let r = start_in_words l o in pick (eqb r.number 0) (part 2 14 r.lent.answer) unreported ≡ o.output
unfolding splice part
reported l g o known stays tells = go o.says known stays tells
  where
    go : (v : Says (Unit {0})) → ((n : Refusal) → v ≡ refuses n → Known 1 n)
        → ((n : Refusal) → v ≡ refuses n → o.output ≡ unreported) → (v ≡ done → o.output ≡ flat (sections_of g))
        → let r = start_in l o.world o.output v in
        pick (eqb r.number 0) (part 2 14 r.lent.answer) unreported ≡ o.output
    go (answers u) known stays tells =
        let e = tells refl in
        ap (λ (ws : List ℕ). part 2 14 (splice l.answer 0 (start_words done ws))) e ∙ sym e
    go (refuses n) known stays tells =
        pick_second _ _ (ne_eqb n.number 0 (known n refl).some) ∙ sym (stays n refl)

-- a refusal leaves the output
output_stays : (w : World) (c : Call) (n : Refusal) → (step w c).says ≡ refuses n → (step w c).output ≡ (given c).output
output_stays w c n e = ap (λ (o : Outcome (Answer c)). o.output) ((refusals_are_exact w c).stays n e)

-- a start that is accepted reports its sections
start_reports : (w : World) (g : Registers) → (step w (Handler.start g)).says ≡ done
    → (step w (Handler.start g)).output ≡ flat (sections_of g)
start_reports w g e =
    ap (λ (o : Outcome (Unit {0})). o.output)
    (call_answers w unreported (rules g (length w.memory)) (starts w g) tt e).1

goes_nowhere : (w : World) (f : Frame) (d : List ℕ) (time : ℕ) (g : Goes) → [] ≡ (goes_to w f d time g).output
unfolding into_fifo into_buffer into_nothing
goes_nowhere w f d time (to_fifo k priority m) = refl
goes_nowhere w f d time (to_buffer b i) = refl
goes_nowhere w f d time (discarded why m) = refl

-- a call that is lent no output puts out nothing
nothing_out : (w : World) (c : Call) → (given c).output ≡ [] → (does w c).output ≡ [] → [] ≡ (step w c).output
nothing_out w c unlent e =
    step_cases w c (λ (o : Outcome (Answer c)). [] ≡ o.output) (λ a. sym unlent) (λ q. sym e)

output_told : (l : Lent) (c : FromC) (w : World) → let o = step w (call_of l.output c) in
    output_in c (step_in_words l c o) ≡ o.output
unfolding requests
output_told l (start registers) w =
    let g = unpack_registers registers in
    let c = Handler.start g in
    reported l g (step w c) (refusals_known w c) (output_stays w c) (start_reports w g)
output_told l (receive frame bytes time) w =
    let f = unpack_frame frame in
    nothing_out w (call_of l.output (receive frame bytes time)) refl
    (sym (goes_nowhere w f bytes time (destination w.state.regs w.memory f w.state.newdata)))
output_told l (read_fifo fifo place) w =
    let c = call_of l.output (read_fifo fifo place) in put_out l (step w c) read_words (output_stays w c)
output_told l (acknowledge_fifo fifo place) w = nothing_out w (call_of l.output (acknowledge_fifo fifo place)) refl refl
output_told l (read_buffer buffer) w =
    let c = call_of l.output (read_buffer buffer) in put_out l (step w c) read_words (output_stays w c)
output_told l (release_buffer buffer) w = nothing_out w (call_of l.output (release_buffer buffer)) refl refl
output_told l (request_dedicated buffer frame bytes marker wish) w =
    nothing_out w (call_of l.output (request_dedicated buffer frame bytes marker wish)) refl refl
output_told l (request_shared frame bytes marker wish) w =
    nothing_out w (call_of l.output (request_shared frame bytes marker wish)) refl refl
output_told l (cancel buffer) w = nothing_out w (call_of l.output (cancel buffer)) refl refl
output_told l (ask_choice passive) w =
    let c = call_of l.output (ask_choice passive) in put_out l (step w c) choice_words (output_stays w c)
output_told l (report_sent buffer passive time) w =
    nothing_out w (call_of l.output (report_sent buffer passive time)) refl refl
output_told l (read_event place) w = nothing_out w (call_of l.output (read_event place)) refl refl
output_told l (acknowledge_event place) w = nothing_out w (call_of l.output (acknowledge_event place)) refl refl
output_told l (clear_flags mask) w = nothing_out w (call_of l.output (clear_flags mask)) refl refl
output_told l report_status w = nothing_out w (call_of l.output report_status) refl refl

pub words_tell_the_answer : WordsTellTheAnswer
words_tell_the_answer l c =
    λ i. record { says = says_told l c (world_of l) i; output = output_told l c (world_of l) i }
