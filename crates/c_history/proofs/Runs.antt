-- Calls from C, one after the other, are steps, one after the other.
-- Assumes nothing.
use Rattle.std.proofs.Common.{ℕ, ◌<◌, ◌≡◌, refl, sym, ap, subst, ◌∙◌, Bool, true, false, ◌||◌, List, [], ◌∷◌, arith}
use Rattle.std.proofs.Common.{ne_eqb, eqb}
use Rattle.words.specs.Choice.{pick}
use Rattle.words.proofs.Choices.{pick_second}
use Rattle.shape.specs.Calls.{Says, refuses, answers}
use Rattle.shape.specs.Histories.{Told, told, trace, after}
use Rattle.shape.specs.Refusals.{Refusal}
use Rattle.engine.specs.Calls.{World, world, Outcome}
use Rattle.books.specs.Lists.{tally, Each}
use Rattle.handler.specs.Calls.{Call, Answer, step}
use Rattle.handler.proofs.Exact.{refusals_are_exact}
use Rattle.history.specs.Demand3.{InTypes, Made, is_started}
use Rattle.history.proofs.Vanishing.{nothing_vanishes}
use Rattle.c_words.specs.States.{unpack_state, pack_state, unpack_record, pack_record}
use Rattle.c_words.proofs.Inverse.{values_come_back}
use Rattle.c_entering.specs.Entering.{Lent, Returned, world_of, said_in, in_words}
use Rattle.c_entering.specs.EngineCalls.{start_in, start_in_words}
use Rattle.c_calls.specs.Exported.{FromC, exported, start, receive, read_fifo, acknowledge_fifo, read_buffer, release_buffer}
use Rattle.c_calls.specs.Exported.{request_dedicated, request_shared, cancel, ask_choice, report_sent, read_event}
use Rattle.c_calls.specs.Exported.{acknowledge_event, clear_flags, report_status}
use Rattle.c_history.specs.Steps.{call_of, step_in_words, told_in}
use Rattle.c_history.specs.Runs.{Lending, lent_to, gets, turned_away, calls_of}
use Rattle.c_history.specs.Promises.{CallsFromCAreARun, NothingVanishesFromC}
use Rattle.c_history.proofs.Entry.{entry_cases}
use Rattle.c_history.proofs.Steps.{words_tell_the_answer}

-- ---- the world that stands in the words after a call

-- a refusal leaves the world
abbrev Stays : {A : Type 0} → World → Outcome A → Type 0
Stays w o = (n : Refusal) → o.says ≡ refuses n → o.world ≡ w

-- a world comes back from its words
come_back : (w : World) → world (unpack_state (pack_state w.state)) (unpack_record (pack_record w.recorded)) w.memory ≡ w
come_back w = λ i. world (values_come_back.state w.state i) (values_come_back.recorded w.recorded i) w.memory

module _ (l : Lent) where
  said_world : {A : Type 0} (words : A → List ℕ) (o : Outcome A) → Stays (world_of l) o
      → world_of (in_words l words o).lent ≡ o.world
  said_world {A} words o stays = go o.says stays
    where
      go : (v : Says A) → ((n : Refusal) → v ≡ refuses n → o.world ≡ world_of l)
          → world_of (said_in l words o.world o.output v).lent ≡ o.world
      go (answers a) h = come_back o.world
      go (refuses n) h = sym (h n refl)

  started_world : (o : Outcome (Unit {0})) → Stays (world_of l) o → world_of (start_in_words l o).lent ≡ o.world
  started_world o stays = go o.says stays
    where
      go : (v : Says (Unit {0})) → ((n : Refusal) → v ≡ refuses n → o.world ≡ world_of l)
          → world_of (start_in l o.world o.output v).lent ≡ o.world
      go (answers u) h = come_back o.world
      go (refuses n) h = sym (h n refl)

  step_world : (c : FromC) (o : Outcome (Answer (call_of l.output c))) → Stays (world_of l) o
      → world_of (step_in_words l c o).lent ≡ o.world
  step_world (start registers) o h = started_world o h
  step_world (receive frame bytes time) o h = said_world _ o h
  step_world (read_fifo fifo place) o h = said_world _ o h
  step_world (acknowledge_fifo fifo place) o h = said_world _ o h
  step_world (read_buffer buffer) o h = said_world _ o h
  step_world (release_buffer buffer) o h = said_world _ o h
  step_world (request_dedicated buffer frame bytes marker wish) o h = said_world _ o h
  step_world (request_shared frame bytes marker wish) o h = said_world _ o h
  step_world (cancel buffer) o h = said_world _ o h
  step_world (ask_choice passive) o h = said_world _ o h
  step_world (report_sent buffer passive time) o h = said_world _ o h
  step_world (read_event place) o h = said_world _ o h
  step_world (acknowledge_event place) o h = said_world _ o h
  step_world (clear_flags mask) o h = said_world _ o h
  step_world report_status o h = said_world _ o h

-- ---- 100 and 101 leave the words; else it is the step

pub record Next (l : Lent) (c : FromC) (r : Returned) : Type 0 where
  pub world : world_of r.lent
      ≡ pick (turned_away r) (world_of l) (step (world_of l) (call_of l.output c)).world
  pub told : turned_away r ≡ false
      → told_in l.output c r ≡ told (step (world_of l) (call_of l.output c))

let_through : (n : ℕ) → n < 100 → (eqb n 100 || eqb n 101) ≡ false
let_through n h = rw (ne_eqb n 100 (λ e. omega arith), ne_eqb n 101 (λ e. omega arith))

next : (l : Lent) (c : FromC) → Next l c (exported l c)
next l c =
    let call = call_of l.output c in
    let o = step (world_of l) call in
    let stays : Stays (world_of l) o =
    λ n e. ap (λ (p : Outcome (Answer call)). p.world) ((refusals_are_exact (world_of l) call).stays n e) in
    entry_cases l c (Next l c)
    (λ e. record { world = refl; told = λ q. absurd cc })
    (λ e f. record { world = refl; told = λ q. absurd cc })
    (λ e f r same small. record {
      world =
          ap (λ (x : Returned). world_of x.lent) same ∙ step_world l c o stays
          ∙ sym (pick_second (world_of l) o.world (let_through r.number small));
      told = λ q. ap (told_in l.output c) same ∙ words_tell_the_answer l c;
    })

-- ---- one after the other

module _ (w : World) (c : Call) where
  after_one : (b : Bool) (cs : List Call)
      → after step (pick b w (step w c).world) cs ≡ after step w (pick b cs (c ∷ cs))
  after_one true cs = refl
  after_one false cs = refl

  trace_one : (b : Bool) (t : Told (Answer c)) (cs : List Call) → (b ≡ false → t ≡ told (step w c))
      → pick b (trace step (pick b w (step w c).world) cs) ((c, t) ∷ trace step (pick b w (step w c).world) cs)
      ≡ trace step w (pick b cs (c ∷ cs))
  trace_one true t cs h = refl
  trace_one false t cs h =
      ap (λ (x : Told (Answer c)). noted x) (h refl)
    where
      noted : Told (Answer c) → List Made
      noted x = (c, x) ∷ trace step (step w c).world cs

pub calls_from_c_are_a_run : CallsFromCAreARun
calls_from_c_are_a_run box [] = record { world = refl; history = refl }
calls_from_c_are_a_run box (m ∷ ms) =
    let r = gets box m in
    let rest = calls_of r.lent ms in
    let call = call_of m.output m.call in
    let t = told_in m.output m.call r in
    let away = turned_away r in
    let ih = calls_from_c_are_a_run r.lent ms in
    let one = next (lent_to box m) m.call in
    record {
      world =
          ih.world ∙ ap (λ (w : World). after step w rest) one.world ∙ after_one (world_of box) call away rest;
      history =
          ap (λ (ts : List Made). pick away ts ((call, t) ∷ ts))
          (ih.history ∙ ap (λ (w : World). trace step w rest) one.world)
          ∙ trace_one (world_of box) call away t rest one.told;
    }

each_one : (b : Bool) (c : Call) (cs : List Call) → InTypes c → Each InTypes cs → Each InTypes (pick b cs (c ∷ cs))
each_one true c cs h hs = hs
each_one false c cs h hs = (h, hs)

typed_calls : (box : Lent) (ms : List Lending) → Each (λ (m : Lending). InTypes (call_of m.output m.call)) ms
    → Each InTypes (calls_of box ms)
typed_calls box [] h = tt
typed_calls box (m ∷ ms) h =
    each_one (turned_away (gets box m)) (call_of m.output m.call) (calls_of (gets box m).lent ms) h.0
    (typed_calls (gets box m).lent ms h.1)

pub nothing_vanishes_from_c : NothingVanishesFromC
nothing_vanishes_from_c box ms typed some =
    nothing_vanishes (world_of box) (calls_of box ms) (typed_calls box ms typed)
    (subst (λ (ts : List Made). 0 < tally is_started ts) (calls_from_c_are_a_run box ms).history some)
