-- No second outcome meets a contract: no two that a function leaves mean the same.
-- Assumes nothing.
use Rattle.std.proofs.Common.{ℕ, Result, Ok, Err}
use mathlib.Core.Path.{◌≡◌, refl, sym, ap, ◌∙◌}
use mathlib.Core.List.{List, [], ◌∷◌}
use Rattle.shape.specs.Calls.{Says, refuses, answers, outcome, settles}
use Rattle.shape.proofs.Calls.{made_again}
use Rattle.registers.specs.declared.Registers.{Registers}
use Rattle.element.specs.declared.EventHeader.{EventHeader}
use Rattle.element.specs.declared.RxRead.{RxRead}
use Rattle.layout.specs.declared.sections.Section.{Section}
use Rattle.layout.specs.declared.check.LayoutRefusal.{LayoutRefusal}
use Rattle.layout.proofs.OneAnswer.{refusal, refusal_back as layout_back}
use Rattle.engine.specs.Answers.{saying, replied, left}
use Rattle.engine.specs.Calls.{World, world, with_state, Outcome}
use Rattle.engine.specs.declared.refusals.Refusal.{Refusal}
use Rattle.engine.specs.declared.state.State.{State}
use Rattle.engine.specs.declared.state.After.{After}
use Rattle.engine.proofs.Replies.{refusal_of, refusal_back, answer_of, answer_back, made_of, made_back}
use Rattle.starting.specs.Starting.{flat}
use Rattle.starting.specs.declared.Started.{Started}
use Rattle.receiving.specs.Receive.{Fate}
use Rattle.receiving.proofs.Answers.{received_of, received_back}
use Rattle.requesting.specs.declared.requesting.AfterRequest.{AfterRequest}
use Rattle.choosing.specs.Choosing.{Next}
use Rattle.choosing.proofs.Answers.{choice_of, choice_back}
use Rattle.overview.specs.declared.Overview.{Overview as Told}
use Rattle.handler.specs.Calls.{Call, start, receive, read_fifo, acknowledge_fifo, read_buffer, release_buffer}
use Rattle.handler.specs.Calls.{request_dedicated, request_shared, cancel, ask_choice, report_sent, read_event}
use Rattle.handler.specs.Calls.{acknowledge_event, clear_flags, report_status}
use Rattle.handler.specs.Claims.{Left, meaning, OneOutcome}

-- ---- call 1

unflat : List ℕ → List Section
unflat [] = []
unflat (a ∷ []) = []
unflat (a ∷ b ∷ l) = record { start = record { 0 = a }; words = b } ∷ unflat l

flat_again : (ss : List Section) → unflat (flat ss) ≡ ss
unfolding unflat
flat_again [] = refl
flat_again (s ∷ ss) = ap (λ (l : List Section). s ∷ l) (flat_again ss)

-- what a start left, from what it says and its outcome
started : World → List ℕ → Says (Unit {0}) → Result Started LayoutRefusal
started w out (answers u) = Ok (record { sections = unflat out; state = w.state; recorded = w.recorded })
started w out (refuses n) = Err (refusal n)

start_back : (w : World) (g : Registers) (l : Left (start g))
    → (let o = meaning w (start g) l in started o.world o.output o.says) ≡ l
unfolding started
start_back w g (Ok a) =
    ap (λ (ss : List Section). Ok (record { sections = ss; state = a.state; recorded = a.recorded }))
    (flat_again a.sections)
start_back w g (Err n) = ap Err (layout_back n)

-- ---- the other calls

-- what a call left, with what it was lent to be changed
beside : {A : Type 0} {r s : A} (m : List ℕ) → r ≡ s → ◌≡◌ {A = A × List ℕ} (r, m) (s, m)
beside {A = A} m e = ap (λ (x : A). (x, m)) e

-- what a request left, and what a cancel or a report did, from what they say and the world after them
requested_of : Says ℕ → State → Result AfterRequest Refusal
requested_of (answers buffer) s = Ok (record { buffer = buffer; state = s })
requested_of (refuses n) s = Err (refusal_of n.number)

requested_back : (s : State) (r : Result AfterRequest Refusal)
    → requested_of (saying (λ a. a.buffer) r) (left (λ a. a.state) s r) ≡ r
unfolding requested_of
requested_back s (Ok a) = refl
requested_back s (Err n) = ap Err (refusal_back n)

after_of : Says (Unit {0}) → World → Result After Refusal
after_of says v = made_of says (record { state = v.state; recorded = v.recorded })

after_back : (w : World) (mem : List ℕ) (r : Result After Refusal)
    → after_of (replied r) (world (left (λ a. a.state) w.state r) (left (λ a. a.recorded) w.recorded r) mem) ≡ r
unfolding after_of
after_back w mem (Ok a) = refl
after_back w mem (Err n) = ap Err (refusal_back n)

module _ (w : World) where
  one_read : (a b : Result RxRead Refusal × List ℕ)
      → outcome (saying (λ h. h) a.0) w a.1 ≡ outcome (saying (λ h. h) b.0) w b.1 → a ≡ b
  one_read =
      made_again _ (λ (o : Outcome RxRead). (answer_of o.says, o.output)) (λ l. beside l.1 (answer_back l.0))

  abbrev next : Result State Refusal → World
  next r = with_state w (left (λ n. n) w.state r)

  one_next : (a b : Result State Refusal) → settles (replied a) (next a) ≡ settles (replied b) (next b) → a ≡ b
  one_next = made_again _ (λ (o : Outcome (Unit {0})). made_of o.says o.world.state) (made_back w.state)

  abbrev request : Result AfterRequest Refusal → List ℕ → World
  request r m = world (left (λ a. a.state) w.state r) w.recorded m

  one_request : (a b : Result AfterRequest Refusal × List ℕ)
      → settles (saying (λ r. r.buffer) a.0) (request a.0 a.1) ≡ settles (saying (λ r. r.buffer) b.0) (request b.0 b.1)
      → a ≡ b
  one_request =
      made_again _ (λ (o : Outcome ℕ). (requested_of o.says o.world.state, o.world.memory))
      (λ l. beside l.1 (requested_back w.state l.0))

  one_left : (c : Call) (a b : Left c) → meaning w c a ≡ meaning w c b → a ≡ b
  one_left (start g) = made_again _ (λ (o : Outcome (Unit {0})). started o.world o.output o.says) (start_back w g)
  one_left (receive f d time) =
      made_again _
      (λ (o : Outcome Fate). (received_of o.says o.world.state o.world.recorded, o.world.memory))
      (λ l. beside l.1 (received_back w.state w.recorded l.0))
  one_left (read_fifo fifo place out) = one_read
  one_left (acknowledge_fifo fifo place) = one_next
  one_left (read_buffer buffer out) = one_read
  one_left (release_buffer buffer) = one_next
  one_left (request_dedicated buffer h d) = one_request
  one_left (request_shared h d) = one_request
  one_left (cancel buffer) =
      made_again _ (λ (o : Outcome (Unit {0})). after_of o.says o.world) (after_back w w.memory)
  one_left (ask_choice passive out) =
      made_again _ (λ (o : Outcome Next). (choice_of o.says, o.output)) (λ l. beside l.1 (choice_back l.0))
  one_left (report_sent buffer passive time) =
      made_again _ (λ (o : Outcome (Unit {0})). (after_of o.says o.world, o.world.memory))
      (λ l. beside l.1 (after_back w l.1 l.0))
  one_left (read_event place) = made_again _ (λ (o : Outcome EventHeader). answer_of o.says) answer_back
  one_left (acknowledge_event place) = one_next
  one_left (clear_flags mask) =
      made_again _ (λ (o : Outcome (Unit {0})). made_of o.says o.world.recorded) (made_back w.recorded)
  one_left report_status = made_again _ (λ (o : Outcome Told). answer_of o.says) answer_back

pub one_outcome : OneOutcome
one_outcome w c a b x y = one_left w c a b (x ∙ sym y)
