-- 100 and 101 are returned exactly where the facts say so: a step's number is below 100.
-- Assumes nothing.
use Rattle.std.proofs.Common.{ℕ, ◌<◌, ◌≡◌, refl, sym, subst, Bool, true, false, not, List, [], ◌∷◌, arith}
use Rattle.words.specs.Rules.{refuse_if, first, settle}
use Rattle.shape.specs.Calls.{Says, refuses, answers}
use Rattle.shape.specs.Refusals.{Refusal}
use Rattle.engine.specs.Calls.{Outcome}
use Rattle.handler.specs.Calls.{Answer, step}
use Rattle.c_entering.specs.Entering.{Lent, Returned, returned, world_of, said_in, in_words}
use Rattle.c_entering.specs.EngineCalls.{start_in, start_in_words}
use Rattle.c_calls.specs.Exported.{FromC, exported, start, receive, read_fifo, acknowledge_fifo, read_buffer}
use Rattle.c_calls.specs.Exported.{release_buffer, request_dedicated, request_shared, cancel, ask_choice, report_sent}
use Rattle.c_calls.specs.Exported.{read_event, acknowledge_event, clear_flags, report_status}
use Rattle.c_history.specs.Steps.{call_of, buffers_of, yes_nos, have_lengths, say_yes_or_no, step_in_words}
use Rattle.c_history.specs.Promises.{RightLengths, YesOrNo, TurnedAwayExactly, EntryIsExact}
use Rattle.c_history.proofs.Refusals.{refusals_known}
use Rattle.c_history.proofs.Steps.{exported_is_step}
use Rattle.c_history.proofs.Tables.{every_each, each_every, length_has, has_length, yes_below, below_yes}

-- ---- the number of a step

abbrev Small : {A : Type 0} → Says A → Type 0
Small s = (n : Refusal) → s ≡ refuses n → n.number < 100

said_small : {A : Type 0} (l : Lent) (words : A → List ℕ) (o : Outcome A) → Small o.says
    → (in_words l words o).number < 100
said_small {A} l words o h = go o.says h
  where
    go : (v : Says A) → Small v → (said_in l words o.world o.output v).number < 100
    go (answers a) h = omega arith
    go (refuses n) h = h n refl

started_small : (l : Lent) (o : Outcome (Unit {0})) → Small o.says → (start_in_words l o).number < 100
started_small l o h = go o.says h
  where
    go : (v : Says (Unit {0})) → Small v → (start_in l o.world o.output v).number < 100
    go (answers u) h = omega arith
    go (refuses n) h = h n refl

step_small : (l : Lent) (c : FromC) (o : Outcome (Answer (call_of l.output c))) → Small o.says
    → (step_in_words l c o).number < 100
step_small l (start registers) o h = started_small l o h
step_small l (receive frame bytes time) o h = said_small l _ o h
step_small l (read_fifo fifo place) o h = said_small l _ o h
step_small l (acknowledge_fifo fifo place) o h = said_small l _ o h
step_small l (read_buffer buffer) o h = said_small l _ o h
step_small l (release_buffer buffer) o h = said_small l _ o h
step_small l (request_dedicated buffer frame bytes marker wish) o h = said_small l _ o h
step_small l (request_shared frame bytes marker wish) o h = said_small l _ o h
step_small l (cancel buffer) o h = said_small l _ o h
step_small l (ask_choice passive) o h = said_small l _ o h
step_small l (report_sent buffer passive time) o h = said_small l _ o h
step_small l (read_event place) o h = said_small l _ o h
step_small l (acknowledge_event place) o h = said_small l _ o h
step_small l (clear_flags mask) o h = said_small l _ o h
step_small l report_status o h = said_small l _ o h

-- ---- the three ways

-- what is shown of each way is shown of the call
pub entry_cases : (l : Lent) (c : FromC) (P : Returned → Type 0)
    → (have_lengths l c ≡ false → P (returned 100 l))
    → (have_lengths l c ≡ true → say_yes_or_no l c ≡ false → P (returned 101 l))
    → (have_lengths l c ≡ true → say_yes_or_no l c ≡ true
    → (r : Returned) → r ≡ step_in_words l c (step (world_of l) (call_of l.output c)) → r.number < 100 → P r)
    → P (exported l c)
entry_cases l c P long neither through =
    let call = call_of l.output c in
    let o = step (world_of l) call in
    let r = step_in_words l c o in
    let small = step_small l c o (λ n e. (refusals_known (world_of l) call n e).small) in
    subst P (sym (exported_is_step l c)) (go (have_lengths l c) (say_yes_or_no l c) refl refl r refl small)
  where
    go : (h y : Bool) → have_lengths l c ≡ h → say_yes_or_no l c ≡ y → (r : Returned)
        → r ≡ step_in_words l c (step (world_of l) (call_of l.output c)) → r.number < 100
        → P (settle (first (refuse_if (not h) 100 ∷ refuse_if (not y) 101 ∷ [])) r (λ (n : ℕ). returned n l))
    go false y e f r q s = long e
    go true false e f r q s = neither e f
    go true true e f r q s = through e f r q s

module _ (l : Lent) (c : FromC) where
  all_right : have_lengths l c ≡ true → RightLengths l c
  all_right e = every_each _ _ length_has (buffers_of l c) e

  right_all : RightLengths l c → have_lengths l c ≡ true
  right_all h = each_every _ _ has_length (buffers_of l c) h

  all_say : say_yes_or_no l c ≡ true → YesOrNo l c
  all_say e = every_each _ _ yes_below (yes_nos l.state c) e

  say_all : YesOrNo l c → say_yes_or_no l c ≡ true
  say_all h = each_every _ _ below_yes (yes_nos l.state c) h

  clash : {b : Bool} → b ≡ true → b ≡ false → ⊥
  clash e f = cc

  entry_is_exact : TurnedAwayExactly l c
  entry_is_exact = record {
    lengths = (
      entry_cases l c (λ (r : Returned). r.number ≡ 100 → RightLengths l c → ⊥)
          (λ e q h. clash (right_all h) e)
          (λ e f q h. omega arith)
          (λ e f r q s z h. omega arith),
      λ wrong. entry_cases l c (λ (r : Returned). r.number ≡ 100)
          (λ e. refl)
          (λ e f. absurd (wrong (all_right e)))
          (λ e f r q s. absurd (wrong (all_right e))),
    );
    words = (
      entry_cases l c (λ (r : Returned). r.number ≡ 101 → RightLengths l c × (YesOrNo l c → ⊥))
          (λ e q. absurd (omega arith))
          (λ e f q. (all_right e, λ h. clash (say_all h) f))
          (λ e f r q s z. absurd (omega arith)),
      λ p. entry_cases l c (λ (r : Returned). r.number ≡ 101)
          (λ e. absurd (clash (right_all p.0) e))
          (λ e f. refl)
          (λ e f r q s. absurd (p.1 (all_say f))),
    );
  }

pub entries_are_exact : EntryIsExact
entries_are_exact = entry_is_exact
