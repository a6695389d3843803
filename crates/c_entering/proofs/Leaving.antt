-- A call from C that returns another number than 0 leaves all that was lent.
-- Assumes nothing.
use Rattle.std.proofs.Common.{ℕ, ◌+◌, ◌≡◌, refl, ap, ◌∙◌, Bool, true, false, ◌&&◌, List, length, drop, replicate}
use Rattle.std.proofs.Common.{inl, arith}
use Rattle.std.proofs.lemmas.Slice.{drop-append-drop}
use Rattle.words.specs.Choice.{pick}
use Rattle.words.specs.Rules.{Ruling, allowed, refused, settle}
use Rattle.words.specs.Runs.{splice}
use Rattle.shape.specs.Calls.{Says, refuses, answers}
use Rattle.engine.specs.Calls.{World}
use Rattle.engine.specs.Fitness.{unfit}
use Rattle.engine.specs.States.{never_started}
use Rattle.engine.specs.declared.state.State.{State}
use Rattle.engine.proofs.Fits.{wrong_length_is_unfit, never_started_is_unfit}
use Rattle.starting.specs.Starting.{start}
use Rattle.c_words.specs.States.{register_words, state_words, plain_registers, unpack_registers, unpack_state, pack_state}
use Rattle.c_words.proofs.Inverse.{values_come_back}
use Rattle.c_entering.specs.Entering.{Lent, lent, Returned, returned, has, entry_ruling, sized, world_of}
use Rattle.c_entering.specs.Entering.{said_in, in_words}
use Rattle.c_entering.specs.EngineCalls.{start_in, start_in_words}
use Rattle.c_entering.specs.Promises.{Leaves, LeavesButNames}
use Rattle.c_entering.specs.Promises.{RefusalsLeaveAll, NeverStartedLeavesAll, StartLeavesAll, RestOfAnswerStays}
use Rattle.c_entering.specs.Promises.{NeverStartedIsUnfitInWords, ZeroedIsUnfitInWords}

module _ (l : Lent) where
  -- 100 and 101 do, and else the call decides
  shut : (P : Returned → Type 0) → ((n : ℕ) → P (returned n l)) → (v : Ruling ℕ) (r : Returned) → P r
      → P (settle v r (λ n. returned n l))
  shut P away allowed r h = h
  shut P away (refused n) r h = away n

  said : {A : Type 0} (told : A → List ℕ) (w : World) (out : List ℕ) (says : Says A)
      → Leaves l (said_in l told w out says)
  said told w out (refuses n) f = refl
  said told w out (answers a) f = absurd (f refl)

  started : (w : World) (sections : List ℕ) (says : Says (Unit {0})) → LeavesButNames l (start_in l w sections says)
  unfolding splice
  started w sections (refuses n) f = (refl, refl)
  started w sections (answers u) f = absurd (f refl)

  written : (b : Bool) (r : Returned) → r.number ≡ 0 → Leaves l (pick b r (returned 100 l))
  written true r z f = absurd (f z)
  written false r z f = refl

pub refusals_leave_all : RefusalsLeaveAll
refusals_leave_all A l lengths words told o =
    shut l (Leaves l) (λ n f. refl)
    (entry_ruling (sized l.state l.recorded && lengths) (plain_registers l.state && words)) (in_words l told o)
    (said l told o.world o.output o.says)

pub never_started_leaves_all : NeverStartedLeavesAll
never_started_leaves_all l = written l (has l.state state_words) _ refl

pub start_leaves_all : StartLeavesAll
start_leaves_all l registers =
    let o = start (world_of l) (unpack_registers registers) in
    let lengths = sized l.state l.recorded && (has registers register_words && has l.answer 16) in
    shut l (LeavesButNames l) (λ n f. (refl, refl)) (entry_ruling lengths (plain_registers registers)) (start_in_words l o)
    (started l o.world o.output o.says)

-- ---- the words past an answer

past_told : (l ws : List ℕ) → drop (length ws) (splice l 0 ws) ≡ drop (length ws) l
unfolding splice
past_told l ws = drop-append-drop (0 + length ws) l ws (length ws) (omega arith) (omega arith)

pub rest_of_answer_stays : RestOfAnswerStays
rest_of_answer_stays A l told o a e =
    ap (λ (s : Says A). drop (length (told a)) (said_in l told o.world o.output s).lent.answer) e
    ∙ past_told l.answer (told a)

-- ---- a state that was never started

pub never_started_is_unfit_in_words : NeverStartedIsUnfitInWords
never_started_is_unfit_in_words l e r words = go (has l.state state_words) e
  where
    go : (b : Bool) → let made = returned 0 (lent (pack_state never_started) l.recorded l.memory l.answer l.output) in
        (pick b made (returned 100 l)).number ≡ 0
        → unfit (unpack_state (pick b made (returned 100 l)).lent.state) r words ≡ true
    go true e = ap (λ (s : State). unfit s r words) (values_come_back.state never_started) ∙ never_started_is_unfit r words
    go false e = absurd (omega arith)

pub zeroed_is_unfit_in_words : ZeroedIsUnfitInWords
unfolding unpack_state
zeroed_is_unfit_in_words r words = wrong_length_is_unfit (unpack_state (replicate state_words 0)) r words (inl refl)
