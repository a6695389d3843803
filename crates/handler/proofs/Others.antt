-- What no answer names is as it was: words of the memory, bytes of the output, parts of state and record.
-- Assumes nothing.
use Prim.Native.Nat.{ℕ, ◌+◌, ◌≤◌, ◌<◌}
use mathlib.Core.Path.{◌≡◌, refl, sym, ◌∙◌, subst}
use mathlib.Core.Bool.{Bool}
use mathlib.Core.List.{List, [], ◌∷◌}
use mathlib.Core.Logic.{◌⊎◌, inl, inr}
use native.Mathlib.Omega.{arith}
use lib.ListN.{length, get_or, get_or-eq_default}
use Rattle.words.specs.Best.{Best, nobody, somebody}
use Rattle.words.specs.Ranges.{front, OnlyIn}
use Rattle.words.specs.Rules.{allowed, first}
use Rattle.words.specs.Runs.{run, splice}
use Rattle.words.proofs.Ranges.{only_none, splice_only}
use Rattle.words.proofs.Runs.{length_run}
use Rattle.shape.proofs.Calls.{rows_both}
use Rattle.frame.specs.declared.Frame.{Frame}
use Rattle.frame.proofs.Lengths.{length_most}
use Rattle.element.specs.Bytes.{sent_from}
use Rattle.layout.specs.Sections.{sections_of}
use Rattle.places.specs.declared.Area.{Area}
use Rattle.areas.specs.Areas.{fifo_area, buffer_area}
use Rattle.engine.specs.Calls.{World, Outcome, output_bytes, output_refusals}
use Rattle.engine.specs.Flags.{raised, cleared}
use Rattle.engine.specs.declared.state.State.{State}
use Rattle.engine.proofs.Calls.{output_fits}
use Rattle.starting.specs.Starting.{unreported, flat}
use Rattle.receiving.specs.Receive.{receive_refusals, into_fifo, into_buffer, into_nothing, goes_to}
use Rattle.taking.specs.Places.{fifo_refusals, buffer_refusals}
use Rattle.requesting.specs.Requesting.{dedicated_refusals, shared_refusals, requests}
use Rattle.requesting.specs.Cancelling.{cancel_refusals}
use Rattle.choosing.specs.Choosing.{choice_refusals, choice, sent_frame, next_of, output_of, chooses}
use Rattle.reporting.specs.Reporting.{report_refusals}
use Rattle.events.specs.Events.{event_refusals}
use Rattle.overview.specs.Overview.{overview_refusals}
use Rattle.receiving.proofs.Elements.{receive_memory}
use Rattle.filter.specs.Destination.{Goes, to_fifo, to_buffer, discarded, destination}
use Rattle.taking.specs.Reading.{reads}
use Rattle.taking.specs.Releasing.{released}
use Rattle.taking.proofs.OwnElement.{reads_front}
use Rattle.requesting.proofs.Memory.{dedicated_only, shared_only}
use Rattle.choosing.proofs.Calls.{choice_open}
use Rattle.reporting.proofs.Judgements.{report_open}
use Rattle.reporting.proofs.Own.{report_only}
use Rattle.handler.specs.Calls.{Call, start, receive, read_fifo, acknowledge_fifo, read_buffer, release_buffer}
use Rattle.handler.specs.Calls.{request_dedicated, request_shared, cancel, ask_choice, report_sent, read_event}
use Rattle.handler.specs.Calls.{acknowledge_event, clear_flags, report_status, Answer, given}
use Rattle.handler.specs.Changes.{Part, events, shared, new_data, pending, sent, cancelled, flags, every_part}
use Rattle.handler.specs.Changes.{nothing, parts_only, bytes_only, by_choice, changes_of, named}
use Rattle.handler.specs.Demand1.{OthersStay, OnlyTheNamedChanges}
use Rattle.handler.specs.Rows.{rows}
use Rattle.handler.proofs.Exact.{does, step_cases}
use Rattle.handler.proofs.Parts.{Stays, stays, all_stay, fifo_parts, goes_parts, report_parts}

-- ---- outputs

front_written : (out : List ℕ) (f : ℕ → ℕ) (n : ℕ) → n ≤ length out → OnlyIn (front n) out (splice out 0 (run f 0 n))
front_written out f n h =
    subst (λ (k : ℕ). OnlyIn (front k) out (splice out 0 (run f 0 n))) (length_run f 0 n)
    (splice_only out 0 (run f 0 n) (omega (arith, length_run f 0 n)))

-- past the end of both there is nothing
past_end : (l m : List ℕ) (n k : ℕ) → length l ≤ n → length m ≤ n → (k < 0) ⊎ (0 + n ≤ k) → get_or l k 0 ≡ get_or m k 0
past_end l m n k a b (inl x) = absurd (omega arith)
past_end l m n k a b (inr x) = get_or-eq_default l 0 (omega arith) ∙ sym (get_or-eq_default m 0 (omega arith))

-- call 10
choice_front : (s : State) (mem : List ℕ) (passive : Bool) (out : List ℕ) → length out ≡ output_bytes → (b : Best)
    → OnlyIn (by_choice (next_of s mem passive b)).output out (output_of s mem passive out b)
unfolding sent_from
choice_front s mem passive out e nobody = only_none (front 0) out
choice_front s mem passive out e (somebody b) =
    let f = sent_frame s mem passive b in
    front_written out _ _ (omega (arith, length_most f.rtr f.fdf f.dlc))

-- call 2 is lent none
no_output : (w : World) (f : Frame) (d : List ℕ) (time : ℕ) (g : Goes)
    → OnlyIn (front 0) [] (goes_to w f d time g).output
unfolding into_fifo into_buffer into_nothing
no_output w f d time (to_fifo fifo on m) = only_none (front 0) []
no_output w f d time (to_buffer buffer i) = only_none (front 0) []
no_output w f d time (discarded why m) = only_none (front 0) []

-- ---- every call

nothing_changes : (w : World) (out : List ℕ) → OthersStay w out w out nothing
nothing_changes w out = record { memory = only_none _ _; output = only_none _ _; parts = all_stay w }

-- the memory as it was, and no output
parts_change : (ps : List Part) (w v : World) → v.memory ≡ w.memory → Stays ps w v
    → OthersStay w [] v [] (parts_only ps)
parts_change ps w v e h = record { memory = rw e (only_none _ _); output = only_none _ _; parts = h }

-- the output alone
output_changes : (n : ℕ) (w : World) (out last : List ℕ) → OnlyIn (front n) out last
    → OthersStay w out w last (bytes_only n)
output_changes n w out last h = record { memory = only_none _ _; output = h; parts = all_stay w }

choice_others : (s : State) (mem : List ℕ) (passive : Bool) (out : List ℕ) → length out ≡ output_bytes
    → (b : Best) (w : World)
    → OthersStay w out w (output_of s mem passive out b) (by_choice (next_of s mem passive b))
choice_others s mem passive out e nobody w = nothing_changes w out
choice_others s mem passive out e (somebody b) w =
    output_changes _ w out _ (choice_front s mem passive out e (somebody b))

-- a read
read_others : (w : World) (a : Area) (place : ℕ) (out : List ℕ) → length out ≡ output_bytes
    → let d = reads w a place out in OthersStay w out d.world d.output (bytes_only d.answer.count)
unfolding reads
read_others w a place out e = output_changes _ w out _ (reads_front w a place out e)

others : (w : World) (c : Call) → first (rows w c) ≡ allowed
    → let d = does w c in OthersStay w (given c).output d.world d.output (changes_of w c d.answer)
unfolding rows output_refusals fifo_refusals buffer_refusals receive_refusals dedicated_refusals shared_refusals
    cancel_refusals choice_refusals report_refusals event_refusals overview_refusals
    released cleared raised chooses requests
others w (start g) e = record {
  memory = only_none _ _;
  output =
      record {
        size = refl;
        outside = λ k c. past_end (flat (sections_of g)) unreported 14 k (omega arith) (omega arith) c;
      };
  parts = stays every_part _ w refl (λ h. cc) (λ h. cc);
}
others w (receive f d time) e = record {
  memory = receive_memory w f d time e;
  output = no_output w f d time (destination w.state.regs w.memory f w.state.newdata);
  parts = goes_parts w f d time (destination w.state.regs w.memory f w.state.newdata);
}
others w (read_fifo fifo place out) e =
    read_others w (fifo_area w.state.regs fifo) place out
    (output_fits (length out) (rows_both (fifo_refusals w fifo place) (output_refusals (length out)) e).1)
others w (acknowledge_fifo fifo place) e = parts_change _ w _ refl (fifo_parts w fifo _)
others w (read_buffer buffer out) e =
    read_others w (buffer_area w.state.regs) buffer out
    (output_fits (length out) (rows_both (buffer_refusals w buffer) (output_refusals (length out)) e).1)
others w (release_buffer buffer) e = parts_change _ w _ refl (stays (new_data ∷ []) _ w refl (λ h. refl) (λ h. refl))
others w (request_dedicated buffer h d) e = record {
  memory = dedicated_only w buffer h d e;
  output = only_none _ _;
  parts = stays (pending ∷ sent ∷ cancelled ∷ []) _ w refl (λ x. refl) (λ x. refl);
}
others w (request_shared h d) e = record {
  memory = shared_only w h d e;
  output = only_none _ _;
  parts = stays (pending ∷ sent ∷ cancelled ∷ shared ∷ []) _ w refl (λ x. refl) (λ x. refl);
}
others w (cancel buffer) e =
    parts_change _ w _ refl (stays (pending ∷ cancelled ∷ flags ∷ []) _ w refl (λ x. cc) (λ x. refl))
others w (ask_choice passive out) e =
    choice_others w.state w.memory passive out (choice_open w out e).room (choice w.state w.memory) w
others w (report_sent buffer passive time) e = record {
  memory = report_only w buffer passive time (report_open w buffer e).sound;
  output = only_none _ _;
  parts = report_parts w buffer passive time;
}
others w (read_event place) e = nothing_changes w []
others w (acknowledge_event place) e = parts_change _ w _ refl (stays (events ∷ []) _ w refl (λ x. refl) (λ x. refl))
others w (clear_flags mask) e = parts_change _ w _ refl (stays (flags ∷ []) _ w refl (λ x. cc) (λ x. refl))
others w report_status e = nothing_changes w []

pub only_the_named_changes : OnlyTheNamedChanges
only_the_named_changes w c =
    step_cases w c
    (λ (o : Outcome (Answer c)). OthersStay w (given c).output o.world o.output (named w c o.says))
    (λ n. nothing_changes w (given c).output) (others w c)
