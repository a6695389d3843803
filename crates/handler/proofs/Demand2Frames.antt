-- Demand 2, received frames: which element is named, where the frame goes and what becomes of it.
-- Assumes nothing.
use Rattle.std.proofs.Common.{Option, Some, None}
use Prim.Native.Nat.{ℕ}
use mathlib.Core.Path.{◌≡◌, refl, sym, ap, subst, ◌∙◌}
use mathlib.Core.Bool.{Bool, true, false}
use mathlib.Core.List.{List, []}
use mathlib.Core.Logic.{◌⊎◌, inl, inr}
use borrow.Author.Tests.{ltb-true, ltb-false}
use native.Mathlib.Omega.{arith}
use lib.Dec.{ltb}
use lib.ListN.{length}
use Rattle.shape.specs.Calls.{answers}
use Rattle.shape.proofs.Calls.{call_answers}
use Rattle.places.specs.Slots.{take_rule}
use Rattle.registers.specs.Fields.{fifo_size, overwrites}
use Rattle.frame.specs.declared.Frame.{Frame}
use Rattle.filter.specs.Destination.{Goes, to_fifo, to_buffer, discarded, unmatched, rx_buffer, by_action, by_search}
use Rattle.filter.specs.Destination.{destination}
use Rattle.filter.specs.Promises.{FirstIs, NoneMatches}
use Rattle.filter.specs.Search.{filter_at, first_match}
use Rattle.filter.proofs.ActionByAction.{destination_is_by_action}
use Rattle.filter.proofs.FirstMatches.{search_first, first_searched, search_none, none_searched}
use Rattle.filter.proofs.TypeByType.{match_is_by_type}
use Rattle.engine.specs.Calls.{World, Outcome}
use Rattle.engine.specs.Keeping.{keep_rule}
use Rattle.engine.specs.States.{fifo_ring}
use Rattle.engine.specs.declared.state.State.{State}
use Rattle.engine.proofs.Keeps.{kept_slot}
use Rattle.receiving.specs.Fifos.{keeper_of}
use Rattle.receiving.specs.Receive.{Fate, slot_says, receive_refusals, into_fifo, into_buffer, into_nothing, goes_to}
use Rattle.receiving.specs.Receive.{receives}
use Rattle.handler.specs.Calls.{receive, step}
use Rattle.handler.specs.Demand2.{out_at_once, list_for, match_in, FifoTakes, Becomes, Filtered}

-- where a frame goes
abbrev goes_of : World → Frame → Goes
goes_of w f = destination w.state.regs w.memory f w.state.newdata

-- an answer is that of the destination
accepted_goes : (w : World) (f : Frame) (d : List ℕ) (time : ℕ) (fate : Fate)
    → (step w (receive f d time)).says ≡ answers fate → fate ≡ (goes_to w f d time (goes_of w f)).answer
accepted_goes w f d time fate e =
    let p = call_answers w [] (receive_refusals w f (length d)) (receives w f d time) fate e in
    let q : answers fate ≡ answers (receives w f d time).answer = sym e ∙ ap (λ (o : Outcome Fate). o.says) p.1 in
    cc

-- ---- what a FIFO does

fifo_takes : (s : State) (k : ℕ) (m : Option ℕ) (fate : Fate)
    → fate ≡ slot_says k m (take_rule (fifo_size s.regs k) (overwrites s.regs k) (fifo_ring s k)).slot
    → FifoTakes s k m fate
unfolding take_rule
fifo_takes s k m fate same = record {
  room = λ l. grind arith;
  absent = λ z. grind arith;
  blocking = λ l z o. grind arith;
  overwriting = λ l z o. grind arith;
}

-- ---- what becomes of the frame, and by which element

-- the element by which a frame goes
abbrev goes_by : Goes → Option ℕ
goes_by (to_fifo k priority m) = m
goes_by (to_buffer b i) = Some i
goes_by (discarded why m) = m

module _ (w : World) (f : Frame) (d : List ℕ) (time : ℕ) (fate : Fate) where
  goes_becomes : (g : Goes) → fate ≡ (goes_to w f d time g).answer → Becomes w.state g fate
  unfolding into_fifo into_buffer into_nothing
  goes_becomes (to_fifo k priority m) e =
      fifo_takes w.state k m fate
      (e ∙ ap (slot_says k m) (kept_slot (keeper_of w.state.regs k) (fifo_ring w.state k) w.recorded))
  goes_becomes (to_buffer b i) e = e
  goes_becomes (discarded why m) e = e

  -- the element that the answer names is the destination's
  slot_match : (k : ℕ) (m : Option ℕ) (x : Option ℕ) → match_in (slot_says k m x) ≡ m
  slot_match k m (Some p) = refl
  slot_match k m None = refl

  goes_match : (g : Goes) → fate ≡ (goes_to w f d time g).answer → match_in fate ≡ goes_by g
  unfolding into_fifo into_buffer into_nothing
  goes_match (to_fifo k priority m) e =
      ap match_in e
      ∙ slot_match k m (keep_rule (keeper_of w.state.regs k) (fifo_ring w.state k) w.recorded).slot
  goes_match (to_buffer b i) e = ap match_in e
  goes_match (discarded why m) e = ap match_in e

-- ---- the element by which the destination is found

buffer_by : (id2 count newdata i : ℕ) → goes_by (rx_buffer id2 count newdata i) ≡ Some i
unfolding rx_buffer
buffer_by id2 count newdata i = grind arith

action_by : (action id2 count newdata i : ℕ) → goes_by (by_action action id2 count newdata i) ≡ Some i
unfolding by_action
action_by action id2 count newdata i = grind (arith, buffer_by id2 count newdata i)

unmatched_by : (anf : ℕ) → goes_by (unmatched anf) ≡ None
unfolding unmatched
unmatched_by anf = grind arith

module _ (w : World) (f : Frame) where
  -- the element that the search answers, and whether there is one
  abbrev searched : ℕ
  searched = first_match w.memory (list_for w f) f.id

  abbrev is_found : Bool
  is_found = ltb searched (list_for w f).count

  abbrev First : ℕ → Type 0
  First i = FirstIs w.memory (list_for w f) f.id i

  abbrev NoMatch : Type 0
  NoMatch = NoneMatches w.memory (list_for w f) f.id

  out_by : out_at_once w f ≡ true → goes_by (goes_of w f) ≡ None
  unfolding destination
  out_by e = grind arith

  module _ (e : out_at_once w f ≡ false) where
    first_by : (i : ℕ) → First i → goes_by (goes_of w f) ≡ Some i
    unfolding destination by_search
    first_by i h =
        let same = first_searched w.memory (list_for w f) f.id i h in
        grind (arith, same, h.within, action_by)

    none_by : NoMatch → goes_by (goes_of w f) ≡ None
    unfolding destination by_search
    none_by h = grind (arith, none_searched w.memory (list_for w f) f.id h, unmatched_by)

-- ---- the whole

module _ (w : World) (f : Frame) (fate : Fate) (by : match_in fate ≡ goes_by (goes_of w f)) where
  found_first : (i : ℕ) → match_in fate ≡ Some i → (out_at_once w f ≡ false) × First w f i
  found_first i x = go (out_at_once w f) refl (is_found w f) refl
    where
      go : (o : Bool) → out_at_once w f ≡ o → (t : Bool) → is_found w f ≡ t → (out_at_once w f ≡ false) × First w f i
      go true e t y = let z : ◌≡◌ {A = ℕ} 0 1 = cc (out_by w f e) in absurd (omega arith)
      go false e true y =
          let h = search_first w.memory (list_for w f) f.id (ltb-true _ _ y) in
          let q : searched w f ≡ i = cc (first_by w f e _ h) in
          (e, subst (First w f) q h)
      go false e false y =
          let none = search_none w.memory (list_for w f) f.id (ltb-false _ _ y) in
          let z : ◌≡◌ {A = ℕ} 0 1 = cc (none_by w f e none) in
          absurd (omega arith)

  unfound_none : match_in fate ≡ None → (out_at_once w f ≡ true) ⊎ NoMatch w f
  unfound_none x = go (out_at_once w f) refl (is_found w f) refl
    where
      go : (o : Bool) → out_at_once w f ≡ o → (t : Bool) → is_found w f ≡ t → (out_at_once w f ≡ true) ⊎ NoMatch w f
      go true e t y = inl e
      go false e true y =
          let h = search_first w.memory (list_for w f) f.id (ltb-true _ _ y) in
          let z : ◌≡◌ {A = ℕ} 0 1 = cc (first_by w f e _ h) in
          absurd (omega arith)
      go false e false y = inr (search_none w.memory (list_for w f) f.id (ltb-false _ _ y))

  none_unfound : (out_at_once w f ≡ true) ⊎ NoMatch w f → match_in fate ≡ None
  none_unfound (inl e) = by ∙ out_by w f e
  none_unfound (inr h) = grind (arith, by, out_by w f, λ (e : out_at_once w f ≡ false). none_by w f e h)

pub frames_told : (w : World) (f : Frame) (d : List ℕ) (time : ℕ) (fate : Fate)
    → (step w (receive f d time)).says ≡ answers fate → Filtered w f fate
frames_told w f d time fate e =
    let g = accepted_goes w f d time fate e in
    let by = goes_match w f d time fate (goes_of w f) g in
    let l = list_for w f in
    record {
      found = λ i. (found_first w f fate by i, λ h. by ∙ first_by w f h.0 i h.1);
      unfound = (unfound_none w f fate by, none_unfound w f fate by);
      seen = (match_is_by_type f.xtd l.xidam (filter_at w.memory l 0) f.id).0;
      matching = λ i. (match_is_by_type f.xtd l.xidam (filter_at w.memory l i) f.id).1;
      goes = destination_is_by_action w.state.regs w.memory f w.state.newdata;
      becomes = goes_becomes w f d time fate (goes_of w f) g;
    }
