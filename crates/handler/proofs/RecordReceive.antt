-- The record after a receive: its flags and the priority word, by where the frame goes.
-- Assumes nothing.
use Rattle.std.specs.Option.{is_some, is_none}
use Rattle.std.proofs.Math.Bool.{or-false}
use Rattle.std.proofs.Common.{Option, Some, None}
use Prim.Native.Nat.{ℕ, zero, suc, ◌+◌, ◌*◌, ◌/◌, ◌%◌, ◌^◌, ◌≤◌, ◌<◌}
use mathlib.Core.Path.{◌≡◌, refl, sym, ap, ap₂, ◌∙◌, subst}
use mathlib.Core.Bool.{Bool, true, false, ◌&&◌, ◌||◌}
use mathlib.Core.List.{List, [], ◌∷◌, ◌++◌}
use native.Mathlib.Omega.{arith}
use lib.Dec.{eqb}
use lib.ListN.{length}
use Rattle.words.specs.Bits.{is_set}
use Rattle.words.specs.Choice.{pick}
use Rattle.ring.specs.declared.Ring.{Ring}
use Rattle.registers.specs.Fields.{fifo_size, fifo_mark}
use Rattle.registers.specs.declared.Registers.{Registers}
use Rattle.frame.specs.declared.Frame.{Frame}
use Rattle.element.specs.declared.Arrival.{Arrival}
use Rattle.filter.specs.Destination.{Goes, to_fifo, to_buffer, discarded, unmatched, rx_buffer, by_action, by_search}
use Rattle.filter.specs.Destination.{destination}
use Rattle.filter.specs.Promises.{Within}
use Rattle.filter.specs.Search.{filter_at}
use Rattle.engine.specs.Calls.{World, world}
use Rattle.engine.specs.Flags.{raised, with_priority, priority_word}
use Rattle.engine.specs.Keeping.{keep_rule}
use Rattle.engine.specs.Needs.{CanKeep}
use Rattle.engine.specs.States.{fifo_ring, with_fifo}
use Rattle.engine.specs.declared.state.Record.{Record}
use Rattle.engine.proofs.Keeps.{kept_within}
use Rattle.engine.proofs.Sounds.{ring_fits}
use Rattle.receiving.specs.Fifos.{keeper_of}
use Rattle.receiving.specs.Priority.{prioritised, slot_noted}
use Rattle.receiving.specs.Receive.{Fate, stored_buffer, dropped, arrival, slot_says, into_fifo}
use Rattle.receiving.specs.Receive.{into_buffer, into_nothing, goes_to, receives}
use Rattle.receiving.proofs.Judgements.{ReceiveOpen}
use Rattle.receiving.proofs.Lists.{index_small}
use Rattle.receiving.proofs.Outcomes.{goes_within}
use Rattle.handler.specs.Demand2.{list_for, match_in}
use Rattle.handler.specs.Records.{Raises, raises, same, fields, ring_raises}
use Rattle.handler.specs.Records.{in_buffer, for_priority, index_in, fifo_raises, receive_notes}
use Rattle.handler.specs.Records.{PriorityFields, PriorityIs, Noted}
use Rattle.handler.proofs.Parts.{keep_priority}
use Rattle.handler.proofs.RecordFlags.{kept, raised_up, raises_both, quiet, ring_told}

-- ---- which destination is for priority

module _ (w : World) (f : Frame) where
  abbrev Agrees : Goes → Type 0
  Agrees (to_fifo k p m) = for_priority w f m ≡ p
  Agrees (to_buffer b i) = for_priority w f (Some i) ≡ false
  Agrees (discarded why m) = for_priority w f m ≡ eqb why 3

  unmatched_agrees : (anf : ℕ) → Agrees (unmatched anf)
  unfolding unmatched
  unmatched_agrees anf = grind arith

  module _ (i : ℕ) where
    abbrev action : ℕ
    action = (filter_at w.memory (list_for w f) i).action

    abbrev is_for : ℕ → Bool
    is_for a = eqb a 4 || eqb a 5 || eqb a 6

    buffer_agrees : (id2 count newdata : ℕ) → is_for action ≡ false → Agrees (rx_buffer id2 count newdata i)
    unfolding rx_buffer
    buffer_agrees id2 count newdata z = grind arith

    action_agrees : (id2 count newdata : ℕ) → Agrees (by_action action id2 count newdata i)
    unfolding by_action
    action_agrees id2 count newdata = grind (arith, buffer_agrees id2 count newdata)

  pub destination_agrees : Agrees (destination w.state.regs w.memory f w.state.newdata)
  unfolding destination by_search
  destination_agrees = grind (arith, action_agrees, unmatched_agrees)

-- ---- the priority word

word_has : (long : Bool) (index outcome element : ℕ) → index < 128 → outcome < 4 → element < 64
    → PriorityFields (priority_word long index outcome element) long index outcome element
unfolding priority_word
word_has true index outcome element a b c = record {
  list =
      let z : (1 * 2 ^ 15 + index * 2 ^ 8 + outcome * 2 ^ 6 + element) / 2 ^ 15 % 2 ≡ 1 = omega arith in
      ap (λ (x : ℕ). eqb x 1) z;
  filter = omega arith;
  became = omega arith;
  place = omega arith;
  rest = omega arith;
}
word_has false index outcome element a b c = record {
  list =
      let z : (0 * 2 ^ 15 + index * 2 ^ 8 + outcome * 2 ^ 6 + element) / 2 ^ 15 % 2 ≡ 0 = omega arith in
      ap (λ (x : ℕ). eqb x 1) z;
  filter = omega arith;
  became = omega arith;
  place = omega arith;
  rest = omega arith;
}

-- noted where the match is for priority, else as it was
noted_priority : (r : Record) (old : ℕ) (a : Arrival) (on p : Bool) (outcome element : ℕ) → r.priority ≡ old
    → on ≡ p → index_in a.matched < 128 → outcome < 4 → element < 64
    → PriorityIs (pick on (fields a.frame.xtd (index_in a.matched) outcome element) same) old
    (pick p (prioritised r a outcome element) r).priority
unfolding with_priority
noted_priority r old a on p outcome element k e x y z =
    subst
    (λ (b : Bool). PriorityIs (pick b (fields a.frame.xtd (index_in a.matched) outcome element) same) old
    (pick p (prioritised r a outcome element) r).priority) (sym e) (go p)
  where
    go : (b : Bool) → PriorityIs (pick b (fields a.frame.xtd (index_in a.matched) outcome element) same) old
        (pick b (prioritised r a outcome element) r).priority
    go true = word_has a.frame.xtd (index_in a.matched) outcome element x y z
    go false = k

-- flag 8 likewise
noted_up : (r : Record) (a : Arrival) (p : Bool) (outcome element n : ℕ)
    → is_set (pick p (prioritised r a outcome element) r).flags n ≡ (is_set r.flags n || (p && eqb n 8))
unfolding with_priority
noted_up r a true outcome element n = raised_up r 8 n
noted_up r a false outcome element n = sym (or-false (is_set r.flags n))

-- ---- the flags of FIFO 0, FIFO 1, and the others

module _ (w : World) (f : Frame) where
  abbrev rest : Fate → Raises
  rest fate = (8, for_priority w f (match_in fate)) ∷ (19, in_buffer fate) ∷ []

  -- what the two rings raise, and then 8 and 19
  all_up : (fate : Fate) (v : World) (a b : Bool) (n : ℕ)
      → is_set v.recorded.flags n ≡ (is_set w.recorded.flags n || (a || (b || raises (rest fate) n)))
      → raises (fifo_raises w fate v 0) n ≡ a → raises (fifo_raises w fate v 1) n ≡ b
      → is_set v.recorded.flags n
      ≡ (is_set w.recorded.flags n && true || raises (receive_notes w f fate v).raised n)
  all_up fate v a b n e x y =
      e
      ∙ kept (is_set w.recorded.flags n) (a || (b || raises (rest fate) n))
      ∙ ap (λ (t : Bool). is_set w.recorded.flags n && true || t)
      (sym (raises_both (fifo_raises w fate v 0) (fifo_raises w fate v 1 ++ rest fate) n
      ∙ ap₂ (λ (t u : Bool). t || u) x
      (raises_both (fifo_raises w fate v 1) (rest fate) n ∙ ap (λ (t : Bool). t || raises (rest fate) n) y)))

  -- a FIFO that is left alone
  still : (k n : ℕ)
      → raises (ring_raises (4 * k) (fifo_mark w.state.regs k) (fifo_size w.state.regs k)
      (fifo_ring w.state k).fill (fifo_ring w.state k).fill false false) n ≡ false
  still k n =
      quiet (4 * k) (fifo_mark w.state.regs k) (fifo_size w.state.regs k) (fifo_ring w.state k).fill n

late : (r a c : Bool) → ((r || a) || c) ≡ (r || (a || (c || false)))
late r a c = grind arith

module _ (w : World) (f : Frame) (time : ℕ) (p : Bool) (m : Option ℕ) (agrees : for_priority w f m ≡ p)
    (small : index_in m < 128) (ring : Ring) (r : Record) (l : List ℕ) (old : r.priority ≡ w.recorded.priority) where
  abbrev g : Registers
  g = w.state.regs

  abbrev a : Arrival
  a = arrival f time m

  -- what this ring raises
  abbrev own : ℕ → Option ℕ → ℕ → Bool
  own k slot n =
      raises (ring_raises (4 * k) (fifo_mark g k) (fifo_size g k) (fifo_ring w.state k).fill ring.fill (is_some slot)
      (is_none slot)) n

  abbrev last : ℕ → Option ℕ → World
  last k slot = world (with_fifo w.state k ring) (slot_noted r p a k slot) l

  abbrev Says : ℕ → Option ℕ → Type 0
  Says k slot = Noted w (last k slot) (receive_notes w f (slot_says k m slot) (last k slot))

  -- its flags, and 8
  joined : (own : Bool) (outcome element n : ℕ) → is_set r.flags n ≡ (is_set w.recorded.flags n || own)
      → is_set (pick p (prioritised r a outcome element) r).flags n
      ≡ (is_set w.recorded.flags n || (own || (for_priority w f m && eqb n 8 || false)))
  joined own outcome element n h =
      noted_up r a p outcome element n
      ∙ ap₂ (λ (t u : Bool). t || (u && eqb n 8)) h (sym agrees)
      ∙ late (is_set w.recorded.flags n) own (for_priority w f m && eqb n 8)

  prior : (outcome element : ℕ) → outcome < 4 → element < 64
      → PriorityIs (pick (for_priority w f m) (fields f.xtd (index_in m) outcome element) same)
      w.recorded.priority (pick p (prioritised r a outcome element) r).priority
  prior outcome element x y =
      noted_priority r w.recorded.priority a (for_priority w f m) p outcome element old agrees small x y

  fifo_noted : (k : ℕ) → k ≤ 1 → (slot : Option ℕ) → ((place : ℕ) → slot ≡ Some place → place < 64)
      → ((n : ℕ) → is_set r.flags n ≡ (is_set w.recorded.flags n || own k slot n)) → Says k slot
  unfolding fifo_ring with_fifo
  fifo_noted zero b (Some place) within h = record {
    flags = λ n.
        let x = Some place in
        all_up w f (slot_says 0 m x) (last 0 x) (own 0 x n) false n (joined (own 0 x n) 2 place n (h n)) refl
        (still w f 1 n);
    priority = prior 2 place (omega arith) (within place refl);
  }
  fifo_noted zero b None within h = record {
    flags = λ n.
        all_up w f (slot_says 0 m None) (last 0 None) (own 0 None n) false n (joined (own 0 None n) 1 0 n (h n)) refl
        (still w f 1 n);
    priority = prior 1 0 (omega arith) (omega arith);
  }
  fifo_noted (suc zero) b (Some place) within h = record {
    flags = λ n.
        let x = Some place in
        all_up w f (slot_says 1 m x) (last 1 x) false (own 1 x n) n (joined (own 1 x n) 3 place n (h n))
        (still w f 0 n) refl;
    priority = prior 3 place (omega arith) (within place refl);
  }
  fifo_noted (suc zero) b None within h = record {
    flags = λ n.
        all_up w f (slot_says 1 m None) (last 1 None) false (own 1 None n) n (joined (own 1 None n) 1 0 n (h n))
        (still w f 0 n) refl;
    priority = prior 1 0 (omega arith) (omega arith);
  }
  fifo_noted (suc (suc k)) b slot within h = absurd (omega arith)

-- ---- every destination

module _ (w : World) (f : Frame) (d : List ℕ) (time : ℕ) (passed : ReceiveOpen w f (length d)) where
  few : (k : ℕ) → k ≤ 1 → fifo_size w.state.regs k ≤ 64
  few zero h = passed.sound.legal.counted.fifo0
  few (suc zero) h = passed.sound.legal.counted.fifo1
  few (suc (suc k)) h = absurd (omega arith)

  can : (k : ℕ) → k ≤ 1 → CanKeep (keeper_of w.state.regs k) (fifo_ring w.state k)
  can k h =
      record { ring = ring_fits w.state (length w.memory) k passed.sound; flags = omega arith }

  goes_noted : (g : Goes) → Within w.state.regs w.state.newdata g → Agrees w f g
      → let e = goes_to w f d time g in Noted w e.world (receive_notes w f e.answer e.world)
  unfolding into_fifo into_buffer into_nothing raised fifo_ring
  goes_noted (to_fifo k p m) x e =
      let keeper = keeper_of w.state.regs k in
      let q = fifo_ring w.state k in
      let t = keep_rule keeper q w.recorded in
      fifo_noted w f time p m e (index_small m x.1) t.ring t.recorded _
      (keep_priority keeper q w.recorded) k x.0 t.slot
      (λ place y. omega (arith, few k x.0, kept_within keeper q w.recorded (can k x.0) place y))
      (λ n. ring_told keeper q w.recorded n)
  goes_noted (to_buffer b i) x e =
      let v = (goes_to w f d time (to_buffer b i)).world in
      record {
        flags = λ n. all_up w f (stored_buffer b i) v false false n
            (raised_up w.recorded 19 n
            ∙ ap₂ (λ (t u : Bool). is_set w.recorded.flags n || (t && eqb n 8 || u)) (sym e)
            (sym (or-false (eqb n 19))))
            (still w f 0 n) (still w f 1 n);
        priority =
            subst
            (λ (t : Bool).
            PriorityIs (pick t (fields f.xtd i 0 0) same) w.recorded.priority w.recorded.priority)
            (sym e) refl;
      }
  goes_noted (discarded why m) x e =
      let v = (goes_to w f d time (discarded why m)).world in
      let a = arrival f time m in
      record {
        flags = λ n. all_up w f (dropped why m) v false false n
            (noted_up w.recorded a (eqb why 3) 0 0 n
            ∙ ap (λ (t : Bool). is_set w.recorded.flags n || t)
            (ap (λ (t : Bool). t && eqb n 8) (sym e) ∙ sym (or-false (for_priority w f m && eqb n 8))))
            (still w f 0 n) (still w f 1 n);
        priority =
            noted_priority w.recorded w.recorded.priority a (for_priority w f m) (eqb why 3) 0 0 refl e
            (index_small m x.1) (omega arith) (omega arith);
      }

  pub receive_noted : let e = receives w f d time in Noted w e.world (receive_notes w f e.answer e.world)
  receive_noted =
      goes_noted (destination w.state.regs w.memory f w.state.newdata) (goes_within w f (length d) passed)
      (destination_agrees w f)
