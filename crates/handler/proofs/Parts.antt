-- The parts of state and record that change, call by call; the others are as they were.
-- Assumes nothing.
use Rattle.std.proofs.Common.{Option, Some, None, arith}
use Prim.Native.Nat.{ℕ}
use mathlib.Core.Path.{◌≡◌, refl, sym, ap, ◌∙◌, subst}
use mathlib.Core.Bool.{Bool, true, false}
use mathlib.Core.List.{List, [], ◌∷◌}
use lib.Dec.{eqb}
use Rattle.words.specs.Choice.{pick}
use Rattle.words.proofs.Choices.{pick_second}
use Rattle.ring.specs.declared.Ring.{Ring}
use Rattle.places.specs.Slots.{take_rule}
use Rattle.frame.specs.declared.Frame.{Frame}
use Rattle.filter.specs.Destination.{Goes, to_fifo, to_buffer, discarded, reason}
use Rattle.filter.specs.declared.Reason.TheVariants.{PriorityOnly}
use Rattle.engine.specs.Calls.{World, world, with_state, with_recorded}
use Rattle.engine.specs.Flags.{raised, filling}
use Rattle.engine.specs.Keeping.{keep_rule}
use Rattle.engine.specs.States.{fifo_ring, with_fifo}
use Rattle.engine.specs.declared.keeping.Keeper.{Keeper}
use Rattle.engine.specs.declared.keeping.Kept.{Kept}
use Rattle.engine.specs.declared.state.State.{State}
use Rattle.engine.specs.declared.state.Record.{Record}
use Rattle.engine.proofs.Keeps.{keep_cases}
use Rattle.receiving.specs.Fifos.{keeper_of}
use Rattle.receiving.specs.Receive.{slot_says, into_fifo, into_buffer, into_nothing, goes_to}
use Rattle.reporting.specs.Reporting.{sent_record, event_keeper, reports}
use Rattle.reporting.proofs.Calls.{report_cases}
use Rattle.handler.specs.Changes.{Part, registers, fifo0, fifo1, events, shared, new_data, pending, sent}
use Rattle.handler.specs.Changes.{cancelled, flags, priority, Same, is_in, fifo_part, parts_by}

abbrev pub Stays : List Part → World → World → Type 0
Stays ps w v = (p : Part) → is_in p ps ≡ false → Same p w v

-- a state with these parts of another
abbrev mixed : List Part → State → State → State
mixed ps t s = record {
  regs = pick (is_in registers ps) t.regs s.regs;
  fifo0 = pick (is_in fifo0 ps) t.fifo0 s.fifo0;
  fifo1 = pick (is_in fifo1 ps) t.fifo1 s.fifo1;
  events = pick (is_in events ps) t.events s.events;
  shared = pick (is_in shared ps) t.shared s.shared;
  newdata = pick (is_in new_data ps) t.newdata s.newdata;
  pending = pick (is_in pending ps) t.pending s.pending;
  sent = pick (is_in sent ps) t.sent s.sent;
  cancelled = pick (is_in cancelled ps) t.cancelled s.cancelled;
}

module _ (ps : List Part) (v w : World) (state : v.state ≡ mixed ps v.state w.state)
    (raised : is_in flags ps ≡ false → v.recorded.flags ≡ w.recorded.flags)
    (noted : is_in priority ps ≡ false → v.recorded.priority ≡ w.recorded.priority) where
  pub stays : Stays ps w v
  stays registers h = ap (λ (x : State). x.regs) state ∙ pick_second v.state.regs w.state.regs h
  stays fifo0 h = ap (λ (x : State). x.fifo0) state ∙ pick_second v.state.fifo0 w.state.fifo0 h
  stays fifo1 h = ap (λ (x : State). x.fifo1) state ∙ pick_second v.state.fifo1 w.state.fifo1 h
  stays events h = ap (λ (x : State). x.events) state ∙ pick_second v.state.events w.state.events h
  stays shared h = ap (λ (x : State). x.shared) state ∙ pick_second v.state.shared w.state.shared h
  stays new_data h = ap (λ (x : State). x.newdata) state ∙ pick_second v.state.newdata w.state.newdata h
  stays pending h = ap (λ (x : State). x.pending) state ∙ pick_second v.state.pending w.state.pending h
  stays sent h = ap (λ (x : State). x.sent) state ∙ pick_second v.state.sent w.state.sent h
  stays cancelled h = ap (λ (x : State). x.cancelled) state ∙ pick_second v.state.cancelled w.state.cancelled h
  stays flags h = raised h
  stays priority h = noted h

-- nothing changed
pub all_stay : (w : World) → Stays [] w w
all_stay w = stays [] w w refl (λ h. refl) (λ h. refl)

-- ---- a ring of FIFO 0, or else of FIFO 1

abbrev ringed : State → Bool → Ring → State
ringed s b q = record {
  regs = s.regs;
  fifo0 = pick b q s.fifo0;
  fifo1 = pick b s.fifo1 q;
  events = s.events;
  shared = s.shared;
  newdata = s.newdata;
  pending = s.pending;
  sent = s.sent;
  cancelled = s.cancelled;
}

-- with flags and priority noted, or neither
ringed_parts : (w : World) (q : Ring) (m : List ℕ) (b on : Bool) (r : Record)
    → Stays (pick b fifo0 fifo1 ∷ pick on (flags ∷ priority ∷ []) []) w
    (world (ringed w.state b q) (pick on r w.recorded) m)
ringed_parts w q m true true r = stays (fifo0 ∷ flags ∷ priority ∷ []) _ w refl (λ h. cc) (λ h. cc)
ringed_parts w q m true false r = stays (fifo0 ∷ []) _ w refl (λ h. refl) (λ h. refl)
ringed_parts w q m false true r = stays (fifo1 ∷ flags ∷ priority ∷ []) _ w refl (λ h. cc) (λ h. cc)
ringed_parts w q m false false r = stays (fifo1 ∷ []) _ w refl (λ h. refl) (λ h. refl)

ring_parts : (w : World) (fifo : ℕ) (q : Ring) (m : List ℕ) (on : Bool) (r : Record)
    → Stays (fifo_part fifo ∷ pick on (flags ∷ priority ∷ []) []) w
    (world (with_fifo w.state fifo q) (pick on r w.recorded) m)
unfolding with_fifo
ring_parts w fifo q m on r = ringed_parts w q m (eqb fifo 0) on r

pub fifo_parts : (w : World) (fifo : ℕ) (q : Ring)
    → Stays (fifo_part fifo ∷ []) w (with_state w (with_fifo w.state fifo q))
fifo_parts w fifo q = ring_parts w fifo q w.memory false w.recorded

-- ---- call 2

-- the ring that it had
same_ring : (s : State) (fifo : ℕ) → with_fifo s fifo (fifo_ring s fifo) ≡ s
unfolding with_fifo fifo_ring
same_ring s fifo = grind arith

-- what is lost changes no ring
lost_ring : (k : Keeper) (q : Ring) (r : Record) → (keep_rule k q r).slot ≡ None → (keep_rule k q r).ring ≡ q
unfolding keep_rule take_rule
lost_ring k q r e = grind arith

slot_parts : (w : World) (fifo : ℕ) (m : Option ℕ) (q : Ring) (r : Record) (l : List ℕ) (x : Option ℕ)
    → (x ≡ None → q ≡ fifo_ring w.state fifo)
    → Stays (parts_by (slot_says fifo m x)) w (world (with_fifo w.state fifo q) r l)
slot_parts w fifo m q r l (Some p) e = ring_parts w fifo q l true r
slot_parts w fifo m q r l None e =
    let same : with_fifo w.state fifo q ≡ w.state =
    ap (with_fifo w.state fifo) (e refl) ∙ same_ring w.state fifo in
    subst (λ (s : State). Stays (flags ∷ priority ∷ []) w (world s r l)) (sym same)
    (stays (flags ∷ priority ∷ []) _ w refl (λ h. cc) (λ h. cc))

drop_parts : (w : World) (b : Bool) (r : Record)
    → Stays (pick b (flags ∷ priority ∷ []) []) w (with_recorded w (pick b r w.recorded))
drop_parts w true r = stays (flags ∷ priority ∷ []) _ w refl (λ h. cc) (λ h. cc)
drop_parts w false r = all_stay w

pub goes_parts : (w : World) (f : Frame) (d : List ℕ) (time : ℕ) (g : Goes)
    → let e = goes_to w f d time g in Stays (parts_by e.answer) w e.world
unfolding into_fifo into_buffer into_nothing raised
goes_parts w f d time (to_fifo fifo on m) =
    let k = keeper_of w.state.regs fifo in
    let q = fifo_ring w.state fifo in
    slot_parts w fifo m _ _ _ (keep_rule k q w.recorded).slot (lost_ring k q w.recorded)
goes_parts w f d time (to_buffer buffer i) = stays (new_data ∷ flags ∷ []) _ w refl (λ h. cc) (λ h. refl)
goes_parts w f d time (discarded why m) = drop_parts w (eqb why (reason PriorityOnly)) _

-- ---- call 11

-- a flag leaves the priority
pub keep_priority : (k : Keeper) (q : Ring) (r : Record) → (keep_rule k q r).recorded.priority ≡ r.priority
unfolding raised filling
keep_priority k q r =
    keep_cases k q r (λ (x : Kept). x.recorded.priority ≡ r.priority) (λ h. grind arith) refl (λ h. refl)

pub sent_priority : (s : State) (r : Record) (buffer : ℕ) → (sent_record s r buffer).priority ≡ r.priority
unfolding raised
sent_priority s r buffer = grind arith

pub report_parts : (w : World) (buffer : ℕ) (passive : Bool) (time : ℕ)
    → Stays (events ∷ shared ∷ pending ∷ sent ∷ flags ∷ []) w (reports w buffer passive time)
report_parts w buffer passive time =
    report_cases w buffer passive time (Stays (events ∷ shared ∷ pending ∷ sent ∷ flags ∷ []) w)
    (λ y. stays (events ∷ shared ∷ pending ∷ sent ∷ flags ∷ []) _ w refl (λ e. cc)
    (λ e. keep_priority (event_keeper w.state.regs) w.state.events (sent_record w.state w.recorded buffer)
    ∙ sent_priority w.state w.recorded buffer))
    (λ n. stays (events ∷ shared ∷ pending ∷ sent ∷ flags ∷ []) _ w refl (λ e. cc)
    (λ e. sent_priority w.state w.recorded buffer))
