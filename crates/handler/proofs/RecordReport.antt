-- The record after a report: sent, the shared FIFO emptied, and the event list's flags.
-- Assumes nothing.
use Rattle.std.specs.Option.{is_some, is_none}
use Rattle.std.proofs.Math.Bool.{or-false}
use Prim.Native.Nat.{ℕ, ◌<◌}
use mathlib.Core.Path.{◌≡◌, sym, ap, ap₂, ◌∙◌}
use mathlib.Core.Bool.{Bool, true, false, not, ◌&&◌, ◌||◌}
use borrow.Author.Tests.{leb-true, not-true}
use native.Mathlib.Omega.{arith}
use lib.Dec.{eqb, ltb, leb}
use Rattle.words.specs.Bits.{is_set}
use Rattle.words.proofs.Choices.{and_both}
use Rattle.ring.specs.declared.Ring.{Ring}
use Rattle.places.specs.Slots.{take_rule}
use Rattle.registers.specs.Fields.{dedicated, is_queue, event_size, event_mark}
use Rattle.engine.specs.Buffers.{in_shared_fifo}
use Rattle.engine.specs.Calls.{World}
use Rattle.engine.specs.Flags.{raised}
use Rattle.engine.specs.Keeping.{keep_rule}
use Rattle.engine.specs.declared.state.Record.{Record}
use Rattle.engine.specs.declared.state.State.{State}
use Rattle.engine.proofs.Keeps.{kept_slot}
use Rattle.choosing.specs.Buffers.{header_of}
use Rattle.choosing.specs.Promises.{Candidate, dedicated_one, oldest_one, queue_one}
use Rattle.choosing.proofs.Candidates.{candidates_are_those}
use Rattle.reporting.specs.Reporting.{shared_sent, sent_record, event_keeper, reports}
use Rattle.reporting.proofs.Calls.{report_cases}
use Rattle.reporting.proofs.Judgements.{ReportOpen, open_candidate}
use Rattle.handler.specs.Records.{Raises, raises, raising, ring_raises, report_raises, Noted}
use Rattle.handler.proofs.Parts.{keep_priority, sent_priority}
use Rattle.handler.proofs.RecordFlags.{raised_up, raised_if_up, quiet, ring_told}

-- ---- 11: a send of the shared FIFO's buffer empties it where one was held and none is

-- a candidate in the shared FIFO is its oldest
some_held : (s : State) (buffer : ℕ) → in_shared_fifo s buffer ≡ true → Candidate s buffer → 0 < s.shared.fill
some_held s buffer e (dedicated_one a b) =
    let both = and_both (leb (dedicated s.regs) buffer) (not (is_queue s.regs)) e in
    absurd (omega (arith, leb-true (dedicated s.regs) buffer both.0))
some_held s buffer e (oldest_one a b c) = b
some_held s buffer e (queue_one a b c) =
    let both = and_both (leb (dedicated s.regs) buffer) (not (is_queue s.regs)) e in
    let z : true ≡ false = sym a ∙ not-true (is_queue s.regs) both.1 in
    let y : ◌≡◌ {A = ℕ} 0 1 = cc in
    absurd (omega arith)

emptied : (s : State) (buffer : ℕ) → (in_shared_fifo s buffer ≡ true → 0 < s.shared.fill)
    → (in_shared_fifo s buffer && eqb (shared_sent s buffer).fill 0)
    ≡ (ltb 0 s.shared.fill && eqb (shared_sent s buffer).fill 0)
emptied s buffer h = grind (arith, h)

sent_up : (s : State) (r : Record) (buffer n : ℕ)
    → is_set (sent_record s r buffer).flags n
    ≡ ((is_set r.flags n || eqb n 9) || ((in_shared_fifo s buffer && eqb (shared_sent s buffer).fill 0) && eqb n 11))
sent_up s r buffer n =
    raised_if_up (raised r 9) (in_shared_fifo s buffer && eqb (shared_sent s buffer).fill 0) 11 n
    ∙ ap (λ (t : Bool). t || ((in_shared_fifo s buffer && eqb (shared_sent s buffer).fill 0) && eqb n 11))
    (raised_up r 9 n)

-- ---- a list that blocks: it takes one exactly where it has room

taken_by_room : (size : ℕ) (q : Ring) → (is_some (take_rule size false q).slot ≡ ltb q.fill size)
    × (is_none (take_rule size false q).slot ≡ not (ltb q.fill size))
unfolding take_rule
taken_by_room size q = (grind arith, grind arith)

-- ---- the effect

join : (r a b c : Bool) → (((r || a) || b) || c) ≡ (r && true || (a || (b || c)))
join r a b c = grind arith

module _ (w : World) (buffer : ℕ) (passive : Bool) (time : ℕ) (o : ReportOpen w buffer) where
  abbrev s : State
  s = w.state

  abbrev r : Record
  r = sent_record s w.recorded buffer

  abbrev empties : Bool
  empties = ltb 0 s.shared.fill && eqb (shared_sent s buffer).fill 0

  send_up : (n : ℕ) → is_set r.flags n ≡ ((is_set w.recorded.flags n || eqb n 9) || (empties && eqb n 11))
  send_up n =
      sent_up s w.recorded buffer n
      ∙ ap (λ (t : Bool). (is_set w.recorded.flags n || eqb n 9) || (t && eqb n 11))
      (emptied s buffer
      (λ e. some_held s buffer e ((candidates_are_those s buffer).0 (open_candidate w buffer o))))

  abbrev events : ℕ → Bool → Bool → Raises
  events last new lost = ring_raises 12 (event_mark s.regs) (event_size s.regs) s.events.fill last new lost

  pub report_noted : Noted w (reports w buffer passive time)
      (raising (report_raises w buffer (reports w buffer passive time)))
  report_noted =
      report_cases w buffer passive time (λ (v : World). Noted w v (raising (report_raises w buffer v)))
      (λ y.
      let k = event_keeper s.regs in
      let t = keep_rule k s.events r in
      let room = ltb s.events.fill (event_size s.regs) in
      let wish = (header_of s w.memory buffer).wish in
      let slot = kept_slot k s.events r in
      let new : is_some t.slot ≡ (wish && room) =
      ap is_some slot ∙ (taken_by_room (event_size s.regs) s.events).0 ∙ ap (λ (b : Bool). b && room) (sym y) in
      let lost : is_none t.slot ≡ (wish && not room) =
      ap is_none slot ∙ (taken_by_room (event_size s.regs) s.events).1 ∙ ap (λ (b : Bool). b && not room) (sym y) in
      record {
        flags = λ n.
            ring_told k s.events r n
            ∙ ap₂ (λ (x : Bool) (z : Bool). x || z) (send_up n)
            (ap₂ (λ (a b : Bool). raises (events t.ring.fill a b) n) new lost)
            ∙ join (is_set w.recorded.flags n) (eqb n 9) (empties && eqb n 11)
            (raises (events t.ring.fill (wish && room) (wish && not room)) n);
        priority = keep_priority k s.events r ∙ sent_priority s w.recorded buffer;
      })
      (λ y.
      let room = ltb s.events.fill (event_size s.regs) in
      let wish = (header_of s w.memory buffer).wish in
      record {
        flags = λ n.
            let none : raises (events s.events.fill (wish && room) (wish && not room)) n ≡ false =
            ap (λ (b : Bool). raises (events s.events.fill (b && room) (b && not room)) n) y
            ∙ quiet 12 (event_mark s.regs) (event_size s.regs) s.events.fill n in
            send_up n
            ∙ sym (or-false ((is_set w.recorded.flags n || eqb n 9) || (empties && eqb n 11)))
            ∙ join (is_set w.recorded.flags n) (eqb n 9) (empties && eqb n 11) false
            ∙ ap (λ (x : Bool). is_set w.recorded.flags n && true || (eqb n 9 || (empties && eqb n 11 || x)))
            (sym none);
        priority = sent_priority s w.recorded buffer;
      })
