-- What a report looks at and writes: the Tx buffers' section, and one event.
-- Assumes nothing.
use Rattle.std.proofs.Common.{Option, Some, None}
use Prim.Native.Nat.{ℕ, ◌≤◌, ◌<◌}
use mathlib.Core.Path.{◌≡◌, refl, sym, ap₂}
use mathlib.Core.Bool.{Bool, true, false, not, ◌||◌}
use mathlib.Core.List.{List, [], ◌∷◌}
use borrow.Author.Tests.{lt-ltb}
use native.Mathlib.Omega.{arith}
use lib.Dec.{eqb, ltb}
use lib.ListN.{length}
use Rattle.words.specs.Best.{Best}
use Rattle.words.specs.Choice.{pick}
use Rattle.words.specs.Ranges.{Range, front, OnlyIn}
use Rattle.words.specs.Rules.{first}
use Rattle.words.proofs.Ranges.{only_none}
use Rattle.ring.specs.Rings.{put_place}
use Rattle.ring.specs.declared.Ring.{Ring}
use Rattle.ring.proofs.Places.{place_lt}
use Rattle.frame.specs.declared.Frame.{Frame}
use Rattle.registers.specs.Fields.{event_size}
use Rattle.registers.specs.declared.Registers.{Registers}
use Rattle.element.specs.declared.TxHeader.{TxHeader}
use Rattle.places.specs.Areas.{place_range, area_end, place_in}
use Rattle.places.specs.Slots.{take_rule, slot_memory}
use Rattle.places.specs.declared.Taken.{Taken}
use Rattle.places.proofs.Stores.{element_inside, store_own}
use Rattle.places.proofs.Takes.{take_cases}
use Rattle.areas.specs.Areas.{event_area}
use Rattle.areas.specs.Own.{SameSections}
use Rattle.areas.proofs.Rooms.{event_roomy}
use Rattle.shape.specs.Calls.{leaves, effected}
use Rattle.shape.proofs.Calls.{call_cases}
use Rattle.engine.specs.Buffers.{no_tx_buffer}
use Rattle.engine.specs.Calls.{World, with_memory, Outcome, ◌when◌, Alike}
use Rattle.engine.specs.Fitness.{unfit, Sound}
use Rattle.engine.specs.Needs.{CanKeep}
use Rattle.engine.proofs.Alike.{store_alike, call_alike}
use Rattle.engine.proofs.Keeps.{kept_slot, kept_within}
use Rattle.choosing.specs.Buffers.{header_of}
use Rattle.choosing.specs.Choosing.{form_sent}
use Rattle.choosing.proofs.Own.{tx_same, header_same, choice_same}
use Rattle.reporting.specs.Reporting.{is_chosen, report_refusals, sent_record, after_send}
use Rattle.reporting.specs.Reporting.{event_keeper, event_kept, reports}
use Rattle.reporting.specs.Promises.{event_range, ReportWritesOneEvent, ReportLooksAtTxBuffers}
use Rattle.reporting.proofs.Calls.{report_cases}
use Rattle.reporting.proofs.Judgements.{report_open}

-- ---- what it writes

module _ (g : Registers) (q : Ring) (mem ws : List ℕ) (room : area_end (event_area g) ≤ length mem)
    (two : length ws ≡ 2) where
  -- at the put place, where the list has room
  abbrev Slotted : Option ℕ → Type 0
  Slotted slot =
      OnlyIn (pick (ltb q.fill (event_size g)) (place_range (event_area g) (put_place q (event_size g))) (front 0)) mem
      (slot_memory mem (event_area g) ws slot)

  slot_only : Slotted (take_rule (event_size g) false q).slot
  slot_only =
      take_cases (event_size g) false q (λ (t : Taken). Slotted t.slot)
      (λ h. let p = place_lt q (event_size g) q.fill (omega arith) in
      rw (lt-ltb q.fill (event_size g) h) (store_own (event_area g) mem room (put_place q (event_size g)) p ws two))
      (λ h z. only_none _ mem)
      (λ h s z. absurd (blocks (eqb (event_size g) 0) z))
    where
      blocks : (b : Bool) → (b || true) ≡ false → ⊥
      blocks true z = let n : ◌≡◌ {A = ℕ} 0 1 = cc in omega arith
      blocks false z = let n : ◌≡◌ {A = ℕ} 0 1 = cc in omega arith

module _ (w : World) (buffer : ℕ) (passive : Bool) (time : ℕ) where
  abbrev wanted : Bool
  wanted = (header_of w.state w.memory buffer).wish

  pub report_only : Sound w.state (length w.memory)
      → OnlyIn (event_range w buffer) w.memory (reports w buffer passive time).memory
  report_only h =
      let g = w.state.regs in
      let q = w.state.events in
      let r = sent_record w.state w.recorded buffer in
      let room = (event_roomy g (length w.memory) h.legal).room in
      report_cases w buffer passive time (λ (v : World). OnlyIn (event_range w buffer) w.memory v.memory)
      (λ y. rw (y, kept_slot (event_keeper g) q r) (slot_only g q w.memory _ room refl))
      (λ n. only_none (event_range w buffer) w.memory)

pub report_writes_one_event : ReportWritesOneEvent
report_writes_one_event w buffer passive time =
    call_cases w [] (report_refusals w buffer) (leaves (reports w buffer passive time))
    (λ (o : Outcome (Unit {0})). OnlyIn (event_range w buffer) w.memory o.world.memory)
    (λ n. only_none (event_range w buffer) w.memory)
    (λ e. report_only w buffer passive time (report_open w buffer e).sound)

-- ---- what it looks at

-- the same event in the same slot of two memories
slot_alike : (g : Registers) (sections : Range) (mem other ws : List ℕ) (slot : Option ℕ)
    → SameSections g sections mem other → area_end (event_area g) ≤ length mem → length ws ≡ 2
    → ((p : ℕ) → slot ≡ Some p → p < event_size g)
    → SameSections g sections (slot_memory mem (event_area g) ws slot) (slot_memory other (event_area g) ws slot)
slot_alike g sections mem other ws (Some p) same room two within =
    store_alike g sections mem other same (place_in (event_area g) p) ws
    (omega (arith, element_inside (event_area g) p (within p refl)))
slot_alike g sections mem other ws None same room two within = same

module _ (w : World) (buffer : ℕ) (passive : Bool) (time : ℕ) where
  -- the effect, by the header of the sent element
  told : TxHeader → List ℕ → World
  told x m =
      let v = after_send (with_memory w m) buffer in
      pick x.wish (event_kept v x.marker (form_sent w.state.regs x.frame passive) time) v

  told_by : (m : List ℕ) → reports (with_memory w m) buffer passive time ≡ told (header_of w.state m buffer) m
  unfolding reports told
  told_by m = refl

  module _ (sections : Range) (other : List ℕ) (same : SameSections w.state.regs sections w.memory other)
      (h : Sound w.state (length w.memory)) where
    abbrev Still : World → World → Type 0
    Still v u = Alike sections (effected (leaves v)) (effected (leaves u))

    still : (x : TxHeader) → Still (told x w.memory) (told x other)
    unfolding told
    still x = go x.wish
      where
        f : Frame
        f = form_sent w.state.regs x.frame passive

        go : (t : Bool)
            → let v = after_send w buffer in let u = after_send (with_memory w other) buffer in
            Still (pick t (event_kept v x.marker f time) v) (pick t (event_kept u x.marker f time) u)
        go true =
            let g = w.state.regs in
            let r = sent_record w.state w.recorded buffer in
            let room = (event_roomy g (length w.memory) h.legal).room in
            let can : CanKeep (event_keeper g) w.state.events = record { ring = h.events; flags = omega arith } in
            let within = kept_within (event_keeper g) w.state.events r can in
            record {
              says = refl;
              state = refl;
              recorded = refl;
              memory = slot_alike g sections w.memory other _ _ same room refl within;
              output = refl;
            }
        go false = record { says = refl; state = refl; recorded = refl; memory = same; output = refl }

    reports_alike : header_of w.state w.memory buffer ≡ header_of w.state other buffer
        → Still (reports w buffer passive time) (reports (with_memory w other) buffer passive time)
    reports_alike e =
        rw (told_by w.memory, told_by other, ← e) (still (header_of w.state w.memory buffer))

pub report_looks_at_tx_buffers : ReportLooksAtTxBuffers
unfolding report_refusals
report_looks_at_tx_buffers w other buffer passive time sections six same =
    let s = w.state in
    let tx = tx_same s.regs sections w.memory other six same in
    call_alike sections w other [] same (report_refusals w buffer) (report_refusals (with_memory w other) buffer)
    (leaves (reports w buffer passive time)) (leaves (reports (with_memory w other) buffer passive time))
    (ap₂ (λ (n : ℕ) (best : Best). first (20 when unfit s w.recorded n ∷ 23 when no_tx_buffer s buffer
    ∷ 28 when not (is_chosen best buffer) ∷ [])) same.size (sym (choice_same s w.memory other tx)))
    (λ e. let o = report_open w buffer e in
    reports_alike w buffer passive time sections other same o.sound
    (header_same s w.memory other tx buffer o.within))
