-- A report keeps a state fit: the send, and its event.
-- Assumes nothing.
use Prim.Native.Nat.{ℕ, ◌+◌, ◌≤◌, ◌<◌}
use mathlib.Core.Path.{◌≡◌, refl, sym, ap, ap₂, ◌∙◌, subst}
use mathlib.Core.Bool.{Bool, true, false, not, ◌&&◌}
use borrow.Author.Tests.{leb-true, not-true}
use native.Mathlib.Omega.{arith}
use lib.Dec.{eqb, leb}
use lib.ListN.{length}
use Rattle.words.specs.Bits.{with_bit, without_bit}
use Rattle.words.specs.Rules.{allowed, first}
use Rattle.words.proofs.BitLaws.{set_lt}
use Rattle.words.proofs.Choices.{pick_first, pick_second, and_both}
use Rattle.ring.specs.Rings.{Fit, held, released}
use Rattle.ring.specs.declared.Ring.{Ring}
use Rattle.ring.proofs.Fitness.{fit_released}
use Rattle.ring.proofs.Moves.{held_released_oldest}
use Rattle.registers.specs.Fields.{dedicated, shared, tx_count, is_queue}
use Rattle.engine.specs.Buffers.{is_pending, in_shared_fifo}
use Rattle.engine.specs.Calls.{World, is_unfit}
use Rattle.engine.specs.Fitness.{shared_ring_size, unfit, Sound, FlagsSound}
use Rattle.engine.specs.Flags.{raised}
use Rattle.engine.specs.States.{with_tx}
use Rattle.engine.specs.declared.state.State.{State}
use Rattle.engine.specs.declared.state.Record.{Record}
use Rattle.engine.proofs.Buffers.{same_shift, ring_size, clear_sound, kept_bits}
use Rattle.engine.proofs.Parts.{with_events_sound}
use Rattle.engine.proofs.Records.{raised_sound, raised_if_sound, kept_fit, kept_flags_sound}
use Rattle.engine.proofs.Sounds.{flags_of, fit_of}
use Rattle.choosing.specs.Choosing.{is_candidate}
use Rattle.choosing.specs.Promises.{Candidate, dedicated_one, oldest_one, queue_one}
use Rattle.choosing.proofs.Candidates.{candidates_are_those}
use Rattle.reporting.specs.Reporting.{shared_sent, sent_state, sent_record, report_refusals, event_keeper, reports}
use Rattle.reporting.proofs.Calls.{report_cases}
use Rattle.reporting.proofs.Judgements.{ReportOpen, report_open, open_candidate}
use Rattle.reporting.proofs.Own.{report_only}

-- ---- the send

module _ (s : State) (words buffer : ℕ) (h : Sound s words) (l : buffer < tx_count s.regs) where
  -- with another shared ring, whose held places are those that are still pending
  Left : Ring → Type 0
  Left q = Sound (with_tx s q (without_bit 32 s.pending buffer) (with_bit s.sent buffer) s.cancelled) words

  still : (q : Ring) → Fit q (shared_ring_size s.regs)
      → ((p : ℕ) → p < shared_ring_size s.regs
      → (is_pending s (dedicated s.regs + p) && not (eqb (dedicated s.regs + p) buffer))
      ≡ held q (shared_ring_size s.regs) p)
      → Left q
  unfolding Left
  still q f m =
      clear_sound s words h q f buffer l (with_bit s.sent buffer) s.cancelled
      (set_lt (tx_count s.regs) s.sent buffer h.sent l) h.cancelled m

  pub sent_sound : is_candidate s buffer ≡ true → Sound (sent_state s buffer) words
  unfolding Left
  sent_sound c = go (in_shared_fifo s buffer) refl
    where
      go : (t : Bool) → in_shared_fifo s buffer ≡ t → Sound (sent_state s buffer) words
      go false e =
          subst Left (sym (pick_second (released s.shared (shared s.regs) 1) s.shared e))
          (still s.shared h.shared (kept_bits s words h buffer e))
      go true e = head ((candidates_are_those s buffer).0 c)
        where
          both : (leb (dedicated s.regs) buffer ≡ true) × (not (is_queue s.regs) ≡ true)
          both = and_both (leb (dedicated s.regs) buffer) (not (is_queue s.regs)) e

          fifo : is_queue s.regs ≡ false
          fifo = not-true (is_queue s.regs) both.1

          below : dedicated s.regs ≤ buffer
          below = leb-true (dedicated s.regs) buffer both.0

          head : Candidate s buffer → Sound (sent_state s buffer) words
          head (dedicated_one a b) = absurd (omega (arith, below))
          head (queue_one a b d) =
              let z : true ≡ false = sym a ∙ fifo in absurd (let y : ◌≡◌ {A = ℕ} 0 1 = cc in omega arith)
          head (oldest_one a b d) =
              let n = shared_ring_size s.regs in
              subst Left
              (sym (pick_first (released s.shared (shared s.regs) 1) s.shared e
              ∙ ap (λ (k : ℕ). released s.shared k 1) (ring_size s words h fifo)))
              (still (released s.shared n 1) (fit_released s.shared n h.shared 1 b)
              (λ p k.
              ap₂ (λ (x y : Bool). x && not y) (h.held_bits p k)
              (ap (eqb (dedicated s.regs + p)) d ∙ same_shift (dedicated s.regs) p s.shared.oldest)
              ∙ sym (held_released_oldest s.shared n h.shared b p)))

pub sent_flags : (s : State) (r : Record) (buffer : ℕ) → FlagsSound r → FlagsSound (sent_record s r buffer)
sent_flags s r buffer h =
    raised_if_sound (raised r 9) (in_shared_fifo s buffer && eqb (shared_sent s buffer).fill 0) 11 refl
    (raised_sound r 9 refl h)

-- ---- the effect

module _ (w : World) (buffer : ℕ) (passive : Bool) (time : ℕ) (e : first (report_refusals w buffer) ≡ allowed) where
  abbrev words : ℕ
  words = length w.memory

  opened : ReportOpen w buffer
  opened = report_open w buffer e

  pub report_sound : let v = reports w buffer passive time in Sound v.state words × FlagsSound v.recorded
  report_sound =
      let s = w.state in
      let r = sent_record s w.recorded buffer in
      let h = sent_sound s words buffer opened.sound opened.within (open_candidate w buffer opened) in
      let f = sent_flags s w.recorded buffer (flags_of s w.recorded words opened.fit) in
      report_cases w buffer passive time (λ (v : World). Sound v.state words × FlagsSound v.recorded)
      (λ y. (
        with_events_sound (sent_state s buffer) words _ h (kept_fit (event_keeper s.regs) s.events r h.events),
        kept_flags_sound (event_keeper s.regs) s.events r (omega arith) f,
      ))
      (λ n. (h, f))

  pub report_fit : is_unfit (reports w buffer passive time) ≡ false
  report_fit =
      let v = reports w buffer passive time in
      subst (λ (n : ℕ). unfit v.state v.recorded n ≡ false)
      (sym (report_only w buffer passive time opened.sound).size)
      (fit_of v.state v.recorded words report_sound.0 report_sound.1)
