-- A state is fit exactly where the facts of a sound one hold.
-- Assumes nothing.
use Rattle.std.proofs.Common.{Result, Ok, Err}
use Rattle.std.specs.Prelude.{is_err}
use Prim.Native.Nat.{ℕ, ◌+◌, ◌/◌, ◌^◌, ◌<◌}
use mathlib.Core.Path.{◌≡◌, refl, sym, ap, ◌∙◌}
use mathlib.Core.Bool.{Bool, true, false, not, ◌&&◌, ◌||◌}
use borrow.Author.Tests.{eqb-true, eq-eqb, ltb-false, le-ltb, not-false}
use native.Mathlib.Nat.{div-lt_iff_lt-mul, div-eq_of_lt}
use native.Mathlib.Omega.{arith}
use lib.Dec.{eqb}
use lib.Pow.{pow_pos}
use Rattle.words.specs.Bits.{is_set}
use Rattle.words.specs.Choice.{pick}
use Rattle.words.specs.Fields.{only_named}
use Rattle.words.specs.Least.{least_from}
use Rattle.words.specs.Rules.{Ruling, allowed, is_allowed}
use Rattle.words.proofs.Choices.{or_neither}
use Rattle.words.proofs.Lowest.{least_below, least_absent}
use Rattle.words.proofs.Rulings.{allowed_is, held_off}
use Rattle.words.proofs.Unnamed.{unnamed, agrees, below32}
use Rattle.ring.specs.Rings.{Fit, fits, held}
use Rattle.ring.specs.declared.Ring.{Ring}
use Rattle.ring.proofs.Fitness.{fit_of_fits, fits_of_fit}
use Rattle.registers.specs.Kinds.{field, rxfc_count}
use Rattle.registers.specs.declared.Registers.{Registers}
use Rattle.shape.specs.Refusals.{Refusal as Told}
use Rattle.layout.specs.Verdict.{meaning, verdict, plain}
use Rattle.layout.specs.declared.check.LayoutRefusal.{LayoutRefusal}
use Rattle.layout.proofs.Accepted.{accepted_is_legal}
use Rattle.registers.specs.Fields.{fifo_word, fifo_size, event_size, dedicated, tx_count}
use Rattle.engine.specs.Calls.{◌when◌}
use Rattle.engine.specs.Fitness.{registers_unfit, shared_ring_size, rings_unfit, past, bits_unfit, differs}
use Rattle.engine.specs.Fitness.{shared_unfit, flag_fields, flags_unfit, unfit, Sound, FlagsSound}
use Rattle.engine.specs.Needs.{SharedCan}
use Rattle.engine.specs.Promises.{FitIsSound}
use Rattle.engine.specs.States.{fifo_ring}
use Rattle.engine.specs.declared.state.State.{State}
use Rattle.engine.specs.declared.state.Record.{Record}
use Rattle.engine.proofs.Cases.{shared_most}

-- a word has no bit at n or above exactly where it is below 2 ^ n
pub below_past : (w n : ℕ) → past w n ≡ false → w < 2 ^ n
below_past w n e =
    let z : w / 2 ^ n ≡ 0 = eqb-true (w / 2 ^ n) 0 (not-false (eqb (w / 2 ^ n) 0) e) in
    omega (arith, (div-lt_iff_lt-mul {k = 2 ^ n} {x = w} {y = 1} (pow_pos n)).0 (omega arith))

pub past_below : (w n : ℕ) → w < 2 ^ n → past w n ≡ false
past_below w n h = ap not (eq-eqb (w / 2 ^ n) 0 (div-eq_of_lt h))

-- a ring that is tested to fit
fit_tested : (q : Ring) (size : ℕ) → size < 2 ^ 31 → not (fits q size) ≡ false → Fit q size
fit_tested q size h e = fit_of_fits q size h (not-false (fits q size) e)

tested_fit : (q : Ring) (size : ℕ) → Fit q size → not (fits q size) ≡ false
tested_fit q size f = ap not (fits_of_fit q size f)

shared_small : (r : Registers) → shared_ring_size r < 2 ^ 31
shared_small r = omega (arith, shared_most r)

-- a layout that is tested to be accepted
accepted : (v : Result (Unit {0}) LayoutRefusal) → false ≡ is_err v → meaning v ≡ allowed
accepted (Ok u) e = refl
accepted (Err n) e = cc

-- one bit against another
same_bit : (h b : Bool) → (h && not b || not h && b) ≡ false → b ≡ h
same_bit true true e = refl
same_bit true false e = sym e
same_bit false true e = e
same_bit false false e = refl

bit_same : (h b : Bool) → b ≡ h → (h && not b || not h && b) ≡ false
bit_same true true e = refl
bit_same true false e = sym e
bit_same false true e = e
bit_same false false e = refl

-- of four tests none holds
none_of_four : (a b c d : Bool) → (a || b || c || d) ≡ false → (a ≡ false) × (b ≡ false) × (c ≡ false) × (d ≡ false)
none_of_four true b c d e = cc
none_of_four false true c d e = cc
none_of_four false false true d e = cc
none_of_four false false false d e = (refl, refl, refl, e)

module _ (s : State) where
  rings_of : rings_unfit s ≡ false
      → Fit s.fifo0 (fifo_size s.regs 0) × Fit s.fifo1 (fifo_size s.regs 1) × Fit s.events
      (event_size s.regs) × Fit s.shared (shared_ring_size s.regs)
  rings_of e =
      let p = none_of_four _ _ _ _ e in (
        fit_tested s.fifo0 (fifo_size s.regs 0) (omega arith) p.0,
        fit_tested s.fifo1 (fifo_size s.regs 1) (omega arith) p.1,
        fit_tested s.events (event_size s.regs) (omega arith) p.2,
        fit_tested s.shared (shared_ring_size s.regs) (shared_small s.regs) p.3,
      )

  -- the shared places can be looked at where the layout is accepted and the rings fit
  pub shared_can : (words : ℕ) (v : Result (Unit {0}) LayoutRefusal) → meaning v ≡ verdict s.regs words
      → false ≡ is_err v → false ≡ rings_unfit s → SharedCan s
  shared_can words v e a b = record {
    ring = (rings_of (sym b)).3;
    few = ((accepted_is_legal s.regs words).0 (sym e ∙ accepted v a)).counted.together;
  }

  held_of : shared_unfit s ≡ false → (p : ℕ) → p < shared_ring_size s.regs
      → is_set s.pending (dedicated s.regs + p) ≡ held s.shared (shared_ring_size s.regs) p
  unfolding shared_unfit
  held_of e p h =
      same_bit (held s.shared (shared_ring_size s.regs) p) (is_set s.pending (dedicated s.regs + p))
      (least_below (differs s) 0 (shared_ring_size s.regs) p (omega arith)
      (omega (arith, ltb-false (least_from (differs s) 0 (shared_ring_size s.regs)) (shared_ring_size s.regs) e)))

  of-held
      : ((p : ℕ) → p < shared_ring_size s.regs
      → is_set s.pending (dedicated s.regs + p) ≡ held s.shared (shared_ring_size s.regs) p)
      → shared_unfit s ≡ false
  unfolding shared_unfit
  of-held f =
      le-ltb (least_from (differs s) 0 (shared_ring_size s.regs)) (shared_ring_size s.regs)
      (omega (
        arith,
        least_absent (differs s) 0 (shared_ring_size s.regs)
            (λ p a b. bit_same (held s.shared (shared_ring_size s.regs) p)
            (is_set s.pending (dedicated s.regs + p))
            (f p (omega arith))),
      ))

module _ (s : State) (r : Record) (words : ℕ) where
  parts : unfit s r words ≡ false
      → (registers_unfit s.regs words ≡ false) × (rings_unfit s ≡ false) × (bits_unfit s ≡ false)
      × (shared_unfit s ≡ false) × (flags_unfit r ≡ false)
  unfolding unfit
  parts e =
      let d = or_neither _ (flags_unfit r) e in
      let p = none_of_four (registers_unfit s.regs words) _ _ _ d.0 in
      (p.0, p.1, p.2, p.3, d.1)

  pub sound_of : unfit s r words ≡ false → Sound s words
  sound_of e =
      let p = parts e in
      let q = rings_of s p.1 in
      let b = none_of_four _ _ _ _ p.2 in
      record {
        legal =
            (accepted_is_legal s.regs words).0
            (allowed_is (verdict s.regs words)
            (not-false (is_allowed (verdict s.regs words)) p.0));
        fifo0 = q.0;
        fifo1 = q.1;
        events = q.2;
        shared = q.3;
        pending = below_past s.pending (tx_count s.regs) b.0;
        sent = below_past s.sent (tx_count s.regs) b.1;
        cancelled = below_past s.cancelled (tx_count s.regs) b.2;
        newdata = below_past s.newdata s.regs.buffers b.3;
        held_bits = held_of s p.3;
      }

  pub flags_of : unfit s r words ≡ false → FlagsSound r
  unfolding agrees below32
  flags_of e =
      (unnamed flag_fields tt tt tt r.flags).0
      (eqb-true _ _ (not-false (only_named flag_fields r.flags) (parts e).4))

  pub fit_of : Sound s words → FlagsSound r → unfit s r words ≡ false
  unfolding unfit agrees below32
  fit_of h f =
      let a : registers_unfit s.regs words ≡ false =
      ap (λ (v : Ruling Told). not (is_allowed v)) ((accepted_is_legal s.regs words).1 h.legal) in
      let b : rings_unfit s ≡ false =
      simp (
        tested_fit s.fifo0 (fifo_size s.regs 0) h.fifo0,
        tested_fit s.fifo1 (fifo_size s.regs 1) h.fifo1,
        tested_fit s.events (event_size s.regs) h.events,
        tested_fit s.shared (shared_ring_size s.regs) h.shared,
      ) in
      let c : bits_unfit s ≡ false =
      simp (
        past_below s.pending (tx_count s.regs) h.pending,
        past_below s.sent (tx_count s.regs) h.sent,
        past_below s.cancelled (tx_count s.regs) h.cancelled,
        past_below s.newdata s.regs.buffers h.newdata,
      ) in
      let d : shared_unfit s ≡ false = of-held s h.held_bits in
      let g : flags_unfit r ≡ false = ap not (eq-eqb _ _ ((unnamed flag_fields tt tt tt r.flags).1 f)) in
      simp (a, b, c, d, g)

-- the ring of FIFO 0 or 1
pub ring_fits : (s : State) (words fifo : ℕ) → Sound s words → Fit (fifo_ring s fifo) (fifo_size s.regs fifo)
unfolding fifo_ring fifo_word
ring_fits s words fifo h = go (eqb fifo 0)
  where
    go : (b : Bool)
        → Fit (pick b s.fifo0 s.fifo1) (field rxfc_count (pick b s.regs.rxf0c.word s.regs.rxf1c.word))
    go true = h.fifo0
    go false = h.fifo1

-- the same, where a call found the state fit: the rings are of their sizes
module _ (s : State) (r : Record) (words : ℕ) (e : allowed ≡ 20 when unfit s r words) where
  pub found_sound : Sound s words
  found_sound = sound_of s r words (held_off (unfit s r words) (plain 20) (sym e))

  pub found_fifo : (fifo : ℕ) → Fit (fifo_ring s fifo) (fifo_size s.regs fifo)
  found_fifo fifo = ring_fits s words fifo found_sound

  pub found_events : Fit s.events (event_size s.regs)
  found_events = found_sound.events

  pub found_shared : Fit s.shared (shared_ring_size s.regs)
  found_shared = found_sound.shared

pub ruleset found = (found_fifo, found_events, found_shared)

pub fit_is_sound : FitIsSound
fit_is_sound s r words = (λ e. (sound_of s r words e, flags_of s r words e), λ h. fit_of s r words h.0 h.1)
