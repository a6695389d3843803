-- A fit world stays fit: what a request and a cancel do to the Tx buffers' bits and the shared ring.
-- Assumes nothing.
use Prim.Native.Nat.{ℕ, ◌+◌, ◌<◌}
use mathlib.Core.Path.{◌≡◌, refl, sym, ap, ap₂, ◌∙◌, subst}
use mathlib.Core.Bool.{Bool, true, false, ◌||◌, or-false}
use mathlib.Core.List.{List}
use native.Mathlib.Omega.{arith}
use lib.Dec.{eqb}
use lib.ListN.{length}
use Rattle.words.specs.Bits.{with_bit}
use Rattle.words.specs.Rules.{allowed, first}
use Rattle.words.proofs.BitLaws.{set_lt}
use Rattle.words.proofs.Choices.{pick_first, pick_second}
use Rattle.ring.specs.Rings.{put_place, pushed, held}
use Rattle.ring.specs.declared.Ring.{Ring}
use Rattle.ring.proofs.Fitness.{fit_pushed}
use Rattle.ring.proofs.Moves.{held_pushed}
use Rattle.element.specs.declared.TxHeader.{TxHeader}
use Rattle.registers.specs.Fields.{dedicated, shared, tx_count, is_queue}
use Rattle.engine.specs.Buffers.{is_pending, in_shared_fifo}
use Rattle.engine.specs.Calls.{World, is_unfit}
use Rattle.engine.specs.Fitness.{shared_ring_size, unfit, Sound}
use Rattle.engine.specs.Flags.{raised}
use Rattle.engine.specs.declared.state.State.{State}
use Rattle.engine.proofs.Buffers.{same_shift, no_ring, ring_size, beside, set_sound, clear_sound, kept_bits}
use Rattle.engine.proofs.Records.{raised_sound}
use Rattle.engine.proofs.Sounds.{flags_of, fit_of}
use Rattle.areas.specs.Areas.{tx_area}
use Rattle.requesting.specs.Cancelling.{cancel_refusals, cancelled_state, cancels}
use Rattle.requesting.specs.Needs.{Requestable}
use Rattle.requesting.specs.Places.{requested, free_place, free_buffer, shared_after}
use Rattle.requesting.specs.Promises.{PendingAreHeld}
use Rattle.requesting.specs.Requesting.{requests, dedicated_refusals, shared_refusals}
use Rattle.requesting.proofs.Memory.{written_only}
use Rattle.requesting.proofs.Opens.{dedicated_open, shared_open, cancel_open, open_sound, dedicated_requestable}
use Rattle.requesting.proofs.Opens.{shared_requestable}
use Rattle.requesting.proofs.Places.{free_room}

-- ---- states

module _ (s : State) (words : ℕ) (h : Sound s words) where
  pub dedicated_sound : (buffer : ℕ) → buffer < dedicated s.regs → Sound (requested s s.shared buffer) words
  dedicated_sound buffer l =
      set_sound s words h s.shared h.shared buffer (omega arith)
      (λ p k.
      ap (λ (b : Bool). is_pending s (dedicated s.regs + p) || b) (beside s words h buffer p l)
      ∙ or-false (is_pending s (dedicated s.regs + p))
      ∙ h.held_bits p k)

  pub shared_sound : free_place s < shared s.regs → Sound (requested s (shared_after s) (free_buffer s)) words
  shared_sound l = go (is_queue s.regs) refl
    where
      n : ℕ
      n = shared_ring_size s.regs

      go : (u : Bool) → is_queue s.regs ≡ u → Sound (requested s (shared_after s) (free_buffer s)) words
      go true e =
          subst (λ (q : Ring). Sound (requested s q (free_buffer s)) words)
          (sym (pick_first s.shared (pushed s.shared) e))
          (set_sound s words h s.shared h.shared (free_buffer s) (omega arith)
          (λ p k. absurd (no_ring s words h e p k)))
      go false e =
          let f = free_room s e l in
          let size = ring_size s words h e in
          let room : s.shared.fill < n = omega (arith, f.0, size) in
          subst (λ (q : Ring). Sound (requested s q (free_buffer s)) words)
          (sym (pick_second s.shared (pushed s.shared) e))
          (set_sound s words h (pushed s.shared) (fit_pushed s.shared n h.shared room) (free_buffer s)
          (omega arith)
          (λ p k.
          ap₂ ◌||◌ (h.held_bits p k)
          (same_shift (dedicated s.regs) p (free_place s) ∙ ap (eqb p) (f.1 ∙ ap (put_place s.shared) size))
          ∙ sym (held_pushed s.shared n h.shared room p)))

  pub cancel_sound : (buffer : ℕ) → buffer < tx_count s.regs → in_shared_fifo s buffer ≡ false
      → Sound (cancelled_state s buffer) words
  cancel_sound buffer l e =
      clear_sound s words h s.shared h.shared buffer l s.sent (with_bit s.cancelled buffer) h.sent
      (set_lt (tx_count s.regs) s.cancelled buffer h.cancelled l) (kept_bits s words h buffer e)

-- ---- calls 7 and 8

request_fit : (w : World) (ring : Ring) (buffer : ℕ) (h : TxHeader) (d : List ℕ) → is_unfit w ≡ false
    → Requestable w.state (length w.memory) buffer h
    → Sound (requested w.state ring buffer) (length w.memory)
    → is_unfit (requests w ring buffer h d).world ≡ false
unfolding requests
request_fit w ring buffer h d fit can sound =
    subst (λ (k : ℕ). unfit (requested w.state ring buffer) w.recorded k ≡ false)
    (sym (written_only w.memory (tx_area w.state.regs) buffer can.element h d).size)
    (fit_of (requested w.state ring buffer) w.recorded (length w.memory) sound
    (flags_of w.state w.recorded (length w.memory) fit))

pub dedicated_fit : (w : World) (buffer : ℕ) (h : TxHeader) (d : List ℕ)
    → first (dedicated_refusals w buffer h (length d)) ≡ allowed
    → is_unfit (requests w w.state.shared buffer h d).world ≡ false
dedicated_fit w buffer h d e =
    let o = dedicated_open w buffer h (length d) e in
    request_fit w w.state.shared buffer h d o.fit (dedicated_requestable w buffer h (length d) e)
    (dedicated_sound w.state (length w.memory) (open_sound w o.fit) buffer o.number)

pub shared_fit : (w : World) (h : TxHeader) (d : List ℕ) → first (shared_refusals w h (length d)) ≡ allowed
    → is_unfit (requests w (shared_after w.state) (free_buffer w.state) h d).world ≡ false
shared_fit w h d e =
    let o = shared_open w h (length d) e in
    request_fit w (shared_after w.state) (free_buffer w.state) h d o.fit (shared_requestable w h (length d) e)
    (shared_sound w.state (length w.memory) (open_sound w o.fit) o.number)

-- ---- call 9

pub cancel_fit : (w : World) (buffer : ℕ) → first (cancel_refusals w buffer) ≡ allowed
    → is_unfit (cancels w buffer).world ≡ false
cancel_fit w buffer e =
    let o = cancel_open w buffer e in
    fit_of (cancelled_state w.state buffer) (raised w.recorded 10) (length w.memory)
    (cancel_sound w.state (length w.memory) (open_sound w o.fit) buffer o.number o.apart)
    (raised_sound w.recorded 10 refl (flags_of w.state w.recorded (length w.memory) o.fit))

-- ---- the shared FIFO

pub pending_are_held : PendingAreHeld
pending_are_held w p fit u l =
    let sound = open_sound w fit in
    let e = ring_size w.state (length w.memory) sound u in
    sound.held_bits p (omega (arith, e)) ∙ ap (λ (k : ℕ). held w.state.shared k p) (sym e)
