-- Tx buffers: a sound state stays sound with a pending bit set or cleared, as long as the shared FIFO's bits are
-- those of its places.
-- Assumes nothing.
use Prim.Native.Nat.{ℕ, ◌+◌, ◌^◌, ◌<◌}
use mathlib.Core.Path.{◌≡◌, refl, sym, ap, ◌∙◌}
use mathlib.Core.Bool.{Bool, true, false, not, ◌&&◌, ◌||◌, or-true, or-false, and-true, and-false}
use borrow.Author.Tests.{eqb-true, eqb-false, eq-eqb, ne_eqb, leb-false}
use native.Mathlib.Nat.{lt_of_le_of_lt}
use native.Mathlib.Omega.{arith}
use lib.Dec.{eqb, leb}
use Rattle.words.specs.Bits.{is_set, with_bit, without_bit}
use Rattle.words.proofs.BitLaws.{set_same, set_other, set_lt, cleared_same, cleared_other, cleared_le}
use Rattle.ring.specs.Rings.{Fit, held}
use Rattle.ring.specs.declared.Ring.{Ring}
use Rattle.registers.specs.Fields.{dedicated, shared, tx_count, is_queue}
use Rattle.engine.specs.Buffers.{is_pending, in_shared_fifo}
use Rattle.engine.specs.Fitness.{shared_ring_size, Sound}
use Rattle.engine.specs.States.{with_tx}
use Rattle.engine.specs.declared.state.State.{State}
use Rattle.engine.proofs.Cases.{queue_ring, fifo_ring_is, shared_most}

-- ---- bits

-- bit m of a word with bit n set, and with bit n cleared
pub set_test : (w n m : ℕ) → is_set (with_bit w n) m ≡ (is_set w m || eqb m n)
set_test w n m = go (eqb m n) refl
  where
    go : (b : Bool) → eqb m n ≡ b → is_set (with_bit w n) m ≡ (is_set w m || b)
    go true e =
        ap (is_set (with_bit w n)) (eqb-true m n e)
        ∙ ap (λ (x : ℕ). eqb x 1) (set_same w n)
        ∙ sym (or-true (is_set w m))
    go false e = ap (λ (x : ℕ). eqb x 1) (set_other w n m (eqb-false m n e)) ∙ sym (or-false (is_set w m))

pub clear_test : (w n m : ℕ) → n < 32 → m < 32 → is_set (without_bit 32 w n) m ≡ (is_set w m && not (eqb m n))
clear_test w n m h l = go (eqb m n) refl
  where
    go : (b : Bool) → eqb m n ≡ b → is_set (without_bit 32 w n) m ≡ (is_set w m && not b)
    go true e =
        ap (is_set (without_bit 32 w n)) (eqb-true m n e)
        ∙ ap (λ (x : ℕ). eqb x 1) (cleared_same 32 w n h)
        ∙ sym (and-false (is_set w m))
    go false e =
        ap (λ (x : ℕ). eqb x 1) (cleared_other 32 w n m h l (eqb-false m n e)) ∙ sym (and-true (is_set w m))

clear_lt : (w n k : ℕ) → w < 2 ^ k → without_bit 32 w n < 2 ^ k
clear_lt w n k h = lt_of_le_of_lt (cleared_le 32 w (2 ^ n)) h

pub same_shift : (d p q : ℕ) → eqb (d + p) (d + q) ≡ eqb p q
same_shift d p q = go (eqb p q) refl
  where
    go : (b : Bool) → eqb p q ≡ b → eqb (d + p) (d + q) ≡ b
    go true e = eq-eqb (d + p) (d + q) (ap (λ (x : ℕ). d + x) (eqb-true p q e))
    go false e = ne_eqb (d + p) (d + q) (λ z. eqb-false p q e (omega arith))

-- ---- states

module _ (s : State) (words : ℕ) (h : Sound s words) where
  -- in queue mode the shared ring has no place, and else it has one for each shared buffer
  pub no_ring : is_queue s.regs ≡ true → (p : ℕ) → p < shared_ring_size s.regs → ⊥
  no_ring u p l = omega (arith, queue_ring s.regs (is_queue s.regs) refl u)

  pub ring_size : is_queue s.regs ≡ false → shared s.regs ≡ shared_ring_size s.regs
  ring_size u = fifo_ring_is s.regs (is_queue s.regs) refl u (shared s.regs) refl

  pub buffer_small : (buffer : ℕ) → buffer < tx_count s.regs → buffer < 32
  buffer_small buffer l = omega (arith, h.legal.counted.together)

  place_small : (p : ℕ) → p < shared_ring_size s.regs → dedicated s.regs + p < 32
  place_small p l = omega (arith, h.legal.counted.together, shared_most s.regs)

  -- no shared place is a dedicated buffer
  pub beside : (buffer p : ℕ) → buffer < dedicated s.regs → eqb (dedicated s.regs + p) buffer ≡ false
  beside buffer p l = ne_eqb (dedicated s.regs + p) buffer (λ z. omega arith)

  module _ (q : Ring) (f : Fit q (shared_ring_size s.regs)) where
    -- pending bits that are those of the ring's held places
    abbrev Matches : (ℕ → Bool) → Type 0
    Matches set =
        (p : ℕ) → p < shared_ring_size s.regs → set (dedicated s.regs + p) ≡ held q (shared_ring_size s.regs) p

    tx_sound : (pending sent cancelled : ℕ) → pending < 2 ^ tx_count s.regs → sent < 2 ^ tx_count s.regs
        → cancelled < 2 ^ tx_count s.regs → Matches (is_set pending) → Sound (with_tx s q pending sent cancelled) words
    tx_sound pending sent cancelled a b c m = record {
      legal = h.legal;
      fifo0 = h.fifo0;
      fifo1 = h.fifo1;
      events = h.events;
      shared = f;
      pending = a;
      sent = b;
      cancelled = c;
      newdata = h.newdata;
      held_bits = m;
    }

    module _ (buffer : ℕ) (l : buffer < tx_count s.regs) where
      -- a request: its pending bit is set, and the two others are cleared
      pub set_sound : Matches (λ b. is_pending s b || eqb b buffer)
          → Sound
          (with_tx s q (with_bit s.pending buffer) (without_bit 32 s.sent buffer)
          (without_bit 32 s.cancelled buffer)) words
      set_sound m =
          tx_sound (with_bit s.pending buffer) (without_bit 32 s.sent buffer) (without_bit 32 s.cancelled buffer)
          (set_lt (tx_count s.regs) s.pending buffer h.pending l)
          (clear_lt s.sent buffer (tx_count s.regs) h.sent)
          (clear_lt s.cancelled buffer (tx_count s.regs) h.cancelled)
          (λ p k. set_test s.pending buffer (dedicated s.regs + p) ∙ m p k)

      -- a send or a cancel: its pending bit is cleared
      pub clear_sound : (sent cancelled : ℕ) → sent < 2 ^ tx_count s.regs → cancelled < 2 ^ tx_count s.regs
          → Matches (λ b. is_pending s b && not (eqb b buffer))
          → Sound (with_tx s q (without_bit 32 s.pending buffer) sent cancelled) words
      clear_sound sent cancelled a b m =
          tx_sound (without_bit 32 s.pending buffer) sent cancelled
          (clear_lt s.pending buffer (tx_count s.regs) h.pending) a b
          (λ p k.
          clear_test s.pending buffer (dedicated s.regs + p) (buffer_small buffer l) (place_small p k) ∙ m p k)

  -- a buffer that is not in the shared FIFO leaves its places as they are
  pub kept_bits : (buffer : ℕ) → in_shared_fifo s buffer ≡ false → (p : ℕ) → p < shared_ring_size s.regs
      → (is_pending s (dedicated s.regs + p) && not (eqb (dedicated s.regs + p) buffer))
      ≡ held s.shared (shared_ring_size s.regs) p
  kept_bits buffer e p k = go (leb (dedicated s.regs) buffer) refl (is_queue s.regs) refl e
    where
      go : (t : Bool) → leb (dedicated s.regs) buffer ≡ t → (u : Bool) → is_queue s.regs ≡ u → (t && not u) ≡ false
          → (is_pending s (dedicated s.regs + p) && not (eqb (dedicated s.regs + p) buffer))
          ≡ held s.shared (shared_ring_size s.regs) p
      go t x true y z = absurd (no_ring y p k)
      go false x false y z =
          ap (λ (b : Bool). is_pending s (dedicated s.regs + p) && not b)
          (beside buffer p (leb-false (dedicated s.regs) buffer x))
          ∙ and-true (is_pending s (dedicated s.regs + p))
          ∙ h.held_bits p k
      go true x false y z = cc
