-- The place in the shared part that a request takes: a queue's is the lowest clear bit of its pending bits.
-- Assumes nothing.
use Prim.Native.Nat.{ℕ, ◌+◌, ◌/◌, ◌%◌, ◌^◌, ◌<◌}
use mathlib.Core.Path.{◌≡◌, refl, sym, ap, ◌∙◌}
use mathlib.Core.Bool.{Bool, true, false, not}
use borrow.Author.Tests.{ltb-true, ltb-false}
use native.Mathlib.Nat.{div-eq_of_lt, zero-add}
use native.Mathlib.Omega.{arith}
use lib.Dec.{eqb, ltb}
use lib.Pow.{shr-shr}
use Rattle.words.specs.Bits.{bit, is_set, LowestClear}
use Rattle.words.specs.Choice.{pick}
use Rattle.words.specs.Least.{least_from}
use Rattle.words.proofs.Choices.{pick_first, pick_second}
use Rattle.words.proofs.Lowest.{least_none, least_is, least_absent}
use Rattle.ring.specs.Rings.{Fit, put_place}
use Rattle.ring.specs.declared.Ring.{Ring}
use Rattle.ring.proofs.Places.{place_lt}
use Rattle.registers.specs.Fields.{dedicated, shared, is_queue}
use Rattle.engine.specs.Buffers.{is_pending}
use Rattle.engine.specs.Fitness.{Sound}
use Rattle.engine.specs.declared.state.State.{State}
use Rattle.requesting.specs.Needs.{QueueFits, CanFindPlace}
use Rattle.requesting.specs.Places.{queue_place, fifo_place, free_place}

-- ---- a queue's, of plain numbers

-- whether a bit above the first d is clear
abbrev clear_from : ℕ → ℕ → ℕ → Bool
clear_from w d i = not (is_set w (d + i))

-- the bits of a shifted word
shifted_bit : (w d i : ℕ) → bit (w / 2 ^ d) i ≡ bit w (d + i)
shifted_bit w d i = ap (λ (x : ℕ). x % 2) (shr-shr w d i)

is_clear : (w d i x : ℕ) → bit (w / 2 ^ d) i ≡ x → clear_from w d i ≡ not (eqb x 1)
is_clear w d i x e = ap (λ (b : ℕ). not (eqb b 1)) (sym (shifted_bit w d i) ∙ e)

-- no bit of a word is set past its width
past_clear : (w k : ℕ) → w < 2 ^ k → bit w k ≡ 0
past_clear w k h = ap (λ (x : ℕ). x % 2) (div-eq_of_lt h)

module _ (pending dedicated shared : ℕ) (f : QueueFits pending dedicated shared) where
  pub no_place : shared ≡ 0 → 0 ≡ queue_place pending dedicated shared
  unfolding queue_place
  no_place z = sym (least_none (clear_from pending dedicated) 0 shared z)

  pub shift_fits : (shared ≡ 0 → ⊥) → dedicated < 32
  shift_fits n = omega (arith, f.few)

  module _ (p : ℕ) (l : LowestClear 32 (pending / 2 ^ dedicated) p) where
    not_past : shared < p → ⊥
    not_past h =
        omega (
          arith,
          l.below shared h,
          shifted_bit pending dedicated shared,
          past_clear pending (dedicated + shared) f.bits,
        )

    below_set : (i : ℕ) → i < p → clear_from pending dedicated i ≡ false
    below_set i h = is_clear pending dedicated i 1 (l.below i h)

    pub lowest_place : p ≡ queue_place pending dedicated shared
    unfolding queue_place
    lowest_place = go (ltb p shared) refl (ltb shared p) refl
      where
        go : (b : Bool) → ltb p shared ≡ b → (c : Bool) → ltb shared p ≡ c
            → p ≡ least_from (clear_from pending dedicated) 0 shared
        go true e c t =
            let h = ltb-true p shared e in
            sym (least_is (clear_from pending dedicated) 0 shared p (omega arith) (omega arith)
            (is_clear pending dedicated p 0 (l.clear (omega (arith, f.few)))) (λ i a b. below_set i b))
        go false e true t = absurd (not_past (ltb-true shared p t))
        go false e false t =
            let q : p ≡ shared = omega (arith, ltb-false p shared e, ltb-false shared p t) in
            q
            ∙ sym
            (least_absent (clear_from pending dedicated) 0 shared (λ i a b. below_set i (omega arith)) ∙ zero-add shared)

-- ---- a FIFO's

module _ (q : Ring) (size : ℕ) where
  pub put_below : Fit q size → q.fill < size → put_place q size < size
  put_below f h = place_lt q size q.fill (omega arith)

  -- what is shown of both is shown of it
  fifo_ways : (P : ℕ → Type 0) → (q.fill < size → P (put_place q size)) → P size → P (fifo_place q size)
  unfolding fifo_place
  fifo_ways P put none = go (ltb q.fill size) refl
    where
      go : (t : Bool) → ltb q.fill size ≡ t → P (pick t (put_place q size) size)
      go true e = put (ltb-true q.fill size e)
      go false e = none

-- ---- of a state

pub can_find : (s : State) (words : ℕ) → Sound s words → CanFindPlace s
can_find s words h = record { few = h.legal.counted.together; bits = h.pending; ring = h.shared }

pub queue_fits : (s : State) → CanFindPlace s → QueueFits s.pending (dedicated s.regs) (shared s.regs)
queue_fits s h = record { few = h.few; bits = h.bits }

-- the two ways of a free place
module _ (s : State) where
  pub free_queue : is_queue s.regs ≡ true
      → free_place s ≡ least_from (λ p. not (is_pending s (dedicated s.regs + p))) 0 (shared s.regs)
  unfolding free_place queue_place
  free_queue e = pick_first _ (fifo_place s.shared (shared s.regs)) e

  pub free_fifo : is_queue s.regs ≡ false → free_place s ≡ fifo_place s.shared (shared s.regs)
  unfolding free_place
  free_fifo e = pick_second (queue_place s.pending (dedicated s.regs) (shared s.regs)) _ e

  -- where the place is one, a FIFO is not full, and it is the put place
  pub free_room : is_queue s.regs ≡ false → free_place s < shared s.regs
      → (s.shared.fill < shared s.regs) × (free_place s ≡ put_place s.shared (shared s.regs))
  free_room e h =
      fifo_ways s.shared (shared s.regs)
      (λ (p : ℕ). free_place s ≡ p
      → (s.shared.fill < shared s.regs) × (free_place s ≡ put_place s.shared (shared s.regs)))
      (λ l q. (l, q)) (λ q. absurd (omega arith)) (free_fifo e)
