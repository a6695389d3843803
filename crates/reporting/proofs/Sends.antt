-- The send of a buffer of the shared FIFO: it is the oldest, which is held, so the ring's head moves past it.
-- Assumes nothing.
use Prim.Native.Nat.{ℕ, ◌+◌, ◌<◌}
use mathlib.Core.Path.{◌≡◌, refl, sym, ap, ◌∙◌}
use mathlib.Core.Bool.{true, false, not}
use borrow.Author.Tests.{leb-true, le-ltb, ltb-true, not-true}
use native.Mathlib.Omega.{arith}
use lib.Dec.{leb, ltb, eqb}
use Rattle.words.proofs.Choices.{pick_first, and_both}
use Rattle.ring.specs.Rings.{Fit, held, released_through, released}
use Rattle.ring.proofs.Places.{released_oldest}
use Rattle.ring.proofs.Holding.{oldest_held}
use Rattle.registers.specs.Fields.{dedicated, shared, is_queue}
use Rattle.engine.specs.Buffers.{in_shared_fifo}
use Rattle.engine.specs.Fitness.{shared_ring_size}
use Rattle.engine.specs.declared.state.State.{State}
use Rattle.engine.proofs.Cases.{fifo_ring_is}
use Rattle.choosing.specs.Choosing.{is_candidate}
use Rattle.reporting.specs.Reporting.{shared_sent}
use Rattle.reporting.specs.Needs.{Reportable}

pub report_small : (s : State) (words buffer : ℕ) → Reportable s words buffer → buffer < 32
report_small s words buffer h = omega (arith, h.within, h.sound.legal.counted.together)

module _ (s : State) (buffer : ℕ) (h : Fit s.shared (shared_ring_size s.regs)) (e : in_shared_fifo s buffer ≡ true) where
  parts : (leb (dedicated s.regs) buffer ≡ true) × (not (is_queue s.regs) ≡ true)
  parts = and_both (leb (dedicated s.regs) buffer) (not (is_queue s.regs)) e

  is_fifo : is_queue s.regs ≡ false
  is_fifo = not-true (is_queue s.regs) parts.1

  -- in FIFO mode the ring is of the size in the register
  size_is : shared s.regs ≡ shared_ring_size s.regs
  size_is = fifo_ring_is s.regs (is_queue s.regs) refl is_fifo (shared s.regs) refl

  module _ (c : is_candidate s buffer ≡ true) where
    -- a candidate of the shared FIFO is its oldest, so something is held
    some_held : 0 < s.shared.fill
    unfolding is_candidate
    some_held =
        let t : ltb buffer (dedicated s.regs) ≡ false =
        le-ltb buffer (dedicated s.regs) (leb-true (dedicated s.regs) buffer parts.0) in
        let f = is_fifo in
        ltb-true 0 s.shared.fill
        (and_both (ltb 0 s.shared.fill) (eqb buffer (dedicated s.regs + s.shared.oldest)) (simp (t, f) at c)).0

    pub head_held : held s.shared (shared_ring_size s.regs) s.shared.oldest ≡ true
    head_held = oldest_held s.shared (shared_ring_size s.regs) h some_held

    pub head_moved : released_through s.shared (shared_ring_size s.regs) s.shared.oldest ≡ shared_sent s buffer
    head_moved =
        released_oldest s.shared (shared_ring_size s.regs) h (omega (arith, some_held, h.room))
        ∙ ap (λ (k : ℕ). released s.shared k 1) (sym size_is)
        ∙ sym (pick_first (released s.shared (shared s.regs) 1) s.shared e)
