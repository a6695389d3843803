-- The cases of the small definitions over states and registers, one law each.
-- Assumes nothing.
use Prim.Native.Nat.{ℕ, ◌≤◌, ◌<◌}
use mathlib.Core.Path.{◌≡◌, sym, ◌∙◌}
use mathlib.Core.Bool.{Bool, true, false}
use native.Mathlib.Omega.{arith}
use Rattle.words.specs.Choice.{pick}
use Rattle.words.proofs.Choices.{pick_first, pick_second}
use Rattle.registers.specs.Fields.{shared, is_queue}
use Rattle.registers.specs.declared.Registers.{Registers}
use Rattle.engine.specs.Fitness.{shared_ring_size}
use Rattle.engine.specs.Needs.{SharedFits, SharedCan}
use Rattle.engine.specs.declared.state.State.{State}

-- ---- the shared ring

module _ (r : Registers) (b : Bool) (e : b ≡ is_queue r) where
  pub queue_ring : b ≡ true → 0 ≡ shared_ring_size r
  unfolding shared_ring_size
  queue_ring y = sym (pick_first 0 (shared r) (sym e ∙ y))

  pub fifo_ring_is : b ≡ false → (n : ℕ) → n ≡ shared r → n ≡ shared_ring_size r
  unfolding shared_ring_size
  fifo_ring_is y n q = q ∙ sym (pick_second 0 (shared r) (sym e ∙ y))

pub shared_most : (r : Registers) → shared_ring_size r ≤ shared r
unfolding shared_ring_size
shared_most r = go (is_queue r)
  where
    go : (b : Bool) → pick b 0 (shared r) ≤ shared r
    go true = omega arith
    go false = omega arith

pub can_look : (s : State) (p : ℕ) → SharedCan s → p < shared_ring_size s.regs → SharedFits s p
can_look s p c h = record { ring = c.ring; bit = omega (arith, shared_most s.regs, c.few) }
