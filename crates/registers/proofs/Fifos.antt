-- What is shown of the register and the size code of FIFO 0 and of FIFO 1 is shown of whatever FIFO.
-- Assumes nothing.
use Prim.Native.Nat.{ℕ, ◌<◌}
use mathlib.Core.Bool.{Bool, true, false}
use native.Mathlib.Omega.{arith}
use lib.Dec.{eqb}
use Rattle.words.specs.Choice.{pick}
use Rattle.registers.specs.Kinds.{field, rxesc_fifo0, rxesc_fifo1}
use Rattle.registers.specs.Fields.{fifo_word, fifo_code}
use Rattle.registers.specs.declared.Registers.{Registers}

module _ (r : Registers) where
  pub fifo_cases : (P : ℕ → ℕ → Type 0) → P (fifo_word r 0) (fifo_code r 0) → P (fifo_word r 1) (fifo_code r 1)
      → (fifo : ℕ) → P (fifo_word r fifo) (fifo_code r fifo)
  unfolding fifo_word fifo_code
  fifo_cases P p q fifo = go (eqb fifo 0)
    where
      go : (b : Bool)
          → P (pick b r.rxf0c.word r.rxf1c.word)
          (pick b (field rxesc_fifo0 r.rxesc.word) (field rxesc_fifo1 r.rxesc.word))
      go true = p
      go false = q

  -- a size code is one of eight
  pub code_lt : (fifo : ℕ) → fifo_code r fifo < 8
  unfolding fifo_code
  code_lt = fifo_cases (λ w code. code < 8) (omega arith) (omega arith)
