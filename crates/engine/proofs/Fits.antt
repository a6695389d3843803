-- A state is unfit for a memory of another length, and so one that was never started; clearing flags keeps it fit.
-- Assumes nothing.
use Prim.Native.Nat.{ℕ, ◌-◌, ◌^◌}
use mathlib.Core.Path.{◌≡◌, refl}
use mathlib.Core.Bool.{Bool, true, false}
use mathlib.Core.Logic.{inl}
use native.Mathlib.Omega.{arith}
use Rattle.words.specs.Bits.{without_mask}
use Rattle.words.proofs.BitLaws.{bit_of_and}
use Rattle.layout.proofs.Memory.{not_both}
use Rattle.engine.specs.Fitness.{unfit}
use Rattle.engine.specs.Flags.{cleared}
use Rattle.engine.specs.Promises.{WrongLengthIsUnfit, NeverStartedIsUnfit}
use Rattle.engine.specs.States.{never_started}
use Rattle.engine.specs.declared.state.State.{State}
use Rattle.engine.specs.declared.state.Record.{Record}
use Rattle.engine.proofs.Sounds.{sound_of, flags_of, fit_of}

pub wrong_length_is_unfit : WrongLengthIsUnfit
wrong_length_is_unfit s r words wrong = go (unfit s r words) refl
  where
    go : (b : Bool) → unfit s r words ≡ b → b ≡ true
    go true e = refl
    go false e = absurd (not_both s.regs words (sound_of s r words e).legal.memory wrong)

pub never_started_is_unfit : NeverStartedIsUnfit
never_started_is_unfit r words = wrong_length_is_unfit never_started r words (inl refl)

pub cleared_fit : (s : State) (r : Record) (words mask : ℕ) → unfit s r words ≡ false
    → unfit s (cleared r mask) words ≡ false
unfolding cleared without_mask
cleared_fit s r words mask e =
    fit_of s (cleared r mask) words (sound_of s r words e)
    (λ k f. omega (arith, bit_of_and r.flags (2 ^ 32 - 1 - mask) k, flags_of s r words e k f))
