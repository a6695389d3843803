-- What the steps do to each flag and to the priority, and that a fit state stays fit.
-- Assumes nothing.
use mathlib.Core.Path.{refl}
use native.Mathlib.Omega.{arith}
use Rattle.words.proofs.BitLaws.{bit_lt, bit_of_zero, bit_of_or, cleared_bit}
use Rattle.engine.specs.Flags.{cleared, with_priority}
use Rattle.engine.proofs.Fits.{cleared_fit}
use Rattle.engine.proofs.Sounds.{sound_of, flags_of, fit_of}
use Rattle.inplace.specs.Raising.{raised_mask}
use Rattle.inplace.specs.Taking.{taken, without_flags}
use Rattle.inplace.specs.Promises.{RaiseSetsTheMask, RaiseKeepsTheRest, ClearClearsTheMask, ClearKeepsTheRest}
use Rattle.inplace.specs.Promises.{PutReplacesThePriority, ClearKeepsFit, TakeLosesNothing}
use Rattle.inplace.specs.Promises.{RaiseKeepsFit, PutKeepsFit, TakeKeepsFit}

pub raise_sets_the_mask : RaiseSetsTheMask
unfolding raised_mask
raise_sets_the_mask r mask n e = omega (arith, bit_of_or r.flags mask n, bit_lt r.flags n)

pub raise_keeps_the_rest : RaiseKeepsTheRest
unfolding raised_mask
raise_keeps_the_rest r mask = (λ n e. omega (arith, bit_of_or r.flags mask n), refl)

pub clear_clears_the_mask : ClearClearsTheMask
unfolding cleared
clear_clears_the_mask r mask n h l e = omega (arith, cleared_bit 32 r.flags mask n h l)

pub clear_keeps_the_rest : ClearKeepsTheRest
unfolding cleared
clear_keeps_the_rest r mask h =
    (λ n l e. omega (arith, cleared_bit 32 r.flags mask n h l, bit_lt r.flags n), refl)

pub put_replaces_the_priority : PutReplacesThePriority
unfolding with_priority
put_replaces_the_priority r word = (refl, refl)

pub take_loses_nothing : TakeLosesNothing
unfolding raised_mask
take_loses_nothing r from = (λ n. bit_of_or r.flags from.flags n, bit_of_zero, refl, refl)

pub raise_keeps_fit : RaiseKeepsFit
unfolding raised_mask
raise_keeps_fit s r words mask named e =
    fit_of s (raised_mask r mask) words (sound_of s r words e)
    (λ k f. omega (arith, bit_of_or r.flags mask k, flags_of s r words e k f, named k f))

pub clear_keeps_fit : ClearKeepsFit
clear_keeps_fit = cleared_fit

pub put_keeps_fit : PutKeepsFit
unfolding with_priority
put_keeps_fit s r words word e = fit_of s (with_priority r word) words (sound_of s r words e) (flags_of s r words e)

pub take_keeps_fit : TakeKeepsFit
take_keeps_fit s r from words e = (
  fit_of s (without_flags r) words (sound_of s r words e) (λ k _. bit_of_zero k),
  λ named. raise_keeps_fit s r words (taken from) named e,
)
