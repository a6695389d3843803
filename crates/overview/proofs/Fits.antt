-- When these calls are let in, and what a fit state counts.
-- Assumes nothing.
use Prim.Native.Nat.{ℕ}
use mathlib.Core.Path.{◌≡◌, ap, ◌∙◌}
use mathlib.Core.Bool.{false}
use mathlib.Core.List.{[]}
use native.Mathlib.Omega.{arith}
use lib.ListN.{length}
use Rattle.words.specs.Bits.{is_set, how_many}
use Rattle.words.specs.Rules.{allowed, first}
use Rattle.words.proofs.Counting.{ones_many}
use Rattle.shape.specs.Calls.{answers, tells}
use Rattle.shape.proofs.Calls.{call_cases}
use Rattle.registers.specs.Fields.{tx_count}
use Rattle.engine.specs.Calls.{World, Outcome, is_unfit}
use Rattle.engine.specs.Fitness.{Sound}
use Rattle.engine.specs.declared.state.State.{State}
use Rattle.engine.proofs.Calls.{row_off}
use Rattle.engine.proofs.Sounds.{sound_of}
use Rattle.overview.specs.Overview.{overview_refusals, status_of}
use Rattle.overview.specs.Promises.{PendingIsCounted}
use Rattle.overview.specs.declared.Overview.{Overview}

pub overview_fit : (w : World) → first (overview_refusals w) ≡ allowed → is_unfit w ≡ false
unfolding overview_refusals
overview_fit w e = (row_off 20 _ [] e).0

pub pending_counted : (s : State) (words : ℕ) → Sound s words
    → (status_of s).pending ≡ how_many (is_set s.pending) (tx_count s.regs)
unfolding status_of
pending_counted s words h = ones_many (tx_count s.regs) s.pending h.pending

pub pending_is_counted : PendingIsCounted
pending_is_counted w t =
    call_cases w [] (overview_refusals w) (tells (status_of w.state) w)
    (λ (o : Outcome Overview).
    o.says ≡ answers t → t.pending ≡ how_many (is_set w.state.pending) (tx_count w.state.regs))
    (λ n e. let z : ◌≡◌ {A = ℕ} 0 1 = cc in absurd (omega arith))
    (λ f e. let same : t ≡ status_of w.state = cc in
    ap (λ (o : Overview). o.pending) same
    ∙ pending_counted w.state (length w.memory)
    (sound_of w.state w.recorded (length w.memory) (overview_fit w f)))
