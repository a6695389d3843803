-- What is known where nothing is against call 10.
-- Assumes nothing.
use Prim.Native.Nat.{ℕ}
use mathlib.Core.Path.{◌≡◌}
use mathlib.Core.Bool.{false}
use mathlib.Core.List.{List, [], ◌++◌}
use lib.ListN.{length}
use Rattle.words.specs.Rules.{allowed, first}
use Rattle.shape.proofs.Calls.{rows_both}
use Rattle.engine.specs.Calls.{World, is_unfit, output_bytes, output_refusals}
use Rattle.engine.proofs.Calls.{row_off, output_fits}
use Rattle.choosing.specs.Choosing.{choice_refusals}

pub record ChoiceOpen (w : World) (out : List ℕ) : Type 0 where
  pub fit : is_unfit w ≡ false
  pub room : length out ≡ output_bytes

pub choice_open : (w : World) (out : List ℕ) → first (choice_refusals w ++ output_refusals (length out)) ≡ allowed
    → ChoiceOpen w out
unfolding choice_refusals
choice_open w out e =
    let p = rows_both (choice_refusals w) (output_refusals (length out)) e in
    record { fit = (row_off 20 _ [] p.0).0; room = output_fits (length out) p.1 }
