-- What is known where a call found the state fit.
-- Assumes nothing.
use Prim.Native.Nat.{ℕ, ◌≤◌}
use mathlib.Core.Path.{◌≡◌}
use Rattle.words.specs.Rules.{allowed}
use Rattle.registers.specs.Fields.{tx_count}
use Rattle.engine.specs.Calls.{◌when◌}
use Rattle.engine.specs.Fitness.{unfit}
use Rattle.engine.specs.declared.state.State.{State}
use Rattle.engine.specs.declared.state.Record.{Record}
use Rattle.engine.proofs.Sounds.{found_sound}
use Rattle.requesting.specs.Needs.{CanFindPlace}
use Rattle.requesting.proofs.Places.{can_find}

module _ (s : State) (r : Record) (words : ℕ) (e : allowed ≡ 20 when unfit s r words) where
  pub few : tx_count s.regs ≤ 32
  few = (found_sound s r words e).legal.counted.together

  pub can_look : CanFindPlace s
  can_look = can_find s words (found_sound s r words e)
