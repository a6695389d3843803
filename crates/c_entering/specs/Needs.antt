-- What helpers give their callers. A reader of the promises need not read it.
use Rattle.std.specs.Prelude.{ℕ, ◌≡◌, List, length}
use Rattle.engine.specs.declared.state.State.{State}
use Rattle.engine.specs.declared.state.Record.{Record}
use Rattle.c_words.specs.States.{state_words, unpack_state, unpack_record, ComesBack}

-- the state and the record that stand in these words, which have their lengths; packed again they give the same words
pub record Entered (state recorded : List ℕ) (s : State) (r : Record) : Type 0 where
  pub state_size : length state ≡ state_words
  pub record_size : length recorded ≡ 2
  pub state_is : s ≡ unpack_state state
  pub record_is : r ≡ unpack_record recorded
  pub comes_back : ComesBack state
