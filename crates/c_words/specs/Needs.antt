-- What helpers ask of their callers. A reader of the promises need not read it.
use Rattle.std.specs.Prelude.{ℕ, ◌≡◌, true, List, length}
use Rattle.c_words.specs.States.{state_words, plain_registers}

-- a state can be taken from these words, and comes back to them
pub record StateWords (ws : List ℕ) : Type 0 where
  pub size : length ws ≡ state_words
  pub plain : plain_registers ws ≡ true
