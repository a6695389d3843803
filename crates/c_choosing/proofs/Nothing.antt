-- The buffer that is chosen is below 32.
-- Assumes nothing.
use Rattle.std.proofs.Common.{ℕ, ◌<◌, ◌≡◌, refl, Bool, List, ◌++◌, length, arith}
use Rattle.words.specs.Best.{Best, nobody, somebody}
use Rattle.words.proofs.Bests.{best_wins}
use Rattle.shape.specs.Calls.{Says, answers}
use Rattle.shape.proofs.Calls.{call_cases}
use Rattle.registers.specs.Fields.{tx_count}
use Rattle.engine.specs.Calls.{Outcome, output_refusals}
use Rattle.engine.specs.Fitness.{Sound}
use Rattle.engine.specs.declared.state.State.{State}
use Rattle.engine.proofs.Sounds.{sound_of}
use Rattle.choosing.specs.Choosing.{Next, send, is_candidate, rank_at, choice, next_of, choice_refusals, chooses}
use Rattle.choosing.specs.declared.asking.Chosen.{Chosen}
use Rattle.choosing.proofs.Calls.{choice_open}
use Rattle.c_choosing.specs.Promises.{NothingIsNoBuffer}

abbrev Small : Says Next → Type 0
Small says = (c : Chosen) → says ≡ answers (send c) → c.buffer < 32

module _ (s : State) (mem : List ℕ) where
  next_small : (passive : Bool) (b : Best) → ((n : ℕ) → b ≡ somebody n → n < 32)
      → Small (answers (next_of s mem passive b))
  next_small passive nobody h c e = absurd cc
  next_small passive (somebody n) h c e = let z : n ≡ c.buffer = cc in omega (arith, h n refl)

  choice_small : Sound s (length mem) → (n : ℕ) → choice s mem ≡ somebody n → n < 32
  unfolding choice
  choice_small sound n e =
      omega (
        arith,
        (best_wins (is_candidate s) (rank_at s mem) (tx_count s.regs) n e).below,
        sound.legal.counted.together,
      )

pub nothing_is_no_buffer : NothingIsNoBuffer
unfolding chooses
nothing_is_no_buffer w passive out =
    call_cases w out (choice_refusals w ++ output_refusals (length out)) (chooses w passive out)
    (λ (o : Outcome Next). Small o.says)
    (λ n c e. absurd cc)
    (λ e. next_small w.state w.memory passive (choice w.state w.memory)
    (choice_small w.state w.memory
    (sound_of w.state w.recorded (length w.memory) (choice_open w out e).fit)))
