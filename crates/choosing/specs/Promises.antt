-- What is promised of the choice (demand 2): statements only.
use Rattle.std.specs.Prelude.{ℕ, ◌+◌, ◌≤◌, ◌<◌, ◌≡◌, Bool, true, false, List, ◌↔◌}
use Rattle.words.specs.Best.{nobody, somebody, AsGood}
use Rattle.words.specs.Ranges.{Range, Inside}
use Rattle.registers.specs.Fields.{dedicated, tx_count, is_queue}
use Rattle.areas.specs.Own.{SameSections}
use Rattle.engine.specs.Buffers.{is_pending}
use Rattle.engine.specs.Calls.{World, with_memory, Alike}
use Rattle.engine.specs.Fitness.{Sound}
use Rattle.engine.specs.declared.state.State.{State}
use Rattle.choosing.specs.Choosing.{is_candidate, rank_at, choice, ask_choice}

-- the paper's candidates, one constructor for each kind of buffer
pub data Candidate (s : State) (buffer : ℕ) : Type 0 where
  dedicated_one : buffer < dedicated s.regs → is_pending s buffer ≡ true → Candidate s buffer
  oldest_one : is_queue s.regs ≡ false → 0 < s.shared.fill → buffer ≡ dedicated s.regs + s.shared.oldest
      → Candidate s buffer
  queue_one : is_queue s.regs ≡ true → dedicated s.regs ≤ buffer → is_pending s buffer ≡ true → Candidate s buffer

abbrev pub CandidatesAreThose : Type 0
CandidatesAreThose = (s : State) (buffer : ℕ) → (is_candidate s buffer ≡ true) ↔ Candidate s buffer

-- each of them exists, and is pending
pub record Waits (s : State) (buffer : ℕ) : Type 0 where
  pub exists : buffer < tx_count s.regs
  pub pending : is_pending s buffer ≡ true

abbrev pub CandidatesWait : Type 0
CandidatesWait = (s : State) (words buffer : ℕ) → Sound s words → Candidate s buffer → Waits s buffer

-- a candidate, and none is better: none has a smaller rank, or the same and a lower number
pub record BestOf (s : State) (mem : List ℕ) (buffer : ℕ) : Type 0 where
  pub one : Candidate s buffer
  pub best : (k : ℕ) → Candidate s k → AsGood (rank_at s mem) buffer k

abbrev pub ChoiceIsBest : Type 0
ChoiceIsBest =
    (s : State) (words : ℕ) (mem : List ℕ) (buffer : ℕ) → Sound s words
    → (choice s mem ≡ somebody buffer) ↔ BestOf s mem buffer

-- none is chosen exactly where there is no candidate
abbrev pub NoneChosen : Type 0
NoneChosen =
    (s : State) (words : ℕ) (mem : List ℕ) → Sound s words
    → (choice s mem ≡ nobody) ↔ ((k : ℕ) → Candidate s k → ⊥)

-- the choice looks at section 6 alone, that of the Tx buffers: two memories that have the same there, and maybe in
-- others, give the same
abbrev pub ChoiceLooksAtTxBuffers : Type 0
ChoiceLooksAtTxBuffers =
    (w : World) (other : List ℕ) (passive : Bool) (out : List ℕ) (sections : Range) → Inside sections 6
    → SameSections w.state.regs sections w.memory other
    → Alike sections (ask_choice w passive out) (ask_choice (with_memory w other) passive out)
