-- What is promised of packing: statements only.
use Rattle.std.specs.Prelude.{ℕ, ◌^◌, ◌<◌, ◌≡◌, true, false, List, length, take}
use Rattle.frame.specs.declared.Frame.{Frame}
use Rattle.engine.specs.States.{empty_state}
use Rattle.engine.specs.declared.state.State.{State}
use Rattle.engine.specs.declared.state.Record.{Record}
use Rattle.c_words.specs.Words.{word, says_yes}
use Rattle.c_words.specs.States.{register_words, state_words}
use Rattle.c_words.specs.States.{plain_registers, unpack_registers, unpack_state, pack_state, ComesBack}
use Rattle.c_words.specs.States.{unpack_record, pack_record}
use Rattle.c_words.specs.Frames.{plain_frame, unpack_frame, pack_frame}

-- every state, record and frame comes back from its words
pub record ValuesComeBack : Type 0 where
  pub state : (s : State) → unpack_state (pack_state s) ≡ s
  pub recorded : (r : Record) → unpack_record (pack_record r) ≡ r
  pub frame : (f : Frame) → unpack_frame (pack_frame f) ≡ f

-- words of 32 bits
abbrev pub Fit32 : List ℕ → Type 0
Fit32 ws = (n : ℕ) → word ws n < 2 ^ 32

-- all such words of the right number, whose words of yes or no say so, come back from their state, record or frame
pub record WordsComeBack : Type 0 where
  pub state : (ws : List ℕ) → length ws ≡ state_words → Fit32 ws → plain_registers ws ≡ true → ComesBack ws
  pub recorded : (ws : List ℕ) → length ws ≡ 2 → pack_record (unpack_record ws) ≡ ws
  pub frame : (ws : List ℕ) → length ws ≡ 7 → plain_frame ws ≡ true → pack_frame (unpack_frame ws) ≡ ws

-- the registers that a start is given are the first words of the state that it leaves
abbrev pub RegistersComeFirst : Type 0
RegistersComeFirst =
    (ws : List ℕ) → length ws ≡ register_words → plain_registers ws ≡ true
    → take register_words (pack_state (empty_state (unpack_registers ws))) ≡ ws

-- 1 is yes and 0 is no
abbrev pub OneIsYes : Type 0
OneIsYes = (says_yes 1 ≡ true) × (says_yes 0 ≡ false)
