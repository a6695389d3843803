-- The paper's ★ cases: one table, one claim. In each row the calls and the rules give what the paper says. Beside it,
-- a table of a memory's lengths.
use Rattle.std.specs.Prelude.{ℕ, ◌-◌, ◌≡◌, Bool, true, false, List, [], ◌∷◌, ◌++◌, length, take, replicate, Some, None}
use Rattle.words.specs.Runs.{part}
use Rattle.shape.specs.Calls.{Says, refuses, answers, done}
use Rattle.shape.specs.Refusals.{names}
use Rattle.registers.specs.declared.Registers.{Registers}
use Rattle.frame.specs.Arbitration.{rank_of}
use Rattle.frame.specs.Sizes.{element_words}
use Rattle.frame.specs.declared.Frame.{Frame}
use Rattle.filter.specs.Destination.{reason}
use Rattle.filter.specs.declared.Reason.TheVariants.{Reject}
use Rattle.engine.specs.Calls.{World, world}
use Rattle.engine.specs.States.{empty_state, never_started, no_flags}
use Rattle.receiving.specs.Receive.{Fate, stored, stored_buffer, dropped}
use Rattle.choosing.specs.Choosing.{Next, none, send}
use Rattle.handler.specs.Calls.{start, receive, request_dedicated, ask_choice, step}

infix 70 ◌gives◌
-- a row
pub record Star : Type 1 where
  pub Kind : Type 0
  pub rules : Kind
  pub paper : Kind

abbrev pub ◌gives◌ : {A : Type 0} → A → A → Star
◌gives◌ {A = A} rules paper = record { Kind = A; rules = rules; paper = paper }

-- an engine just started, and a memory of 2,560 words that begins with these
abbrev pub started_with : Registers → List ℕ → World
started_with g ws = world (empty_state g) no_flags (ws ++ replicate (2560 - length ws) 0)

-- data and remote frames without data, and FD frames with rate switch
abbrev pub classic : Bool → Bool → ℕ → Frame
classic xtd rtr id = record { id = id; xtd = xtd; rtr = rtr; fdf = false; brs = false; esi = false; dlc = 0 }

abbrev pub fast : ℕ → ℕ → Frame
fast id dlc = record { id = id; xtd = false; rtr = false; fdf = true; brs = true; esi = false; dlc = dlc }

-- ---- case A: what a start says, with the given length, RXF1C and TXBC to be set, and the memory's own length

abbrev pub case_a : ℕ → ℕ → ℕ → Registers
case_a given rxf1c txbc = record {
  sidfc = record { word = 0x00040000 };
  xidfc = record { word = 0x00020010 };
  rxf0c = record { word = 0x00080020 };
  rxf1c = record { word = rxf1c };
  rxbc = record { word = 0x2A0 };
  rxesc = record { word = 0x707 };
  txefc = record { word = 0x00040408 };
  txbc = record { word = txbc };
  txesc = record { word = 7 };
  gfc = record { word = 0 };
  xidam = record { word = 0x1FFFFFFF };
  buffers = 5;
  fdon = false;
  rateon = false;
  memory = given;
}

abbrev pub layout_a : ℕ → ℕ → ℕ → ℕ → Says (Unit {0})
layout_a given lent rxf1c txbc =
    (step (world never_started no_flags (replicate lent 0)) (start (case_a given rxf1c txbc))).says

-- ---- case B: what a receive answers to a frame of an 11-bit identifier, with case A's layout and four filters

abbrev pub filters_b : List ℕ
filters_b = 0x18160020 ∷ 0x50150120 ∷ 0x39300004 ∷ 0x8F0007CF ∷ []

abbrev pub receive_b : ℕ → Says Fate
receive_b id =
    (step (started_with (case_a 2560 0x00040260 0x06020428) filters_b) (receive (classic false false id) [] 0)).says

-- ---- elements of a size code: one in FIFO 0 from word 8 on, one dedicated Tx buffer from word 32 on, three filters;
-- FD and rate switch are on

abbrev pub of_size : ℕ → Registers
of_size code = record {
  sidfc = record { word = 0x00030000 };
  xidfc = record { word = 0 };
  rxf0c = record { word = 0x00010020 };
  rxf1c = record { word = 0 };
  rxbc = record { word = 0 };
  rxesc = record { word = code };
  txefc = record { word = 0 };
  txbc = record { word = 0x00010080 };
  txesc = record { word = code };
  gfc = record { word = 0 };
  xidam = record { word = 0 };
  buffers = 0;
  fdon = true;
  rateon = true;
  memory = 2560;
}

-- the element's words after a receive: filters 0 and 1 are off, and 2 sends 0x123 to FIFO 0
abbrev pub words_stored : ℕ → Frame → List ℕ → ℕ → List ℕ
words_stored code f d time =
    part 8 (element_words code)
    (step (started_with (of_size code) (0 ∷ 0 ∷ 0x09230123 ∷ [])) (receive f d time)).world.memory

-- the bytes that go out after a request
abbrev pub to_send : Says Next → List ℕ → List ℕ
to_send (refuses n) out = []
to_send (answers none) out = []
to_send (answers (send c)) out = take c.count out

abbrev pub bytes_sent : ℕ → Frame → List ℕ → List ℕ
bytes_sent code f d =
    let w = started_with (of_size code) [] in
    let pending = (step w (request_dedicated 0 (record { frame = f; marker = 0; wish = false }) d)).world in
    let o = step pending (ask_choice false (replicate 64 0)) in
    to_send o.says o.output

-- ---- the table, and that of lengths

abbrev pub stars : List Star
stars =
    layout_a 2560 2560 0x0004025C 0x06020428 gives refuses (names 15 2 3)
    ∷ layout_a 2560 2560 0x00040260 0x060225C0 gives done
    ∷ layout_a 2560 2560 0x00040260 0x060225C4 gives refuses (names 14 6 7)
    ∷ receive_b 0x15 gives answers (stored 1 0 (Some 1))
    ∷ receive_b 0x16 gives answers (dropped (reason Reject) (Some 0))
    ∷ receive_b 0x20 gives answers (dropped (reason Reject) (Some 0))
    ∷ receive_b 0x130 gives answers (stored_buffer 4 2)
    ∷ receive_b 0x720 gives answers (stored 0 0 (Some 3))
    ∷ receive_b 0x740 gives answers (stored 0 0 None)
    ∷ words_stored 0 (fast 0x123 8) (1 ∷ 2 ∷ 3 ∷ 4 ∷ 5 ∷ 6 ∷ 7 ∷ 8 ∷ []) 0x1234
    gives (0x048C0000 ∷ 0x02381234 ∷ 0x04030201 ∷ 0x08070605 ∷ [])
    ∷ rank_of (classic false false 0x100) gives 0x20000000
    ∷ rank_of (classic false true 0x100) gives 0x20100000
    ∷ rank_of (classic true false 0x04000000) gives 0x20180000
    ∷ bytes_sent 0 (fast 0x123 9) (1 ∷ 2 ∷ 3 ∷ 4 ∷ 5 ∷ 6 ∷ 7 ∷ 8 ∷ 9 ∷ 10 ∷ 11 ∷ 12 ∷ [])
    gives (1 ∷ 2 ∷ 3 ∷ 4 ∷ 5 ∷ 6 ∷ 7 ∷ 8 ∷ 0xCC ∷ 0xCC ∷ 0xCC ∷ 0xCC ∷ [])
    ∷ []

-- case A on memories of other lengths than the bench's
abbrev pub lengths : List Star
lengths =
    layout_a 4352 4352 0x00040260 0x060225C4 gives done
    ∷ layout_a 4352 4352 0x00040260 0x060241C0 gives done
    ∷ layout_a 4352 4352 0x00040260 0x060241C4 gives refuses (names 14 6 7)
    ∷ layout_a 0 0 0x00040260 0x06020428 gives refuses (names 10 7 7)
    ∷ layout_a 4353 4353 0x00040260 0x06020428 gives refuses (names 10 7 7)
    ∷ layout_a 2560 4352 0x00040260 0x06020428 gives refuses (names 10 7 7)
    ∷ []

-- every row holds
abbrev pub Hold : List Star → Type 0
Hold [] = Unit {0}
Hold (s ∷ ss) = (s.rules ≡ s.paper) × Hold ss

abbrev pub StarsHold : Type 0
StarsHold = Hold stars

abbrev pub LengthsHold : Type 0
LengthsHold = Hold lengths
