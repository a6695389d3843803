-- Packing and unpacking are inverse, both ways.
-- Assumes nothing.
use Rattle.std.proofs.Common.{ℕ, zero, suc, ◌+◌, ◌*◌, ◌/◌, ◌%◌, ◌^◌, ◌<◌, ◌≡◌, refl, sym, ap, ◌∙◌, arith}
use Rattle.std.proofs.Common.{Bool, true, false, ◌&&◌, List, length, take}
use Rattle.std.proofs.Math.Nat.{zero-add}
use Rattle.std.proofs.lemmas.Bool.{ltb-true}
use Rattle.std.proofs.lemmas.List.{ext_get_or}
use Rattle.words.specs.Runs.{run}
use Rattle.words.proofs.Choices.{and_both}
use Rattle.words.proofs.Runs.{length_run, get_or_run}
use Rattle.frame.specs.declared.Frame.{Frame}
use Rattle.engine.specs.States.{empty_state}
use Rattle.engine.specs.declared.state.State.{State}
use Rattle.c_words.specs.Words.{word, yes_no, says_yes, is_yes_no}
use Rattle.c_words.specs.States.{register_words, state_words, after_registers}
use Rattle.c_words.specs.States.{plain_registers, unpack_registers, pack_state, unpack_state, ComesBack}
use Rattle.c_words.specs.States.{pack_record, unpack_record}
use Rattle.c_words.specs.Needs.{StateWords}
use Rattle.c_words.specs.Frames.{plain_frame, pack_frame, unpack_frame}
use Rattle.c_words.specs.Promises.{ValuesComeBack, WordsComeBack, RegistersComeFirst, OneIsYes}

-- a word of yes or no
pub yes_back : (b : Bool) → says_yes (yes_no b) ≡ b
yes_back true = refl
yes_back false = refl

yes_forth : (w : ℕ) → is_yes_no w ≡ true → yes_no (says_yes w) ≡ w
yes_forth zero e = refl
yes_forth (suc zero) e = refl
yes_forth (suc (suc n)) e = absurd (omega (arith, ltb-true (suc (suc n)) 2 e))

-- 64 bits in two words
halves : (n : ℕ) → n % 2 ^ 32 + n / 2 ^ 32 * 2 ^ 32 ≡ n
halves n = omega arith

lower : (a b : ℕ) → a < 2 ^ 32 → (a + b * 2 ^ 32) % 2 ^ 32 ≡ a
lower a b h = omega arith

upper : (a b : ℕ) → a < 2 ^ 32 → (a + b * 2 ^ 32) / 2 ^ 32 ≡ b
upper a b h = omega arith

-- ---- a value to words and back

state_back : (s : State) → unpack_state (pack_state s) ≡ s
unfolding pack_state unpack_state
state_back s = λ i. record {
  regs = record {
    sidfc = s.regs.sidfc;
    xidfc = s.regs.xidfc;
    rxf0c = s.regs.rxf0c;
    rxf1c = s.regs.rxf1c;
    rxbc = s.regs.rxbc;
    rxesc = s.regs.rxesc;
    txefc = s.regs.txefc;
    txbc = s.regs.txbc;
    txesc = s.regs.txesc;
    gfc = s.regs.gfc;
    xidam = s.regs.xidam;
    buffers = s.regs.buffers;
    fdon = yes_back s.regs.fdon i;
    rateon = yes_back s.regs.rateon i;
    memory = s.regs.memory;
  };
  fifo0 = s.fifo0;
  fifo1 = s.fifo1;
  events = s.events;
  shared = s.shared;
  newdata = halves s.newdata i;
  pending = s.pending;
  sent = s.sent;
  cancelled = s.cancelled;
}

frame_back : (f : Frame) → unpack_frame (pack_frame f) ≡ f
unfolding pack_frame
frame_back f = λ i. record {
  id = f.id;
  xtd = yes_back f.xtd i;
  rtr = yes_back f.rtr i;
  fdf = yes_back f.fdf i;
  brs = yes_back f.brs i;
  esi = yes_back f.esi i;
  dlc = f.dlc;
}

pub values_come_back : ValuesComeBack
values_come_back = record { state = state_back; recorded = λ r. refl; frame = frame_back }

-- ---- words to a value and back

-- words of this number are those that stand at their places
spelled_out : (ws : List ℕ) (n : ℕ) → length ws ≡ n → run (word ws) 0 n ≡ ws
spelled_out ws n e =
    let size = length_run (word ws) 0 n in
    ext_get_or 0 (run (word ws) 0 n) ws (size ∙ sym e)
    (λ i h. get_or_run (word ws) 0 n i (omega arith) ∙ ap (word ws) (zero-add i))

state_forth : (ws : List ℕ) → length ws ≡ state_words → after_registers ws 8 < 2 ^ 32 → plain_registers ws ≡ true → ComesBack ws
unfolding pack_state unpack_state run
state_forth ws e low plain =
    let p = and_both (is_yes_no (word ws 12)) (is_yes_no (word ws 13)) plain in
    let z : pack_state (unpack_state ws) ≡ run (word ws) 0 state_words =
    cc (
      yes_forth (word ws 12) p.0,
      yes_forth (word ws 13) p.1,
      lower (after_registers ws 8) (after_registers ws 9) low,
      upper (after_registers ws 8) (after_registers ws 9) low,
    ) in
    z ∙ spelled_out ws state_words e

-- words from which a state can be taken, of 32 bits where a half of 64 stands
pub taken_back : (ws : List ℕ) → StateWords ws → after_registers ws 8 < 2 ^ 32 → ComesBack ws
taken_back ws h low = state_forth ws h.size low h.plain

pub record_forth : (ws : List ℕ) → length ws ≡ 2 → pack_record (unpack_record ws) ≡ ws
unfolding run
record_forth ws e = spelled_out ws 2 e

frame_forth : (ws : List ℕ) → length ws ≡ 7 → plain_frame ws ≡ true → pack_frame (unpack_frame ws) ≡ ws
unfolding pack_frame run
frame_forth ws e plain =
    let yes : ℕ → Bool = λ n. is_yes_no (word ws n) in
    let p = and_both (yes 1 && yes 2 && yes 3 && yes 4) (yes 5) plain in
    let q = and_both (yes 1 && yes 2 && yes 3) (yes 4) p.0 in
    let r = and_both (yes 1 && yes 2) (yes 3) q.0 in
    let t = and_both (yes 1) (yes 2) r.0 in
    let z : pack_frame (unpack_frame ws) ≡ run (word ws) 0 7 =
    cc (
      yes_forth (word ws 1) t.0,
      yes_forth (word ws 2) t.1,
      yes_forth (word ws 3) r.1,
      yes_forth (word ws 4) q.1,
      yes_forth (word ws 5) p.1,
    ) in
    z ∙ spelled_out ws 7 e

pub words_come_back : WordsComeBack
words_come_back = record {
  state = λ ws e small plain. state_forth ws e (small (register_words + 8)) plain;
  recorded = record_forth;
  frame = frame_forth;
}

pub registers_come_first : RegistersComeFirst
unfolding pack_state run
registers_come_first ws e plain =
    let p = and_both (is_yes_no (word ws 12)) (is_yes_no (word ws 13)) plain in
    let z : take register_words (pack_state (empty_state (unpack_registers ws))) ≡ run (word ws) 0 register_words =
    cc (yes_forth (word ws 12) p.0, yes_forth (word ws 13) p.1) in
    z ∙ spelled_out ws register_words e

pub one_is_yes : OneIsYes
one_is_yes = (refl, refl)
