-- The tests of 100 and 101 that the calls make are those of the tables, and true exactly where the facts are.
-- Assumes nothing.
use Rattle.std.proofs.Common.{ℕ, ◌<◌, ◌≡◌, refl, ap, ap₂, Bool, true, false, ◌&&◌, List, [], ◌∷◌, eqb-true, eq-eqb}
use Rattle.std.proofs.Common.{ltb-true, lt-ltb, length}
use Rattle.words.proofs.Choices.{and_both}
use Rattle.books.specs.Lists.{Each}
use Rattle.c_words.specs.Words.{word, is_yes_no}
use Rattle.c_words.specs.Frames.{plain_frame}
use Rattle.c_words.specs.States.{register_words, state_words, plain_registers}
use Rattle.c_entering.specs.Entering.{Lent, has, sized}
use Rattle.c_calls.specs.Exported.{FromC, start, receive, read_fifo, acknowledge_fifo, read_buffer, release_buffer}
use Rattle.c_calls.specs.Exported.{request_dedicated, request_shared, cancel, ask_choice, report_sent, read_event}
use Rattle.c_calls.specs.Exported.{acknowledge_event, clear_flags, report_status}
use Rattle.c_history.specs.Steps.{own_buffers, frame_yes_nos, every, have_lengths, say_yes_or_no}

-- ---- the tests as the calls make them

abbrev pub own_lengths : List ℕ → FromC → Bool
own_lengths answer (start registers) = has registers register_words && has answer 16
own_lengths answer (receive frame bytes time) = has frame 7 && has answer 16
own_lengths answer (read_fifo fifo place) = has answer 16
own_lengths answer (acknowledge_fifo fifo place) = true
own_lengths answer (read_buffer buffer) = has answer 16
own_lengths answer (release_buffer buffer) = true
own_lengths answer (request_dedicated buffer frame bytes marker wish) = has frame 7 && has answer 16
own_lengths answer (request_shared frame bytes marker wish) = has frame 7 && has answer 16
own_lengths answer (cancel buffer) = true
own_lengths answer (ask_choice passive) = has answer 16
own_lengths answer (report_sent buffer passive time) = true
own_lengths answer (read_event place) = has answer 16
own_lengths answer (acknowledge_event place) = true
own_lengths answer (clear_flags mask) = true
own_lengths answer report_status = has answer 16

abbrev pub say_so : List ℕ → FromC → Bool
say_so state (start registers) = plain_registers registers
say_so state (receive frame bytes time) = plain_registers state && plain_frame frame
say_so state (read_fifo fifo place) = plain_registers state && true
say_so state (acknowledge_fifo fifo place) = plain_registers state && true
say_so state (read_buffer buffer) = plain_registers state && true
say_so state (release_buffer buffer) = plain_registers state && true
say_so state (request_dedicated buffer frame bytes marker wish) =
    plain_registers state && (is_yes_no wish && plain_frame frame)
say_so state (request_shared frame bytes marker wish) = plain_registers state && (is_yes_no wish && plain_frame frame)
say_so state (cancel buffer) = plain_registers state && true
say_so state (ask_choice passive) = plain_registers state && is_yes_no passive
say_so state (report_sent buffer passive time) = plain_registers state && is_yes_no passive
say_so state (read_event place) = plain_registers state && true
say_so state (acknowledge_event place) = plain_registers state && true
say_so state (clear_flags mask) = plain_registers state && true
say_so state report_status = plain_registers state && true

-- ---- and by the tables

one : (a : Bool) → a ≡ (a && true)
one true = refl
one false = refl

two : (a b : Bool) → (a && b) ≡ (a && (b && true))
two true b = one b
two false b = refl

five : (a b c d e : Bool) → (a && b && c && d && e) ≡ (a && (b && (c && (d && (e && true)))))
five true true true d e = two d e
five true true false d e = refl
five true false c d e = refl
five false b c d e = refl

-- two, and more after them
after_two : (a b m n : Bool) → m ≡ n → (a && b && m) ≡ (a && (b && n))
after_two true b m n e = ap (λ (x : Bool). b && x) e
after_two false b m n e = refl

frame_yes_nos_are : (frame : List ℕ) → plain_frame frame ≡ every is_yes_no (frame_yes_nos frame)
frame_yes_nos_are frame =
    five (is_yes_no (word frame 1)) (is_yes_no (word frame 2)) (is_yes_no (word frame 3)) (is_yes_no (word frame 4))
    (is_yes_no (word frame 5))

own_lengths_are : (answer : List ℕ) (c : FromC)
    → own_lengths answer c ≡ every (λ (b : List ℕ × ℕ). has b.0 b.1) (own_buffers answer c)
own_lengths_are answer (start registers) = two (has registers register_words) (has answer 16)
own_lengths_are answer (receive frame bytes time) = two (has frame 7) (has answer 16)
own_lengths_are answer (read_fifo fifo place) = one (has answer 16)
own_lengths_are answer (acknowledge_fifo fifo place) = refl
own_lengths_are answer (read_buffer buffer) = one (has answer 16)
own_lengths_are answer (release_buffer buffer) = refl
own_lengths_are answer (request_dedicated buffer frame bytes marker wish) = two (has frame 7) (has answer 16)
own_lengths_are answer (request_shared frame bytes marker wish) = two (has frame 7) (has answer 16)
own_lengths_are answer (cancel buffer) = refl
own_lengths_are answer (ask_choice passive) = one (has answer 16)
own_lengths_are answer (report_sent buffer passive time) = refl
own_lengths_are answer (read_event place) = one (has answer 16)
own_lengths_are answer (acknowledge_event place) = refl
own_lengths_are answer (clear_flags mask) = refl
own_lengths_are answer report_status = one (has answer 16)

pub lengths_tabled : (l : Lent) (c : FromC)
    → (sized l.state l.recorded && own_lengths l.answer c) ≡ have_lengths l c
lengths_tabled l c = after_two (has l.state state_words) (has l.recorded 2) _ _ (own_lengths_are l.answer c)

-- the state's two, and the call's own after them
own_words : (ws : List ℕ) (m n : Bool) → m ≡ n
    → (plain_registers ws && m) ≡ (is_yes_no (word ws 12) && (is_yes_no (word ws 13) && n))
own_words ws m n e = after_two (is_yes_no (word ws 12)) (is_yes_no (word ws 13)) m n e

pub words_tabled : (l : Lent) (c : FromC) → say_so l.state c ≡ say_yes_or_no l c
words_tabled l (start registers) = two (is_yes_no (word registers 12)) (is_yes_no (word registers 13))
words_tabled l (receive frame bytes time) = own_words l.state _ _ (frame_yes_nos_are frame)
words_tabled l (read_fifo fifo place) = own_words l.state true true refl
words_tabled l (acknowledge_fifo fifo place) = own_words l.state true true refl
words_tabled l (read_buffer buffer) = own_words l.state true true refl
words_tabled l (release_buffer buffer) = own_words l.state true true refl
words_tabled l (request_dedicated buffer frame bytes marker wish) =
    own_words l.state _ _ (ap (λ (x : Bool). is_yes_no wish && x) (frame_yes_nos_are frame))
words_tabled l (request_shared frame bytes marker wish) =
    own_words l.state _ _ (ap (λ (x : Bool). is_yes_no wish && x) (frame_yes_nos_are frame))
words_tabled l (cancel buffer) = own_words l.state true true refl
words_tabled l (ask_choice passive) = own_words l.state _ _ (one (is_yes_no passive))
words_tabled l (report_sent buffer passive time) = own_words l.state _ _ (one (is_yes_no passive))
words_tabled l (read_event place) = own_words l.state true true refl
words_tabled l (acknowledge_event place) = own_words l.state true true refl
words_tabled l (clear_flags mask) = own_words l.state true true refl
words_tabled l report_status = own_words l.state true true refl

-- ---- tests and facts

module _ {A : Type 0} (p : A → Bool) (P : A → Type 0) where
  pub every_each : ((x : A) → p x ≡ true → P x) → (xs : List A) → every p xs ≡ true → Each P xs
  every_each f [] e = tt
  every_each f (x ∷ xs) e =
      let b = and_both (p x) (every p xs) e in (f x b.0, every_each f xs b.1)

  pub each_every : ((x : A) → P x → p x ≡ true) → (xs : List A) → Each P xs → every p xs ≡ true
  each_every f [] h = refl
  each_every f (x ∷ xs) h = ap₂ (λ (a b : Bool). a && b) (f x h.0) (each_every f xs h.1)

pub length_has : (b : List ℕ × ℕ) → has b.0 b.1 ≡ true → length b.0 ≡ b.1
length_has b e = eqb-true (length b.0) b.1 e

pub has_length : (b : List ℕ × ℕ) → length b.0 ≡ b.1 → has b.0 b.1 ≡ true
has_length b e = eq-eqb (length b.0) b.1 e

pub yes_below : (w : ℕ) → is_yes_no w ≡ true → w < 2
yes_below w e = ltb-true w 2 e

pub below_yes : (w : ℕ) → w < 2 → is_yes_no w ≡ true
below_yes w h = lt-ltb w 2 h
