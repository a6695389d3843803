-- The reader reads exactly the texts of twelve words, and reads these words.
-- Assumes nothing.
use Prim.Native.Nat.{ℕ, zero, suc, ◌+◌, ◌-◌, ◌*◌, ◌/◌, ◌%◌, ◌^◌, ◌<◌}
use mathlib.Core.Path.{◌≡◌, refl, sym, ap, subst, ◌∙◌}
use mathlib.Core.Bool.{Bool, true, false, cond, not}
use mathlib.Core.List.{List}
use mathlib.Core.Logic.{inl, inr}
use borrow.Author.Tests.{eqb-true, eqb-false, eq-eqb, lt-ltb, le-ltb, ltb-true, ltb-false}
use native.Mathlib.Nat.{zero-add}
use native.Mathlib.Omega.{arith}
use lib.Dec.{eqb, eqb→eq, ltb}
use lib.ListN.{get_or}
use Rattle.std.specs.Prelude.{codes}
use Rattle.std.specs.Char.{digit_value}
use Rattle.words.specs.Choice.{pick}
use Rattle.words.proofs.Choices.{pick_first, pick_second}
use Rattle.words.proofs.Lowest.{least_absent}
use Rattle.words.specs.Runs.{run}
use Rattle.words.proofs.Runs.{get_or_run}
use Rattle.words.proofs.Tables.{every, every_at}
use Rattle.words.specs.Rules.{Ruling, allowed, refused}
use Rattle.shape.specs.Refusals.{Refusal}
use Rattle.layout.specs.Sections.{sections_of}
use Rattle.layout.specs.Verdict.{verdict}
use Rattle.layout.specs.declared.sections.Section.{Section}
use Rattle.printout.specs.Input.{in_place, out_of_place, first_out, readable, number_from, number}
use Rattle.printout.specs.Input.{bench_words, registers_of}
use Rattle.printout.specs.Lines.{Writes, Line, TwelveLines, twelve_registers}
use Rattle.printout.specs.Printed.{unread, told, report, printed}
use Rattle.printout.specs.Promises.{ReadsTheWords, UnreadIsExact}
use Rattle.printout.proofs.Lines.{newline_there, digit_there, read_by, read_length, digit_small}
use Rattle.printout.proofs.Lines.{number_none, number_more, below, in_its_place, same_registers}

-- ---- a digit

abbrev small : List ℕ
small = codes "0123456789abcdef"

abbrev large : List ℕ
large = codes "0123456789ABCDEF"

-- what a byte writes is what it is read as
written_read : (b d : ℕ) → d < 16 → Writes b d → digit_value b ≡ d
unfolding every
written_read b d h (inl e) =
    ap digit_value e ∙ eqb→eq (digit_value (get_or small d 0)) d (every_at (λ i x. eqb (digit_value x) i) small tt d h)
written_read b d h (inr e) =
    ap digit_value e ∙ eqb→eq (digit_value (get_or large d 0)) d (every_at (λ i x. eqb (digit_value x) i) large tt d h)

-- the bytes of the digits go up by one, but for a gap before the letters
small_at : (d : ℕ) → d < 16 → get_or small d 0 ≡ pick (ltb d 10) (48 + d) (87 + d)
unfolding every
small_at d h = eqb→eq _ _ (every_at (λ i x. eqb x (pick (ltb i 10) (48 + i) (87 + i))) small tt d h)

large_at : (d : ℕ) → d < 16 → get_or large d 0 ≡ pick (ltb d 10) (48 + d) (55 + d)
unfolding every
large_at d h = eqb→eq _ _ (every_at (λ i x. eqb x (pick (ltb i 10) (48 + i) (55 + i))) large tt d h)

-- what is read as a digit writes that digit
read_written : (b : ℕ) → digit_value b < 16 → Writes b (digit_value b)
read_written b = go (ltb b 48) (ltb b 58) (ltb b 65) (ltb b 91) (ltb b 97) (ltb b 123) refl refl refl refl refl refl
  where
    go : (t u v w x y : Bool) → ltb b 48 ≡ t → ltb b 58 ≡ u → ltb b 65 ≡ v → ltb b 91 ≡ w → ltb b 97 ≡ x → ltb b 123 ≡ y
        → let d = cond t 36 (cond u (b - 48) (cond v 36 (cond w (b - 55) (cond x 36 (cond y (b - 87) 36))))) in
        d < 16 → Writes b d
    go true u v w x y e f g h i j k = absurd (omega arith)
    go false true v w x y e f g h i j k =
        let d = b - 48 in
        let q : b ≡ 48 + d = omega (arith, ltb-false b 48 e) in
        inl (q ∙ sym (small_at d k ∙ pick_first (48 + d) (87 + d) (lt-ltb d 10 (omega (arith, ltb-true b 58 f)))))
    go false false true w x y e f g h i j k = absurd (omega arith)
    go false false false true x y e f g h i j k =
        let d = b - 55 in
        let q : b ≡ 55 + d = omega (arith, ltb-false b 65 g) in
        inr (q ∙ sym (large_at d k ∙ pick_second (48 + d) (55 + d) (le-ltb d 10 (omega (arith, ltb-false b 65 g)))))
    go false false false false true y e f g h i j k = absurd (omega arith)
    go false false false false false true e f g h i j k =
        let d = b - 87 in
        let q : b ≡ 87 + d = omega (arith, ltb-false b 97 i) in
        inl (q ∙ sym (small_at d k ∙ pick_second (48 + d) (87 + d) (le-ltb d 10 (omega (arith, ltb-false b 97 i)))))
    go false false false false false false e f g h i j k = absurd (omega arith)

-- ---- a line

-- the digits of a word make it, from the most significant on
module _ (w : ℕ) (s : List ℕ) (at : ℕ) (l : Line w s at) where
  step : (k n d m : ℕ) → n ≡ number_from s at k → digit_value (get_or s (at + k) 0) ≡ d → m ≡ n * 16 + d
      → m ≡ number_from s at (k + 1)
  step k n d m p q z = z ∙ number_more s at k n d p (sym q)

  digit : (k : ℕ) → k < 8 → digit_value (get_or s (at + k) 0) ≡ w / 16 ^ (7 - k) % 16
  digit k h = written_read (get_or s (at + k) 0) (w / 16 ^ (7 - k) % 16) (omega arith) (l.digits k h)

  line_number : number_from s at 8 ≡ w
  line_number =
      let b : w < 4294967296 = l.word in
      let n1 = step 0 0 (w / 268435456 % 16) (w / 268435456) (number_none s at) (digit 0 (omega arith)) (omega arith) in
      let n2 = step 1 (w / 268435456) (w / 16777216 % 16) (w / 16777216) n1 (digit 1 (omega arith)) (omega arith) in
      let n3 = step 2 (w / 16777216) (w / 1048576 % 16) (w / 1048576) n2 (digit 2 (omega arith)) (omega arith) in
      let n4 = step 3 (w / 1048576) (w / 65536 % 16) (w / 65536) n3 (digit 3 (omega arith)) (omega arith) in
      let n5 = step 4 (w / 65536) (w / 4096 % 16) (w / 4096) n4 (digit 4 (omega arith)) (omega arith) in
      let n6 = step 5 (w / 4096) (w / 256 % 16) (w / 256) n5 (digit 5 (omega arith)) (omega arith) in
      let n7 = step 6 (w / 256) (w / 16 % 16) (w / 16) n6 (digit 6 (omega arith)) (omega arith) in
      sym (step 7 (w / 16) (w / 1 % 16) w n7 (digit 7 (omega arith)) (omega arith))

-- and an input that is read has such lines
module _ (s : List ℕ) (y : readable s ≡ true) (i : ℕ) (h : i < 12) where
  abbrev at : ℕ
  at = 9 * i

  n : ℕ → ℕ
  n k = number_from s at k

  d : ℕ → ℕ
  d k = digit_value (get_or s (at + k) 0)

  more : (k : ℕ) → n k * 16 + d k ≡ n (k + 1)
  unfolding n d
  more k = number_more s at k (number_from s at k) (digit_value (get_or s (at + k) 0)) refl refl

  less : (k : ℕ) → k < 8 → d k < 16
  unfolding d
  less k m = digit_small s y i k h m

  front7 : n 8 / 16 ≡ n 7
  front7 = omega (arith, more 7, less 7 (omega arith))

  front6 : n 8 / 256 ≡ n 6
  front6 = omega (arith, front7, more 6, less 6 (omega arith))

  front5 : n 8 / 4096 ≡ n 5
  front5 = omega (arith, front6, more 5, less 5 (omega arith))

  front4 : n 8 / 65536 ≡ n 4
  front4 = omega (arith, front5, more 4, less 4 (omega arith))

  front3 : n 8 / 1048576 ≡ n 3
  front3 = omega (arith, front4, more 3, less 3 (omega arith))

  front2 : n 8 / 16777216 ≡ n 2
  front2 = omega (arith, front3, more 2, less 2 (omega arith))

  front1 : n 8 / 268435456 ≡ n 1
  front1 = omega (arith, front2, more 1, less 1 (omega arith))

  digit_is : (k : ℕ) → k < 8 → d k ≡ n 8 / 16 ^ (7 - k) % 16
  digit_is zero m = omega (arith, front1, more 0, less 0 m)
  digit_is (suc zero) m = omega (arith, front2, more 1, less 1 m)
  digit_is (suc (suc zero)) m = omega (arith, front3, more 2, less 2 m)
  digit_is (suc (suc (suc zero))) m = omega (arith, front4, more 3, less 3 m)
  digit_is (suc (suc (suc (suc zero)))) m = omega (arith, front5, more 4, less 4 m)
  digit_is (suc (suc (suc (suc (suc zero))))) m = omega (arith, front6, more 5, less 5 m)
  digit_is (suc (suc (suc (suc (suc (suc zero)))))) m = omega (arith, front7, more 6, less 6 m)
  digit_is (suc (suc (suc (suc (suc (suc (suc zero))))))) m = omega (arith, more 7, less 7 m)
  digit_is (suc (suc (suc (suc (suc (suc (suc (suc k)))))))) m = absurd (omega arith)

  its_line : Line (number s i) s (9 * i)
  unfolding n d
  its_line = record {
    word = below s (9 * i) 8 (λ k m. digit_small s y i k h m);
    digits = λ k m. subst (Writes (get_or s (9 * i + k) 0)) (digit_is k m)
        (read_written (get_or s (9 * i + k) 0) (digit_small s y i k h m));
    newline =
        eqb-true (get_or s (9 * i + 8) 0) 10
        (newline_there (get_or s (9 * i + 8) 0) (9 * i + 8) (omega arith) ∙ in_its_place s y (9 * i + 8) (omega arith));
  }

-- ---- the input

module _ (ws s : List ℕ) (t : TwelveLines ws s) where
  placed : (p : ℕ) → p < 108 → in_place (get_or s p 0) p ≡ true
  placed p h = go (eqb (p % 9) 8) refl
    where
      go : (x : Bool) → eqb (p % 9) 8 ≡ x → in_place (get_or s p 0) p ≡ true
      go true e =
          let f = eqb-true (p % 9) 8 e in
          let q : p ≡ 9 * (p / 9) + 8 = omega arith in
          sym (newline_there (get_or s p 0) p f)
          ∙ eq-eqb (get_or s p 0) 10 (ap (λ (x : ℕ). get_or s x 0) q ∙ (t.line (p / 9) (omega arith)).newline)
      go false e =
          let f = eqb-false (p % 9) 8 e in
          let q : p ≡ 9 * (p / 9) + p % 9 = omega arith in
          let l = t.line (p / 9) (omega arith) in
          let g = ap (λ (x : ℕ). digit_value (get_or s x 0)) q
          ∙ digit (get_or ws (p / 9) 0) s (9 * (p / 9)) l (p % 9) (omega arith) in
          sym (digit_there (get_or s p 0) p f (digit_value (get_or s p 0)) refl)
          ∙ lt-ltb (digit_value (get_or s p 0)) 16 (omega (arith, g))

  are_read : readable s ≡ true
  are_read =
      sym (read_by s t.size)
      ∙ eq-eqb (first_out s) 108 (least_absent (out_of_place s) 0 108 (λ p a b. ap not (placed p b)))

  on_line : (i : ℕ) → i < 12 → number s i ≡ get_or ws i 0
  on_line i h = line_number (get_or ws i 0) s (9 * i) (t.line i h)

  registers_are : registers_of s ≡ twelve_registers ws
  registers_are = same_registers (number s) (λ i. get_or ws i 0) on_line

pub reads_the_words : ReadsTheWords
unfolding printed
reads_the_words ws s t =
    pick_first (report (registers_of s)) unread (are_read ws s t) ∙ ap report (registers_are ws s t)

-- no report is the text of an unread input
no_report : (v : Ruling Refusal) (ss : List Section) → told v ss ≡ unread → ⊥
no_report allowed ss e = absurd (omega (arith, ap (λ (l : List ℕ). get_or l 7 0) e))
no_report (refused a) ss e = absurd (omega (arith, ap (λ (l : List ℕ). get_or l 7 0) e))

pub unread_is_exact : UnreadIsExact
unfolding printed
unread_is_exact s = (
  λ e ws t. no_report (verdict (twelve_registers ws) bench_words) (sections_of (twelve_registers ws))
      (sym (reads_the_words ws s t) ∙ e),
  λ n. go n (readable s) refl,
)
  where
    lines : readable s ≡ true → TwelveLines (run (number s) 0 12) s
    lines y = record {
      size = read_length s y;
      line =
          λ i h. subst (λ (w : ℕ). Line w s (9 * i))
          (sym (get_or_run (number s) 0 12 i h ∙ ap (number s) (zero-add i))) (its_line s y i h);
    }

    go : ((ws : List ℕ) → TwelveLines ws s → ⊥) → (x : Bool) → readable s ≡ x
        → pick x (report (registers_of s)) unread ≡ unread
    go n true y = absurd (n (run (number s) 0 12) (lines y))
    go n false y = refl
