-- No text is over 512 bytes: each number that is printed has at most four digits.
-- Assumes nothing.
use Rattle.std.proofs.Common.{◌≡◌, ℕ, zero, suc, ◌+◌, ◌*◌, ◌-◌, ◌≤◌, ◌<◌, Bool, true, false, List, length, get_or}
use Rattle.std.proofs.Common.{refl, sym, subst, ◌∙◌, arith, decimal}
use Rattle.std.proofs.lemmas.Fmt.{length-decimal-le}
use Rattle.std.proofs.lemmas.List.{length-append}
use Rattle.std.specs.Prelude.{codes}
use Rattle.words.specs.Choice.{pick}
use Rattle.words.specs.Least.{least_from}
use Rattle.words.specs.Rules.{Ruling, allowed, refused, refuse_if}
use Rattle.words.proofs.Lowest.{least_within}
use Rattle.words.proofs.Rulings.{first_refused, refused_by}
use Rattle.shape.specs.Refusals.{Refusal, names}
use Rattle.registers.specs.declared.Registers.{Registers}
use Rattle.layout.specs.Sections.{none, sections_of}
use Rattle.layout.specs.Verdict.{over, end, past, shares, has_partner, partner, rules, verdict}
use Rattle.layout.specs.declared.sections.Section.{Section}
use Rattle.layout.proofs.Accepted.{accepted_is_legal, ends_inside, verdict_rules}
use Rattle.printout.specs.Input.{readable, bench_words, registers_of}
use Rattle.printout.specs.Printed.{row, rows, unread, ok, refusal, told, report, printed}
use Rattle.printout.specs.Promises.{Short}

module _ (a b c : ℕ) where
  length_row : length (row a b c) ≡ length (decimal a) + length (decimal b) + length (decimal c) + 3
  length_row = grind (arith, length-append)

  row_short : a < 10000 → b < 10000 → c < 10000 → length (row a b c) ≤ 15
  row_short h i j = omega (
    arith,
    length_row,
    length-decimal-le 4 a (omega arith) h (omega arith),
    length-decimal-le 4 b (omega arith) i (omega arith),
    length-decimal-le 4 c (omega arith) j (omega arith),
  )

-- ---- sections that end within the memory

module _ (ss : List Section) (inside : (i : ℕ) → i < 7 → end (get_or ss i none) ≤ bench_words) where
  rows_short : (n : ℕ) → n ≤ 7 → length (rows ss n) ≤ 15 * n
  unfolding rows
  rows_short zero h = omega arith
  rows_short (suc n) h =
      let s = get_or ss n none in
      let e = inside n (omega arith) in
      omega (
        arith,
        length-append (rows ss n) (row n s.start.0 s.words),
        rows_short n (omega arith),
        row_short n s.start.0 s.words (omega arith) (omega (arith, e)) (omega (arith, e)),
      )

  ok_short : length (ok ss) ≤ 512
  ok_short = omega (arith, length-append (codes "layout ok\n") (rows ss 7), rows_short 7 (omega arith))

-- ---- a refusal's number, and the sections that it names

record Small (a : Refusal) : Type 0 where
  number : a.number < 10000
  section : a.section < 10000
  other : a.other < 10000

refusal_short : (a : Refusal) → Small a → length (refusal a) ≤ 512
refusal_short a s = omega (
  arith,
  length-append (codes "layout refused ") (row a.number a.section a.other),
  row_short a.number a.section a.other s.number s.section s.other,
)

module _ (r : Registers) (words : ℕ) (a : Refusal) where
  small_by : (t : Bool) (n i j : ℕ) → n ≤ 15 → i ≤ 8 → j ≤ 8 → refuse_if t (names n i j) ≡ refused a → Small a
  small_by t n i j h k l e =
      subst Small (refused_by t (names n i j) a e).1
      (record { number = omega arith; section = omega arith; other = omega arith })

  small_at : (k : ℕ) → get_or (rules r words) k allowed ≡ refused a → Small a
  unfolding partner
  small_at zero e = small_by _ 10 7 7 (omega arith) (omega arith) (omega arith) e
  small_at (suc zero) e = small_by _ 11 7 7 (omega arith) (omega arith) (omega arith) e
  small_at (suc (suc zero)) e =
      let i = least_from (over r) 0 7 in
      small_by _ 12 i 7 (omega arith) (omega (arith, least_within (over r) 0 7)) (omega arith) e
  small_at (suc (suc (suc zero))) e = small_by _ 13 7 7 (omega arith) (omega arith) (omega arith) e
  small_at (suc (suc (suc (suc zero)))) e =
      let p = past r.memory (sections_of r) in
      small_by _ 14 (least_from p 0 7) 7 (omega arith) (omega (arith, least_within p 0 7)) (omega arith) e
  small_at (suc (suc (suc (suc (suc zero))))) e =
      let ss = sections_of r in
      let i = least_from (has_partner ss) 0 7 in
      let w = least_within (has_partner ss) 0 7 in
      let v = least_within (λ j. shares (get_or ss i none) (get_or ss j none)) (i + 1) (7 - (i + 1)) in
      small_by _ 15 i (partner ss i) (omega arith) (omega (arith, w)) (omega (arith, w, v)) e
  small_at (suc (suc (suc (suc (suc (suc k)))))) e = let z : ◌≡◌ {A = ℕ} 0 1 = cc in absurd (omega arith)

  small : verdict r words ≡ refused a → Small a
  small e = let d = first_refused (rules r words) a (sym (verdict_rules r words) ∙ e) in small_at d.0 d.1.1

-- ---- what is printed

report_short : (r : Registers) → length (report r) ≤ 512
report_short r = go (verdict r bench_words) refl
  where
    go : (v : Ruling Refusal) → verdict r bench_words ≡ v → length (told v (sections_of r)) ≤ 512
    go allowed e = ok_short (sections_of r) (ends_inside r bench_words ((accepted_is_legal r bench_words).0 e))
    go (refused a) e = refusal_short a (small r bench_words a e)

pub short : Short
unfolding printed
short s = go (readable s)
  where
    go : (t : Bool) → length (pick t (report (registers_of s)) unread) ≤ 512
    go true = report_short (registers_of s)
    go false = omega arith

pub text_short : (t s : List ℕ) → t ≡ printed s → length t ≤ 512
text_short t s e = rw e (short s)
