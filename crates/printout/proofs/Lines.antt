-- The twelve lines: which inputs are read, and the number that a line's digits make.
-- Assumes nothing.
use Prim.Native.Nat.{ℕ, zero, suc, ◌+◌, ◌*◌, ◌%◌, ◌^◌, ◌≤◌, ◌<◌}
use mathlib.Core.Path.{◌≡◌, refl, sym, ap, ap₂, ◌∙◌}
use mathlib.Core.Bool.{Bool, true, false, not, ◌&&◌}
use mathlib.Core.List.{List}
use borrow.Author.Tests.{eqb-true, eq-eqb, ne_eqb, ltb-true, ltb-false, lt-ltb, not-false}
use native.Mathlib.Nat.{pow-suc, pow-le-pow_right}
use native.Mathlib.Numerals.{add-one}
use native.Mathlib.Omega.{arith}
use lib.Dec.{eqb, ltb}
use lib.ListN.{length, get_or}
use Rattle.std.specs.Char.{digit_value}
use Rattle.std.proofs.Common.{below_more, zero-add, take, drop, set, ◌/◌, ◌++◌}
use Rattle.std.proofs.lemmas.Grind.{common_steps}
use Rattle.std.proofs.Math.Seq.{drop-append_seam}
use Rattle.std.proofs.lemmas.List.{get_or-take, get_or-drop, get_or_append_left, length-append, length-drop, drop-drop}
use Rattle.words.specs.Choice.{pick}
use Rattle.words.proofs.Choices.{pick_first, pick_second, and_both}
use Rattle.words.proofs.Lowest.{least_below, least_absent}
use Rattle.registers.specs.Given.{registers_from}
use Rattle.registers.specs.declared.Registers.{Registers}
use Rattle.printout.specs.Input.{LineRead, in_place, out_of_place, first_out, readable, number_from, number}
use Rattle.printout.specs.Input.{bench_words, registers_of}

-- ---- a byte in its place

module _ (b k : ℕ) where
  pub newline_there : k % 9 ≡ 8 → eqb b 10 ≡ in_place b k
  unfolding in_place
  newline_there e = sym (pick_first (eqb b 10) (ltb (digit_value b) 16) (eq-eqb (k % 9) 8 e))

  pub digit_there : (k % 9 ≡ 8 → ⊥) → (d : ℕ) → d ≡ digit_value b → ltb d 16 ≡ in_place b k
  unfolding in_place
  digit_there n d e =
      ap (λ (x : ℕ). ltb x 16) e ∙ sym (pick_second (eqb b 10) (ltb (digit_value b) 16) (ne_eqb (k % 9) 8 n))

-- ---- an input that is read

module _ (s : List ℕ) where
  pub wrong_length : (length s ≡ 108 → ⊥) → false ≡ readable s
  unfolding readable
  wrong_length n = sym (ap (λ (t : Bool). t && eqb (first_out s) 108) (ne_eqb (length s) 108 n))

  pub read_by : length s ≡ 108 → eqb (first_out s) 108 ≡ readable s
  unfolding readable
  read_by l = sym (ap (λ (t : Bool). t && eqb (first_out s) 108) (eq-eqb (length s) 108 l))

  module _ (y : readable s ≡ true) where
    pub read_length : length s ≡ 108
    unfolding readable
    read_length = eqb-true (length s) 108 (and_both (eqb (length s) 108) (eqb (first_out s) 108) y).0

    pub digit_small : (i k : ℕ) → i < 12 → k < 8 → digit_value (get_or s (9 * i + k) 0) < 16
    unfolding in_place
    digit_small i k h m =
        let p = 9 * i + k in
        let e = eqb-true (first_out s) 108 (read_by read_length ∙ y) in
        let f : in_place (get_or s p 0) p ≡ true =
        not-false _ (least_below (out_of_place s) 0 108 p (omega arith) (omega arith)) in
        ltb-true _ _
        (sym (pick_second (eqb (get_or s p 0) 10) (ltb (digit_value (get_or s p 0)) 16) (ne_eqb (p % 9) 8 (λ q. omega arith)))
        ∙ f)

    pub in_its_place : (p : ℕ) → p < 108 → in_place (get_or s p 0) p ≡ true
    in_its_place p m =
        not-false _
        (least_below (out_of_place s) 0 108 p (omega arith)
        (omega (arith, eqb-true (first_out s) 108 (read_by read_length ∙ y))))

-- registers go by their twelve words
pub same_registers : (f g : ℕ → ℕ) → ((i : ℕ) → i < 12 → f i ≡ g i)
    → registers_from f false false bench_words ≡ registers_from g false false bench_words
same_registers f g h = λ j. record {
  sidfc = record { word = h 0 (omega arith) j };
  xidfc = record { word = h 1 (omega arith) j };
  rxf0c = record { word = h 2 (omega arith) j };
  rxf1c = record { word = h 3 (omega arith) j };
  rxbc = record { word = h 4 (omega arith) j };
  rxesc = record { word = h 5 (omega arith) j };
  txefc = record { word = h 6 (omega arith) j };
  txbc = record { word = h 7 (omega arith) j };
  txesc = record { word = h 8 (omega arith) j };
  gfc = record { word = h 9 (omega arith) j };
  xidam = record { word = h 10 (omega arith) j };
  buffers = h 11 (omega arith) j;
  fdon = false;
  rateon = false;
  memory = 2560;
}

-- ---- the number on a line

module _ (s : List ℕ) (at : ℕ) where
  pub number_none : 0 ≡ number_from s at 0
  unfolding number_from
  number_none = refl

  pub number_more : (k n d : ℕ) → n ≡ number_from s at k → d ≡ digit_value (get_or s (at + k) 0)
      → n * 16 + d ≡ number_from s at (k + 1)
  unfolding number_from
  number_more k n d e f = ap₂ (λ (x y : ℕ). x * 16 + y) e f ∙ ap (number_from s at) (sym (add-one k))

-- k digits make a number below 16 ^ k, so eight of them fit 32 bits
module _ (s : List ℕ) (at : ℕ) where
  pub below : (k : ℕ) → ((j : ℕ) → j < k → digit_value (get_or s (at + j) 0) < 16) → number_from s at k < 16 ^ k
  unfolding number_from
  below zero f = omega arith
  below (suc k) f = omega (arith, below k (λ j h. f j (omega arith)), f k (omega arith), pow-suc 16 k)

-- ---- one line by itself

module _ (s : List ℕ) where
  -- the first k bytes are digits
  pub record Digits (k : ℕ) : Type 0 where
    pub small : (j : ℕ) → j < k → digit_value (get_or s j 0) < 16

  pub no_digits : Digits 0
  no_digits = record { small = λ j h. absurd (omega arith) }

  of_digits : (k : ℕ) → k < 8 → get_or (take 8 s) k 0 ≡ get_or s k 0
  of_digits k l = get_or-take 8 s k 0 l

  module _ (k : ℕ) (l : k < 8) where
    pub one_more_digit : Digits k → digit_value (get_or (take 8 s) k 0) < 16 → Digits (k + 1)
    one_more_digit d e =
        record { small = below_more (λ j. digit_value (get_or s j 0) < 16) k d.small (rw (sym (of_digits k l)) e) }

    pub line_more : (n x : ℕ) → n ≡ number_from s 0 k → x ≡ digit_value (get_or (take 8 s) k 0)
        → n * 16 + x ≡ number_from s 0 (k + 1)
    line_more n x e f =
        number_more s 0 k n x e
        (f ∙ ap digit_value (of_digits k l) ∙ ap (λ (j : ℕ). digit_value (get_or s j 0)) (sym (zero-add k)))

    pub no_line : (digit_value (get_or (take 8 s) k 0) < 16 → ⊥) → LineRead s → ⊥
    no_line n h =
        n
        (rw (of_digits k l)
        (ltb-true (digit_value (get_or s k 0)) 16
        (digit_there (get_or s k 0) k (λ e. omega arith) (digit_value (get_or s k 0)) refl ∙ h k (omega arith))))

  module _ (k n : ℕ) (d : Digits k) (e : n ≡ number_from s 0 k) where
    number_below : number_from s 0 k < 16 ^ k
    number_below = below s 0 k (λ j h. rw (zero-add j) (d.small j h))

    pub shifted_fits : k < 8 → n * 16 < 2 ^ 32
    shifted_fits l =
        omega (arith, number_below, pow-le-pow_right {n = 16} (omega arith) {i = k} {j = 7} (omega arith))

    pub number_fits : k < 8 → (x b : ℕ) → digit_value b < 16 → x ≡ digit_value b → n * 16 + x < 2 ^ 32
    number_fits l x b f g =
        omega (arith, number_below, pow-le-pow_right {n = 16} (omega arith) {i = k} {j = 7} (omega arith))

    pub line_number : k ≤ 8 → 8 ≤ k → n ≡ number_from s 0 8
    line_number h l = e ∙ ap (number_from s 0) (omega arith)

    pub line_there : k ≤ 8 → 8 ≤ k → get_or s 8 0 ≡ 10 → LineRead s
    line_there h l f j m = go (ltb j 8) refl
      where
        go : (t : Bool) → ltb j 8 ≡ t → in_place (get_or s j 0) j ≡ true
        go true g =
            let b = ltb-true j 8 g in
            sym (digit_there (get_or s j 0) j (λ e. omega arith) (digit_value (get_or s j 0)) refl)
            ∙ lt-ltb (digit_value (get_or s j 0)) 16 (d.small j (omega arith))
        go false g =
            let q : j ≡ 8 = omega (arith, ltb-false j 8 g) in
            ap (λ (x : ℕ). in_place (get_or s x 0) x) q
            ∙ sym (newline_there (get_or s 8 0) 8 refl)
            ∙ eq-eqb (get_or s 8 0) 10 f

  pub no_newline : (get_or s 8 0 ≡ 10 → ⊥) → LineRead s → ⊥
  no_newline n h =
      n (eqb-true (get_or s 8 0) 10 (newline_there (get_or s 8 0) 8 refl ∙ h 8 (omega arith)))

-- ---- the lines of an input

-- the first i lines are read, and their numbers are the words
pub record Lines (s ws : List ℕ) (i : ℕ) : Type 0 where
  pub read : (j k : ℕ) → j < i → k < 9 → in_place (get_or s (9 * j + k) 0) k ≡ true
  pub word : (j : ℕ) → j < i → get_or ws j 0 ≡ number s j

pub no_lines : (s ws : List ℕ) → Lines s ws 0
no_lines s ws = record { read = λ j k h. absurd (omega arith); word = λ j h. absurd (omega arith) }

-- what may stand at a place goes by its place on the line
on_its_line : (b j k : ℕ) → k < 9 → in_place b (9 * j + k) ≡ in_place b k
unfolding in_place
on_its_line b j k h =
    let e : (9 * j + k) % 9 ≡ k % 9 = omega arith in
    ap (λ (x : ℕ). pick (eqb x 8) (eqb b 10) (ltb (digit_value b) 16)) e

-- line i, and what is left of the input with it and after it
module _ (s : List ℕ) (i : ℕ) (line rest : List ℕ) (nine : length line ≡ 9) (left : line ++ rest ≡ drop (9 * i) s) where
  line_byte : (k : ℕ) → k < 9 → get_or line k 0 ≡ get_or s (9 * i + k) 0
  line_byte k h =
      sym (get_or_append_left line rest 0 k (omega arith))
      ∙ ap (λ (l : List ℕ). get_or l k 0) left
      ∙ get_or-drop (9 * i) s k 0

  line_within : length s ≡ 108 → i < 12
  line_within size =
      omega (arith, ap (λ (l : List ℕ). length l) left, length-append line rest, length-drop (9 * i) s)

  pub left_after : rest ≡ drop (9 * (i + 1)) s
  left_after =
      sym (drop-append_seam line rest)
      ∙ ap (λ (n : ℕ). drop n (line ++ rest)) nine
      ∙ ap (drop 9) left
      ∙ drop-drop 9 (9 * i) s
      ∙ ap (λ (n : ℕ). drop n s) (omega arith)

  line_digits : (k : ℕ) → k ≤ 8 → number_from line 0 k ≡ number_from s (9 * i) k
  unfolding number_from
  line_digits zero h = refl
  line_digits (suc k) h =
      ap₂ (λ (x y : ℕ). x * 16 + digit_value y) (line_digits k (omega arith))
      (ap (λ (j : ℕ). get_or line j 0) (zero-add k) ∙ line_byte k (omega arith))

  -- an input that is read has it
  pub unread_line : (LineRead line → ⊥) → readable s ≡ true → ⊥
  unread_line n y =
      let h = line_within (read_length s y) in
      n
      (λ k m.
      ap (λ (b : ℕ). in_place b k) (line_byte k m)
      ∙ sym (on_its_line (get_or s (9 * i + k) 0) i k m)
      ∙ in_its_place s y (9 * i + k) (omega arith))

  pub one_more_line : (ws : List ℕ) → length ws ≡ 12 → Lines s ws i → length s ≡ 108 → LineRead line → (v : ℕ)
      → v ≡ number_from line 0 8 → Lines s (set ws i v) (i + 1)
  one_more_line ws size l full r v e = record {
    read = λ j k m n. below_more (λ j. in_place (get_or s (9 * j + k) 0) k ≡ true) i (λ j q. l.read j k q n)
        (ap (λ (b : ℕ). in_place b k) (sym (line_byte k n)) ∙ r k n) j m;
    word = below_more (λ j. get_or (set ws i v) j 0 ≡ number s j) i (λ j q. apart j q ∙ l.word j q)
        (here ∙ e ∙ line_digits 8 (omega arith));
  }
    where
      apart : (j : ℕ) → j < i → get_or (set ws i v) j 0 ≡ get_or ws j 0
      apart j q = grind (arith, common_steps)

      here : get_or (set ws i v) i 0 ≡ v
      here = let h = line_within full in grind (arith, common_steps)

pub none_left : (s rest : List ℕ) (i : ℕ) → length s ≡ 108 → rest ≡ drop (9 * i) s → length rest < 9 → 12 ≤ i
none_left s rest i size e h = omega (arith, ap (λ (l : List ℕ). length l) e, length-drop (9 * i) s)

module _ (s ws : List ℕ) (i : ℕ) (l : Lines s ws i) (h : 12 ≤ i) where
  pub all_read : length s ≡ 108 → readable s ≡ true
  all_read size =
      sym (read_by s size)
      ∙ eq-eqb (first_out s) 108 (least_absent (out_of_place s) 0 108 (λ p a b. ap not (placed p b)))
    where
      placed : (p : ℕ) → p < 108 → in_place (get_or s p 0) p ≡ true
      placed p b =
          let q : p ≡ 9 * (p / 9) + p % 9 = omega arith in
          ap (λ (x : ℕ). in_place (get_or s x 0) x) q
          ∙ on_its_line (get_or s (9 * (p / 9) + p % 9) 0) (p / 9) (p % 9) (omega arith)
          ∙ l.read (p / 9) (p % 9) (omega arith) (omega arith)

  pub registers_read : (r : Registers) → r ≡ registers_from (λ j. get_or ws j 0) false false bench_words
      → r ≡ registers_of s
  registers_read r e = e ∙ same_registers (λ j. get_or ws j 0) (number s) (λ j q. l.word j (omega arith))
