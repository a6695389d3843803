-- The test of 12 says of each section that a count of it is over its most, in the words of a legal layout.
-- Assumes nothing.
use Prim.Native.Nat.{ℕ, zero, suc, ◌+◌, ◌≤◌, ◌<◌}
use mathlib.Core.Path.{◌≡◌, refl, sym, ap, ◌∙◌}
use mathlib.Core.Bool.{Bool, true, false, ◌||◌}
use borrow.Author.Tests.{ltb-true, ltb-false, lt-ltb}
use native.Mathlib.Omega.{arith}
use lib.Dec.{ltb}
use Rattle.registers.specs.Fields.{dedicated, shared}
use Rattle.registers.specs.declared.Registers.{Registers}
use Rattle.layout.specs.Verdict.{over}
use Rattle.layout.specs.Legal.{count_of, TooMany, WithinMost, Counted}

or_second : (a : Bool) → (a || true) ≡ true
or_second true = refl
or_second false = refl

module _ (r : Registers) where
  row_over : (n i : ℕ) → n < 8 → (count_of r n).section ≡ i → (count_of r n).most < (count_of r n).count → over r i ≡ true
  row_over zero i h s l = ap (over r) (sym s) ∙ lt-ltb _ _ l
  row_over (suc zero) i h s l = ap (over r) (sym s) ∙ lt-ltb _ _ l
  row_over (suc (suc zero)) i h s l = ap (over r) (sym s) ∙ lt-ltb _ _ l
  row_over (suc (suc (suc zero))) i h s l = ap (over r) (sym s) ∙ lt-ltb _ _ l
  row_over (suc (suc (suc (suc zero)))) i h s l = ap (over r) (sym s) ∙ lt-ltb _ _ l
  row_over (suc (suc (suc (suc (suc zero))))) i h s l = ap (over r) (sym s) ∙ lt-ltb _ _ l
  row_over (suc (suc (suc (suc (suc (suc zero)))))) i h s l =
      ap (over r) (sym s) ∙ ap (λ (t : Bool). t || ltb 32 (shared r)) (lt-ltb _ _ l)
  row_over (suc (suc (suc (suc (suc (suc (suc zero))))))) i h s l =
      ap (over r) (sym s)
      ∙ ap (λ (t : Bool). ltb 32 (dedicated r) || t) (lt-ltb _ _ l)
      ∙ or_second (ltb 32 (dedicated r))
  row_over (suc (suc (suc (suc (suc (suc (suc (suc n)))))))) i h s l = absurd (omega arith)

  pub many_over : (i : ℕ) → TooMany r i → over r i ≡ true
  many_over i t = row_over t.row i t.inside t.section t.above

  -- row n counts for section i
  row_many : (n i : ℕ) → n < 8 → (count_of r n).section ≡ i → ltb (count_of r n).most (count_of r n).count ≡ true
      → TooMany r i
  row_many n i h s e = record { row = n; inside = h; section = s; above = ltb-true _ _ e }

  pub over_many : (i : ℕ) → i < 7 → over r i ≡ true → TooMany r i
  over_many zero h e = row_many 0 0 (omega arith) refl e
  over_many (suc zero) h e = row_many 1 1 (omega arith) refl e
  over_many (suc (suc zero)) h e = row_many 2 2 (omega arith) refl e
  over_many (suc (suc (suc zero))) h e = row_many 3 3 (omega arith) refl e
  over_many (suc (suc (suc (suc zero)))) h e = row_many 4 4 (omega arith) refl e
  over_many (suc (suc (suc (suc (suc zero))))) h e = row_many 5 5 (omega arith) refl e
  over_many (suc (suc (suc (suc (suc (suc zero)))))) h e = go (ltb 32 (dedicated r)) refl e
    where
      go : (t : Bool) → ltb 32 (dedicated r) ≡ t → (t || ltb 32 (shared r)) ≡ true → TooMany r 6
      go true f g = row_many 6 6 (omega arith) refl f
      go false f g = row_many 7 6 (omega arith) refl g
  over_many (suc (suc (suc (suc (suc (suc (suc i))))))) h e = absurd (omega arith)

  -- where a section has none, the test says so
  pub few_not_over : (i : ℕ) → i < 7 → (TooMany r i → ⊥) → over r i ≡ false
  few_not_over i h n = go (over r i) refl
    where
      go : (t : Bool) → over r i ≡ t → t ≡ false
      go true e = absurd (n (over_many i h e))
      go false e = refl

  -- each section that a row counts for is one of the seven
  row_section : (n : ℕ) → n < 8 → (count_of r n).section < 7
  row_section zero h = omega arith
  row_section (suc zero) h = omega arith
  row_section (suc (suc zero)) h = omega arith
  row_section (suc (suc (suc zero))) h = omega arith
  row_section (suc (suc (suc (suc zero)))) h = omega arith
  row_section (suc (suc (suc (suc (suc zero))))) h = omega arith
  row_section (suc (suc (suc (suc (suc (suc zero)))))) h = omega arith
  row_section (suc (suc (suc (suc (suc (suc (suc zero))))))) h = omega arith
  row_section (suc (suc (suc (suc (suc (suc (suc (suc n)))))))) h = absurd (omega arith)

  pub many_section : (i : ℕ) → TooMany r i → i < 7
  many_section i t = omega (arith, row_section t.row t.inside, t.section)

  -- no section is over, exactly where all counts are within their most
  pub none_over : ((i : ℕ) → i < 7 → over r i ≡ false) → WithinMost r
  none_over o n h = ltb-false _ _ (go (ltb (count_of r n).most (count_of r n).count) refl)
    where
      go : (t : Bool) → ltb (count_of r n).most (count_of r n).count ≡ t → t ≡ false
      go true e =
          let i = (count_of r n).section in
          let z : true ≡ false = sym (many_over i (row_many n i h refl e)) ∙ o i (row_section n h) in
          cc
      go false e = refl

  pub all_within : WithinMost r → (i : ℕ) → i < 7 → over r i ≡ false
  all_within w i h = few_not_over i h (λ t. omega (arith, w t.row t.inside, t.above))

  -- with the Tx buffers together, that is the counts of a legal layout
  pub counted_of : WithinMost r → dedicated r + shared r ≤ 32 → Counted r
  counted_of w t = record {
    filters11 = w 0 (omega arith);
    filters29 = w 1 (omega arith);
    fifo0 = w 2 (omega arith);
    fifo1 = w 3 (omega arith);
    buffers = w 4 (omega arith);
    events = w 5 (omega arith);
    dedicated = w 6 (omega arith);
    shared = w 7 (omega arith);
    together = t;
  }

  pub within_of : Counted r → WithinMost r
  within_of c zero h = c.filters11
  within_of c (suc zero) h = c.filters29
  within_of c (suc (suc zero)) h = c.fifo0
  within_of c (suc (suc (suc zero))) h = c.fifo1
  within_of c (suc (suc (suc (suc zero)))) h = c.buffers
  within_of c (suc (suc (suc (suc (suc zero))))) h = c.events
  within_of c (suc (suc (suc (suc (suc (suc zero)))))) h = c.dedicated
  within_of c (suc (suc (suc (suc (suc (suc (suc zero))))))) h = c.shared
  within_of c (suc (suc (suc (suc (suc (suc (suc (suc n)))))))) h = absurd (omega arith)
