-- The verdict's sections are those of the table of a legal layout, and have the same words.
-- Assumes nothing.
use Prim.Native.Nat.{ℕ, zero, suc, ◌+◌, ◌*◌, ◌≤◌, ◌<◌}
use mathlib.Core.Path.{◌≡◌, refl, sym, ap, subst, ◌∙◌}
use mathlib.Core.Bool.{Bool, true, false}
use mathlib.Core.List.{List, [], ◌∷◌, map}
use mathlib.Core.Logic.{◌⊎◌, inl, inr}
use borrow.Author.Tests.{eqb-true, eqb-false}
use native.Mathlib.Nat.{mul-le-mul_right}
use native.Mathlib.Omega.{arith}
use lib.Dec.{eqb, eqb→eq}
use lib.ListN.{get_or, get_or-map}
use Rattle.words.specs.Choice.{pick}
use Rattle.words.proofs.Tables.{every, every_at}
use Rattle.frame.specs.Sizes.{element_words}
use Rattle.registers.specs.Fields.{fifo_start, fifo_size, fifo_code, buffers_start, buffers, buffer_code}
use Rattle.registers.specs.Fields.{tx_start, tx_count, tx_code}
use Rattle.registers.proofs.Fifos.{code_lt}
use Rattle.registers.specs.declared.Registers.{Registers}
use Rattle.layout.specs.Sections.{none, section, filters11_section, filters29_section, event_section, sections_of}
use Rattle.layout.specs.Verdict.{end}
use Rattle.layout.specs.Legal.{words_by_size, SectionRow, section_row, section_table, row_of, Has}
use Rattle.layout.specs.declared.sections.Section.{Section}

-- the two tables of sizes agree
sizes_agree : (code : ℕ) → code < 8 → words_by_size code ≡ element_words code
unfolding every
sizes_agree code h =
    eqb→eq (words_by_size code) (element_words code)
    (every_at (λ i x. eqb (words_by_size i) x) (4 ∷ 5 ∷ 6 ∷ 7 ∷ 8 ∷ 10 ∷ 14 ∷ 18 ∷ []) tt code h)

of_row : SectionRow → Section
of_row w = section w.start w.count w.each

-- the sections, with the words of the elements of four of them to be set
lay : Registers → ℕ → ℕ → ℕ → ℕ → List Section
lay r fifo0 fifo1 rx tx =
    filters11_section r
    ∷ filters29_section r
    ∷ section (fifo_start r 0) (fifo_size r 0) fifo0
    ∷ section (fifo_start r 1) (fifo_size r 1) fifo1
    ∷ section (buffers_start r) (buffers r) rx
    ∷ event_section r
    ∷ section (tx_start r) (tx_count r) tx
    ∷ []

module _ (r : Registers) where
  sections_rows : map of_row (section_table r) ≡ sections_of r
  unfolding of_row lay
  sections_rows =
      let a = sizes_agree (fifo_code r 0) (code_lt r 0) in
      let b = sizes_agree (fifo_code r 1) (code_lt r 1) in
      let c = sizes_agree (buffer_code r) (omega arith) in
      let d = sizes_agree (tx_code r) (omega arith) in
      λ i. lay r (a i) (b i) (c i) (d i)

  -- section i, from its row
  section_row_is : (i : ℕ)
      → get_or (sections_of r) i none ≡ section (row_of r i).start (row_of r i).count (row_of r i).each
  unfolding of_row section
  section_row_is i =
      ap (λ (ss : List Section). get_or ss i none) (sym sections_rows)
      ∙ get_or-map of_row (section_table r) i (section_row 0 0 0)

-- a section that has words
abbrev laid : ℕ → ℕ → ℕ → Section
laid start count each = record { start = record { 0 = start }; words = count * each }

-- a section's words are those of its elements
pub section_words : (start count each : ℕ) → (section start count each).words ≡ count * each
unfolding section
section_words start count each = go (eqb count 0) refl
  where
    go : (t : Bool) → eqb count 0 ≡ t → (pick t none (laid start count each)).words ≡ count * each
    go true e = omega (arith, ap (λ (n : ℕ). n * each) (eqb-true count 0 e))
    go false e = refl

-- word k is a section's
pub record Within (s : Section) (k : ℕ) : Type 0 where
  pub from : s.start.0 ≤ k
  pub below : k < end s

module _ (start count each k : ℕ) where
  within : start ≤ k → k < start + count * each → Within (section start count each) k
  unfolding section
  within a b = go (eqb count 0) refl
    where
      go : (t : Bool) → eqb count 0 ≡ t → Within (pick t none (laid start count each)) k
      go true e = let z = eqb-true count 0 e in absurd (omega (arith, ap (λ (n : ℕ). n * each) z))
      go false e = record { from = a; below = b }

  without : Within (section start count each) k → (start ≤ k) × (k < start + count * each)
  unfolding section
  without = go (eqb count 0)
    where
      go : (t : Bool) → Within (pick t none (laid start count each)) k → (start ≤ k) × (k < start + count * each)
      go true w = absurd (omega (arith, w.below))
      go false w = (w.from, w.below)

-- a section of elements of some words has no words and starts at 0, or has a first word
some : (start count each : ℕ) → 0 < each → (section start count each ≡ none) ⊎ (0 < (section start count each).words)
unfolding section
some start count each h = go (eqb count 0) refl
  where
    go : (t : Bool) → eqb count 0 ≡ t
        → (pick t none (laid start count each) ≡ none)
        ⊎ (0 < (pick t none (laid start count each)).words)
    go true e = inl refl
    go false e =
        let n = eqb-false count 0 e in let l : 1 ≤ count = omega arith in inr (omega (arith, mul-le-mul_right each l))

module _ (r : Registers) where
  pub has_within : (i k : ℕ) → Has r i k → Within (get_or (sections_of r) i none) k
  has_within i k h = subst (λ (s : Section). Within s k) (sym (section_row_is r i)) (within _ _ _ k h.from h.below)

  pub within_has : (i k : ℕ) → Within (get_or (sections_of r) i none) k → Has r i k
  within_has i k w =
      let p = without _ _ _ k (subst (λ (s : Section). Within s k) (section_row_is r i) w) in
      record { from = p.0; below = p.1 }

  each_some : (i : ℕ) → i < 7 → 0 < (row_of r i).each
  each_some zero h = omega arith
  each_some (suc zero) h = omega arith
  each_some (suc (suc zero)) h = omega arith
  each_some (suc (suc (suc zero))) h = omega arith
  each_some (suc (suc (suc (suc zero)))) h = omega arith
  each_some (suc (suc (suc (suc (suc zero))))) h = omega arith
  each_some (suc (suc (suc (suc (suc (suc zero)))))) h = omega arith
  each_some (suc (suc (suc (suc (suc (suc (suc i))))))) h = absurd (omega arith)

  pub empty_or_some : (i : ℕ) → i < 7 → (get_or (sections_of r) i none ≡ none) ⊎ (0 < (get_or (sections_of r) i none).words)
  empty_or_some i h =
      subst (λ (s : Section). (s ≡ none) ⊎ (0 < s.words)) (sym (section_row_is r i)) (some _ _ _ (each_some i h))
