-- The filter lists and the areas of a legal layout lie in its memory, whatever the memory's length.
-- Assumes nothing.
use Prim.Native.Nat.{ℕ, zero, suc, ◌+◌, ◌-◌, ◌*◌, ◌≤◌, ◌<◌}
use mathlib.Core.Path.{◌≡◌, refl}
use native.Mathlib.Omega.{arith}
use lib.ListN.{get_or}
use Rattle.frame.specs.Sizes.{element_words}
use Rattle.frame.proofs.SizeLaws.{words_least, words_most}
use Rattle.places.specs.Areas.{Roomy}
use Rattle.places.specs.declared.Area.{Area}
use Rattle.registers.specs.Kinds.{field, section_start, rxfc_count}
use Rattle.registers.specs.Fields.{filters11, filters11_start, filters29, filters29_start}
use Rattle.registers.specs.Fields.{fifo_start, fifo_size, fifo_code, buffers_start, buffers, buffer_code}
use Rattle.registers.specs.Fields.{event_start, event_size, tx_start, tx_count, tx_code}
use Rattle.registers.specs.declared.Registers.{Registers}
use Rattle.registers.proofs.Fifos.{fifo_cases, code_lt}
use Rattle.layout.specs.Sections.{none, section, sections_of}
use Rattle.layout.specs.Verdict.{end}
use Rattle.layout.specs.Legal.{Has, Legal}
use Rattle.layout.proofs.Table.{section_words}
use Rattle.layout.proofs.Accepted.{ends_inside}
use Rattle.areas.specs.Areas.{area_in, fifo_area, buffer_area, event_area, tx_area}
use Rattle.areas.specs.Own.{own}
use Rattle.areas.specs.Promises.{LegalLiesInside}

-- an area of elements, from its section's place among the seven
area_room : (start count each words : ℕ) → count ≤ 64 → 2 ≤ each → each ≤ 19 → words ≤ 4352
    → end (section start count each) ≤ words → Roomy (area_in (section start count each) count each) words
area_room start count each words a b c d e =
    record { few = a; header = b; most = c; memory = d; room = omega (arith, section_words start count each) }

module _ (r : Registers) (words : ℕ) (h : Legal r words) where
  memory_at_most : words ≤ 4352
  memory_at_most = omega (arith, h.memory.most, h.memory.lent)

  code_room : (start count code i : ℕ) → count ≤ 64 → code < 8 → i < 7
      → get_or (sections_of r) i none ≡ section start count (element_words code)
      → Roomy (area_in (section start count (element_words code)) count (element_words code)) words
  code_room start count code i a b l e =
      area_room start count (element_words code) words a (omega (arith, words_least code b))
      (omega (arith, words_most code b)) memory_at_most (rw e at (ends_inside r words h i l))

  areas_inside : (i : ℕ) → i < 5 → Roomy (own r i) words
  areas_inside zero l =
      code_room (fifo_start r 0) (fifo_size r 0) (fifo_code r 0) 2 h.counted.fifo0 (code_lt r 0) (omega arith) refl
  areas_inside (suc zero) l =
      code_room (fifo_start r 1) (fifo_size r 1) (fifo_code r 1) 3 h.counted.fifo1 (code_lt r 1) (omega arith) refl
  areas_inside (suc (suc zero)) l =
      code_room (buffers_start r) (buffers r) (buffer_code r) 4 h.counted.buffers (omega arith) (omega arith) refl
  areas_inside (suc (suc (suc zero))) l =
      area_room (event_start r) (event_size r) 2 words (omega (arith, h.counted.events)) (omega arith) (omega arith)
      memory_at_most (ends_inside r words h 5 (omega arith))
  areas_inside (suc (suc (suc (suc zero)))) l =
      code_room (tx_start r) (tx_count r) (tx_code r) 6 (omega (arith, h.counted.together)) (omega arith) (omega arith)
      refl
  areas_inside (suc (suc (suc (suc (suc i))))) l = absurd (omega arith)

  -- the last word of a list that has one is in the memory
  list_inside : (i start n : ℕ) → i < 7 → ((k : ℕ) → start ≤ k → k < start + n → Has r i k) → 0 < n
      → start + n ≤ words
  list_inside i start n l has some =
      omega (arith, h.inside i (start + n - 1) l (has (start + n - 1) (omega arith) (omega arith)))

pub legal_lies_inside : LegalLiesInside
legal_lies_inside g words h = record {
  list11 =
      list_inside g words h 0 (filters11_start g) (filters11 g) (omega arith)
      (λ k a b. record { from = a; below = omega arith });
  list29 =
      λ some. list_inside g words h 1 (filters29_start g) (2 * filters29 g) (omega arith)
      (λ k a b. record { from = a; below = omega arith })
      (omega arith);
  areas = areas_inside g words h;
}

-- the area that a FIFO's register and size code give
abbrev area_of : ℕ → ℕ → Area
area_of w code =
    area_in (section (field section_start w) (field rxfc_count w) (element_words code)) (field rxfc_count w)
    (element_words code)

-- the areas by their names
module _ (g : Registers) (words : ℕ) (h : Legal g words) where
  pub fifo_roomy : (fifo : ℕ) → Roomy (fifo_area g fifo) words
  fifo_roomy =
      fifo_cases g (λ w code. Roomy (area_of w code) words) ((legal_lies_inside g words h).areas 0 (omega arith))
      ((legal_lies_inside g words h).areas 1 (omega arith))

  pub buffer_roomy : Roomy (buffer_area g) words
  buffer_roomy = (legal_lies_inside g words h).areas 2 (omega arith)

  pub event_roomy : Roomy (event_area g) words
  event_roomy = (legal_lies_inside g words h).areas 3 (omega arith)

  pub tx_roomy : Roomy (tx_area g) words
  tx_roomy = (legal_lies_inside g words h).areas 4 (omega arith)
