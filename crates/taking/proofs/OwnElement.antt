-- A read looks at its own element and writes the front of its output alone; the other two calls look at no word.
-- Assumes nothing.
use Prim.Native.Nat.{ℕ, ◌+◌, ◌*◌, ◌<◌, min}
use mathlib.Core.Path.{◌≡◌, refl, ap, ap₂, subst}
use mathlib.Core.List.{List, [], ◌++◌}
use native.Mathlib.Omega.{arith}
use lib.ListN.{length}
use Rattle.words.specs.Bytes.{byte_in}
use Rattle.words.specs.Ranges.{front, SameIn, OnlyIn}
use Rattle.words.specs.Rules.{allowed, first}
use Rattle.words.specs.Runs.{run, splice}
use Rattle.words.proofs.Parts.{part_same}
use Rattle.words.proofs.Ranges.{splice_only}
use Rattle.words.proofs.Runs.{length_run}
use Rattle.shape.specs.Calls.{answers, outcome, leaves, effected, call}
use Rattle.shape.specs.Refusals.{Refusals}
use Rattle.shape.proofs.Calls.{rows_both}
use Rattle.places.specs.Areas.{place_in, place_range, HasPlace}
use Rattle.places.specs.declared.Area.{Area}
use Rattle.places.proofs.Rooms.{place_room}
use Rattle.frame.proofs.Lengths.{length_most}
use Rattle.element.specs.Bytes.{length_of, read_count, rx_read, read_bytes}
use Rattle.element.specs.Headers.{frame_in, rx_header_in, headed}
use Rattle.element.specs.declared.RxRead.{RxRead}
use Rattle.element.proofs.OwnWords.{own_words}
use Rattle.areas.specs.Areas.{fifo_area, buffer_area, data_words}
use Rattle.engine.specs.Calls.{World, with_state, with_memory, output_bytes, output_refusals, in_memory}
use Rattle.engine.proofs.Memories.{same_in_memory}
use Rattle.taking.specs.Places.{fifo_refusals, buffer_refusals}
use Rattle.taking.specs.Promises.{CallsReadOwnElement}
use Rattle.taking.specs.Reading.{reads}
use Rattle.taking.specs.Releasing.{released, emptied}
use Rattle.taking.proofs.Judgements.{fifo_open, buffer_open}

-- ---- an element

module _ (w : World) (other : List ℕ) (a : Area) (place : ℕ) (out : List ℕ) (h : HasPlace a place (length w.memory))
    (same : SameIn (place_range a place) w.memory other) where
  read_alike : effected (reads (with_memory w other) a place out) ≡ in_memory other (effected (reads w a place out))
  unfolding reads rx_read read_count
  read_alike =
      let at = place_in a place in
      let n = data_words a in
      let header = h.room.header in
      let room = place_room a place (length w.memory) h in
      let o =
      own_words other w.memory at at n
      (part_same at (2 + n) other w.memory (omega (arith, same.size, header)) (omega arith)
      (λ i l. same.within (at + i) (omega arith) (omega (arith, header)))) in
      ap₂ (λ (x : RxRead) (bytes : List ℕ). outcome (answers x) (with_memory w other) (splice out 0 bytes))
      (ap₂ (λ (x y : ℕ). record { header = rx_header_in x y; count = min (length_of (frame_in x y)) (4 * n) }) o.first
      o.second)
      o.read

-- as many bytes of the output are written as the answer tells
pub reads_front : (w : World) (a : Area) (place : ℕ) (out : List ℕ) → length out ≡ output_bytes
    → let d = reads w a place out in OnlyIn (front d.answer.count) out d.output
unfolding reads rx_read read_bytes read_count
reads_front w a place out e =
    let f = headed frame_in w.memory (place_in a place) in
    let n = min (length_of f) (4 * data_words a) in
    let bytes = run (byte_in w.memory (place_in a place + 2)) 0 n in
    let long : length bytes ≡ n = length_run (byte_in w.memory (place_in a place + 2)) 0 n in
    subst (λ (k : ℕ). OnlyIn (front k) out (splice out 0 bytes)) long
    (splice_only out 0 bytes (omega (arith, length_most f.rtr f.fdf f.dlc)))

-- ---- the rows, which ask for the length alone

module _ (w : World) (other : List ℕ) (size : length other ≡ length w.memory) where
  fifo_rows_alike : (fifo place : ℕ) → fifo_refusals (with_memory w other) fifo place ≡ fifo_refusals w fifo place
  unfolding fifo_refusals
  fifo_rows_alike fifo place = simp (size)

  buffer_rows_alike : (buffer : ℕ) → buffer_refusals (with_memory w other) buffer ≡ buffer_refusals w buffer
  unfolding buffer_refusals
  buffer_rows_alike buffer = simp (size)

  -- a read, where its rows are the same and tell that its element is there
  read_same : (rows more : Refusals) (a : Area) (place : ℕ) (out : List ℕ) → more ≡ rows
      → (first rows ≡ allowed → HasPlace a place (length w.memory))
      → (place < a.count → SameIn (place_range a place) w.memory other)
      → call (with_memory w other) out (more ++ output_refusals (length out)) (reads (with_memory w other) a place out)
      ≡ in_memory other (call w out (rows ++ output_refusals (length out)) (reads w a place out))
  read_same rows more a place out e h same =
      same_in_memory w other out (rows ++ output_refusals (length out)) (more ++ output_refusals (length out))
      (reads w a place out) (reads (with_memory w other) a place out)
      (ap (λ (l : Refusals). first (l ++ output_refusals (length out))) e)
      (λ t.
      let p = h (rows_both rows (output_refusals (length out)) t).0 in
      read_alike w other a place out p (same p.within))

pub calls_read_own_element : CallsReadOwnElement
calls_read_own_element w other size = record {
  fifo_read = λ fifo place out same.
      read_same w other size (fifo_refusals w fifo place) (fifo_refusals (with_memory w other) fifo place)
      (fifo_area w.state.regs fifo) place out (fifo_rows_alike w other size fifo place)
      (λ t. (fifo_open w fifo place t).element) same;
  acknowledge = λ fifo place.
      same_in_memory w other [] (fifo_refusals w fifo place) (fifo_refusals (with_memory w other) fifo place)
      (leaves (with_state w (released w.state fifo place)))
      (leaves (with_state (with_memory w other) (released w.state fifo place)))
      (ap first (fifo_rows_alike w other size fifo place)) (λ t. refl);
  buffer_read = λ buffer out same.
      read_same w other size (buffer_refusals w buffer) (buffer_refusals (with_memory w other) buffer)
      (buffer_area w.state.regs) buffer out (buffer_rows_alike w other size buffer)
      (λ t. (buffer_open w buffer t).element) same;
  release = λ buffer.
      same_in_memory w other [] (buffer_refusals w buffer) (buffer_refusals (with_memory w other) buffer)
      (leaves (with_state w (emptied w.state buffer)))
      (leaves (with_state (with_memory w other) (emptied w.state buffer)))
      (ap first (buffer_rows_alike w other size buffer)) (λ t. refl);
}
