-- The promises of elements: stored where they belong, and read back as they were given.
-- Assumes nothing.
use Prim.Native.Nat.{ℕ, ◌+◌, ◌*◌, ◌/◌, ◌%◌, ◌<◌, ◌≤◌, min}
use mathlib.Core.Path.{◌≡◌, sym, ap, ap₂, ◌∙◌}
use mathlib.Core.List.{List, [], ◌∷◌}
use native.Mathlib.Omega.{arith}
use native.Mathlib.Nat.{add-zero}
use lib.Dec.{ltb}
use lib.ListN.{length, get_or}
use lib.Seq.{get_or-append-add}
use Rattle.words.specs.Choice.{pick}
use Rattle.words.specs.Runs.{run}
use Rattle.words.specs.Bytes.{byte_of, word_of, byte_in}
use Rattle.words.proofs.Runs.{get_or_run}
use Rattle.words.proofs.Ranges.{splice_only}
use Rattle.words.proofs.Parts.{get_d_part, part_put}
use Rattle.words.proofs.Lanes.{byte_back, bytes_back}
use Rattle.frame.specs.Sent.{sent_bytes}
use Rattle.element.specs.Word0.{word0}
use Rattle.element.specs.Word1.{rx_word1, tx_word1, event_word1}
use Rattle.element.specs.Elements.{element, event_element}
use Rattle.element.specs.Headers.{frame_in, rx_header_in, tx_header_in, event_header_in, headed}
use Rattle.element.specs.Bytes.{length_of, read_count, read_bytes, sent_byte, sent_from}
use Rattle.element.specs.Promises.{Holds, Placed, ElementStored, EventStored, AreBytes, BytesBack, RxReadsBack}
use Rattle.element.specs.Promises.{TxReadsBack, EventReadsBack, SentAsHeld}
use Rattle.element.specs.declared.RxHeader.{RxHeader}
use Rattle.element.specs.declared.TxHeader.{TxHeader}
use Rattle.element.proofs.Storing.{element_length}
use Rattle.element.proofs.OwnWords.{run_same, sent_alike}
use Rattle.element.proofs.Fitness.{formed_fits}
use Rattle.element.proofs.WordsBack.{rx_header_back, tx_header_back, event_header_back}

-- ---- storing

pub placed : (mem : List ℕ) (at : ℕ) (ws : List ℕ) → at + length ws ≤ length mem → Placed mem at ws
placed mem at ws h = record { inside = part_put mem at ws h; only = splice_only mem at ws h }

pub element_placed : ElementStored
element_placed mem at first second d n h = record {
  words = element_length first second d n;
  placed = placed mem at (element first second d n) (omega (arith, element_length first second d n));
}

pub event_placed : EventStored
event_placed mem at marker f time h = placed mem at (event_element marker f time) h

-- ---- reading

-- a word that the memory holds
held_word : (mem : List ℕ) (at : ℕ) (ws : List ℕ) → Holds mem at ws → (i : ℕ) → i < length ws
    → get_or mem (at + i) 0 ≡ get_or ws i 0
held_word mem at ws h i l = sym (get_d_part at (length ws) mem i l) ∙ ap (λ (x : List ℕ). get_or x i 0) h

-- the bytes as sent, by the data that they are taken from
module _ (mem : List ℕ) (at n : ℕ) (d : List ℕ) (same : (i : ℕ) → i < 4 * n → byte_in mem (at + 2) i ≡ get_or d i 0) where
  sent_by : (count : ℕ) → sent_from mem at n count ≡ sent_bytes (4 * n) d count
  unfolding sent_from sent_byte sent_bytes
  sent_by count =
      run_same (sent_byte mem at n) (λ i. pick (ltb i (4 * n)) (get_or d i 0) 0xCC) 0 count
      (λ i l. sent_alike (byte_in mem (at + 2) i) (get_or d i 0) n i (same i))

pub sent_as_held : SentAsHeld
sent_as_held mem at n count =
    let d = run (byte_in mem (at + 2)) 0 (4 * n) in
    sent_by mem at n d
    (λ i l. ap (byte_in mem (at + 2)) (omega arith) ∙ sym (get_or_run (byte_in mem (at + 2)) 0 (4 * n) i l)) count

module _ (mem : List ℕ) (at first second : ℕ) (d : List ℕ) (n : ℕ)
    (holds : Holds mem at (element first second d n)) where
  -- the header and the data of an element that the memory holds
  pub headed_back : {A : Type 0} (header : ℕ → ℕ → A) → headed header mem at ≡ header first second
  unfolding element
  headed_back header =
      ap₂ header
      (ap (λ (k : ℕ). get_or mem k 0) (sym (add-zero at))
      ∙ held_word mem at (element first second d n) holds 0 (omega (arith, element_length first second d n)))
      (held_word mem at (element first second d n) holds 1 (omega (arith, element_length first second d n)))

  data_back : (k : ℕ) → k < n → get_or mem (at + 2 + k) 0 ≡ word_of d k
  unfolding element
  data_back k l =
      let e : at + 2 + k ≡ at + (2 + k) = omega arith in
      ap (λ (x : ℕ). get_or mem x 0) e
      ∙ held_word mem at (element first second d n) holds (2 + k) (omega (arith, element_length first second d n))
      ∙ get_or-append-add (first ∷ second ∷ []) (run (word_of d) 0 n) k 0
      ∙ get_or_run (word_of d) 0 n k l
      ∙ ap (word_of d) (omega arith)

  module _ (small : AreBytes d) where
    byte_held : (i : ℕ) → i < 4 * n → byte_in mem (at + 2) i ≡ get_or d i 0
    unfolding byte_in
    byte_held i l = ap (λ (w : ℕ). byte_of w (i % 4)) (data_back (i / 4) (omega arith)) ∙ byte_back d small i

    pub element_bytes_back : length_of (frame_in first second) ≡ length d → BytesBack mem at n d
    unfolding read_bytes read_count
    element_bytes_back e = record {
      read =
          ap (λ (k : ℕ). run (byte_in mem (at + 2)) 0 (min k (4 * n))) (ap length_of (headed_back frame_in) ∙ e)
          ∙ bytes_back d small mem (at + 2) n data_back (min (length d) (4 * n)) (omega arith) (omega arith);
      sent = sent_by mem at n d byte_held;
    }

-- ---- each kind

pub rx_back : RxReadsBack
unfolding rx_header_in
rx_back mem at n a d holds i w t small =
    let header = rx_header_back a (formed_fits a.frame (length d) w) i t in
    record {
      header = headed_back mem at (word0 a.frame) (rx_word1 a) d n holds rx_header_in ∙ header;
      bytes =
          element_bytes_back mem at (word0 a.frame) (rx_word1 a) d n holds small
          (ap (λ (h : RxHeader). length_of h.frame) header ∙ sym w.length);
    }

pub tx_back : TxReadsBack
unfolding tx_header_in
tx_back mem at n x d holds k w small =
    let header = tx_header_back x (formed_fits x.frame (length d) w) k in
    record {
      header = headed_back mem at (word0 x.frame) (tx_word1 x) d n holds tx_header_in ∙ header;
      bytes =
          element_bytes_back mem at (word0 x.frame) (tx_word1 x) d n holds small
          (ap (λ (h : TxHeader). length_of h.frame) header ∙ sym w.length);
    }

-- an event is an element with no data words
pub event_back : EventReadsBack
unfolding element run
event_back mem at marker f time holds k h t =
    headed_back mem at (word0 f) (event_word1 marker f time) [] 0 holds event_header_in
    ∙ event_header_back f h marker time k t
