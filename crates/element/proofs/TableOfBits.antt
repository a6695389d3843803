-- Every bit of an element's words, written and read, is what the table says.
-- Assumes nothing.
use Prim.Native.Nat.{ℕ, zero, suc, ◌+◌, ◌*◌, ◌/◌, ◌^◌, ◌<◌, ◌≤◌}
use mathlib.Core.Path.{◌≡◌, refl, sym, ap, ◌∙◌, subst}
use mathlib.Core.Bool.{Bool, true, false}
use mathlib.Core.List.{List, [], ◌∷◌}
use Rattle.std.specs.Prelude.{Option}
use native.Mathlib.Omega.{arith}
use lib.Dec.{eqb}
use lib.ListN.{get_or}
use lib.Seq.{get_or-append-add}
use Rattle.words.specs.Choice.{pick}
use Rattle.words.specs.Bits.{bit, is_set}
use Rattle.words.specs.Fields.{bits}
use Rattle.words.specs.Runs.{run}
use Rattle.words.specs.Bytes.{word_of}
use Rattle.words.proofs.BitLaws.{bit_lt}
use Rattle.words.proofs.Choices.{pick_first, pick_second}
use Rattle.words.proofs.Runs.{get_or_run}
use Rattle.frame.specs.Identifier.{IdInKind}
use Rattle.frame.specs.declared.Frame.{Frame}
use Rattle.element.specs.Fitting.{anmf_of, index_of, InFields}
use Rattle.element.specs.Word0.{id_bits, id_in, word0}
use Rattle.element.specs.Word1.{form_bits, rx_word1, tx_word1, event_word1}
use Rattle.element.specs.Elements.{element}
use Rattle.element.specs.Headers.{frame_in, rx_header_in, tx_header_in, event_header_in}
use Rattle.element.specs.Promises.{FrameStands, FrameAlone, DataStands, AreBytes, RxIsByBits, TxIsByBits}
use Rattle.element.specs.Promises.{EventIsByBits, ReadsAreByBits}
use Rattle.element.specs.declared.Arrival.{Arrival}
use Rattle.element.specs.declared.TxHeader.{TxHeader}

-- ---- the header's words, as written

-- an identifier in its place, which is within 28:0
id_lt : (xtd : Bool) (id : ℕ) → IdInKind xtd id → id_bits xtd id < 2 ^ 29
id_lt true id h = omega (arith, h.within)
id_lt false id h = omega (arith, h.within)

module _ (xtd : Bool) (id : ℕ) where
  id_long : xtd ≡ true → id ≡ id_bits xtd id
  id_long a = rw a

  id_short : xtd ≡ false → id * 2 ^ 18 ≡ id_bits xtd id
  id_short a = rw a

one_le : (b : Bool) → pick b 1 0 ≤ 1
one_le true = omega arith
one_le false = omega arith

module _ (f : Frame) (h : InFields f) where
  -- word 0
  id_lies : (x : Bool) → f.xtd ≡ x → id_in x (word0 f) ≡ f.id
  unfolding word0
  id_lies true e =
      let s = id_long f.xtd f.id e in
      omega (arith, one_le f.esi, one_le f.xtd, one_le f.rtr, id_lt f.xtd f.id h.id)
  id_lies false e =
      let s = id_short f.xtd f.id e in
      omega (arith, one_le f.esi, one_le f.xtd, one_le f.rtr, id_lt f.xtd f.id h.id)

  rest_zero : f.xtd ≡ false → bits 17 0 (word0 f) ≡ 0
  unfolding word0
  rest_zero e = omega (arith, id_short f.xtd f.id e)

  esi_bit : bits 31 31 (word0 f) ≡ pick f.esi 1 0
  unfolding word0
  esi_bit = omega (arith, one_le f.esi, one_le f.xtd, one_le f.rtr, id_lt f.xtd f.id h.id)

  xtd_bit : bits 30 30 (word0 f) ≡ pick f.xtd 1 0
  unfolding word0
  xtd_bit = omega (arith, one_le f.esi, one_le f.xtd, one_le f.rtr, id_lt f.xtd f.id h.id)

  rtr_bit : bits 29 29 (word0 f) ≡ pick f.rtr 1 0
  unfolding word0
  rtr_bit = omega (arith, one_le f.esi, one_le f.xtd, one_le f.rtr, id_lt f.xtd f.id h.id)

  first_lt : word0 f < 2 ^ 32
  unfolding word0
  first_lt = omega (arith, one_le f.esi, one_le f.xtd, one_le f.rtr, id_lt f.xtd f.id h.id)

  -- a word 1 of any kind: its own fields above and below FDF, BRS and DLC
  module _ (top low second : ℕ) (l : low < 2 ^ 16) (s : second ≡ top * 2 ^ 22 + form_bits f + low) where
    fdf_bit : bits 21 21 second ≡ pick f.fdf 1 0
    unfolding form_bits
    fdf_bit = omega (arith, one_le f.fdf, one_le f.brs, h.dlc)

    brs_bit : bits 20 20 second ≡ pick f.brs 1 0
    unfolding form_bits
    brs_bit = omega (arith, one_le f.fdf, one_le f.brs, h.dlc)

    dlc_bits : bits 19 16 second ≡ f.dlc
    unfolding form_bits
    dlc_bits = omega (arith, one_le f.fdf, one_le f.brs, h.dlc)

    top_bits : second / 2 ^ 22 ≡ top
    unfolding form_bits
    top_bits = omega (arith, one_le f.fdf, one_le f.brs, h.dlc)

    low_bits : bits 15 0 second ≡ low
    unfolding form_bits
    low_bits = omega arith

    second_lt : top < 2 ^ 10 → second < 2 ^ 32
    unfolding form_bits
    second_lt t = omega (arith, one_le f.fdf, one_le f.brs, h.dlc)

    frame_alone : top < 2 ^ 10 → FrameAlone f (word0 f) second
    frame_alone t = record {
      stands = record {
        esi = esi_bit;
        xtd = xtd_bit;
        rtr = rtr_bit;
        id29 = id_lies true;
        id11 = id_lies false;
        fdf = fdf_bit;
        brs = brs_bit;
        dlc = dlc_bits;
      };
      rest11 = rest_zero;
      fits0 = first_lt;
      fits1 = second_lt t;
    }

-- an Rx element: ANMF and the index stand above, the timestamp below
module _ (a : Arrival) (h : InFields a.frame) (i : index_of a.matched < 128) (t : a.time < 2 ^ 16) where
  abbrev rx_top : ℕ
  rx_top = pick (anmf_of a.matched) 1 0 * 2 ^ 9 + index_of a.matched * 2 ^ 2

  rx_split : rx_word1 a ≡ rx_top * 2 ^ 22 + form_bits a.frame + a.time
  unfolding rx_word1
  rx_split = omega arith

  rx_top_is : rx_word1 a / 2 ^ 22 ≡ rx_top
  rx_top_is = top_bits a.frame h rx_top a.time (rx_word1 a) t rx_split

  pub rx_alone : FrameAlone a.frame (word0 a.frame) (rx_word1 a)
  rx_alone =
      frame_alone a.frame h rx_top a.time (rx_word1 a) t rx_split (omega (arith, one_le (anmf_of a.matched)))

  pub anmf_bit : bits 31 31 (rx_word1 a) ≡ pick (anmf_of a.matched) 1 0
  anmf_bit = omega (arith, rx_top_is, one_le (anmf_of a.matched))

  pub index_bits : bits 30 24 (rx_word1 a) ≡ index_of a.matched
  index_bits = omega (arith, rx_top_is, one_le (anmf_of a.matched))

  rx_unnamed : bits 23 22 (rx_word1 a) ≡ 0
  rx_unnamed = omega (arith, rx_top_is)

  pub rx_time : bits 15 0 (rx_word1 a) ≡ a.time
  rx_time = low_bits a.frame h rx_top a.time (rx_word1 a) t rx_split

-- a Tx element: the marker and the wish stand above, nothing below
module _ (x : TxHeader) (h : InFields x.frame) (k : x.marker < 256) where
  abbrev tx_top : ℕ
  tx_top = x.marker * 2 ^ 2 + pick x.wish 1 0 * 2

  tx_split : tx_word1 x ≡ tx_top * 2 ^ 22 + form_bits x.frame + 0
  unfolding tx_word1
  tx_split = omega arith

  tx_top_is : tx_word1 x / 2 ^ 22 ≡ tx_top
  tx_top_is = top_bits x.frame h tx_top 0 (tx_word1 x) (omega arith) tx_split

  pub tx_alone : FrameAlone x.frame (word0 x.frame) (tx_word1 x)
  tx_alone = frame_alone x.frame h tx_top 0 (tx_word1 x) (omega arith) tx_split (omega (arith, one_le x.wish))

  pub tx_marker : bits 31 24 (tx_word1 x) ≡ x.marker
  tx_marker = omega (arith, tx_top_is, one_le x.wish)

  pub wish_bit : bits 23 23 (tx_word1 x) ≡ pick x.wish 1 0
  wish_bit = omega (arith, tx_top_is, one_le x.wish)

  tx_unnamed : bits 22 22 (tx_word1 x) ≡ 0
  tx_unnamed = omega (arith, tx_top_is)

  tx_low : bits 15 0 (tx_word1 x) ≡ 0
  tx_low = low_bits x.frame h tx_top 0 (tx_word1 x) (omega arith) tx_split

-- an event: the marker and the type stand above, the timestamp below
module _ (f : Frame) (h : InFields f) (marker time : ℕ) (k : marker < 256) (t : time < 2 ^ 16) where
  abbrev event_top : ℕ
  event_top = marker * 2 ^ 2 + 1

  event_split : event_word1 marker f time ≡ event_top * 2 ^ 22 + form_bits f + time
  unfolding event_word1
  event_split = omega arith

  event_top_is : event_word1 marker f time / 2 ^ 22 ≡ event_top
  event_top_is = top_bits f h event_top time (event_word1 marker f time) t event_split

  pub event_alone : FrameAlone f (word0 f) (event_word1 marker f time)
  event_alone = frame_alone f h event_top time (event_word1 marker f time) t event_split (omega arith)

  pub event_marker : bits 31 24 (event_word1 marker f time) ≡ marker
  event_marker = omega (arith, event_top_is)

  pub kind_bits : bits 23 22 (event_word1 marker f time) ≡ 1
  kind_bits = omega (arith, event_top_is)

  pub event_time : bits 15 0 (event_word1 marker f time) ≡ time
  event_time = low_bits f h event_top time (event_word1 marker f time) t event_split

-- ---- the elements, as written

module _ (d : List ℕ) (small : AreBytes d) where
  word_stands : (k : ℕ) → DataStands d k (word_of d k)
  unfolding word_of
  word_stands k =
      let a = small (4 * k) in
      let b = small (4 * k + 1) in
      let c = small (4 * k + 2) in
      let e = small (4 * k + 3) in
      record {
        byte0 = omega (arith, a, b, c, e);
        byte1 = omega (arith, a, b, c, e);
        byte2 = omega (arith, a, b, c, e);
        byte3 = omega (arith, a, b, c, e);
        fits = omega (arith, a, b, c, e);
      }

  data_stands : (first second n k : ℕ) → k < n → DataStands d k (get_or (element first second d n) (2 + k) 0)
  unfolding element
  data_stands first second n k l =
      subst (DataStands d k)
      (sym
      (get_or-append-add (first ∷ second ∷ []) (run (word_of d) 0 n) k 0
      ∙ get_or_run (word_of d) 0 n k l
      ∙ ap (word_of d) (omega arith)))
      (word_stands k)

pub rx_is_by_bits : RxIsByBits
unfolding element
rx_is_by_bits a d n h i t small = record {
  frame = rx_alone a h i t;
  unmatched = λ e. (
    anmf_bit a h i t ∙ ap (λ (m : Option ℕ). pick (anmf_of m) 1 0) e,
    index_bits a h i t ∙ ap index_of e,
  );
  matched = λ k e. (
    anmf_bit a h i t ∙ ap (λ (m : Option ℕ). pick (anmf_of m) 1 0) e,
    index_bits a h i t ∙ ap index_of e,
  );
  unnamed = rx_unnamed a h i t;
  time = rx_time a h i t;
  bytes = data_stands d small (word0 a.frame) (rx_word1 a) n;
}

pub tx_is_by_bits : TxIsByBits
unfolding element
tx_is_by_bits x d n h k small = record {
  frame = tx_alone x h k;
  marker = tx_marker x h k;
  wish = wish_bit x h k;
  unnamed = tx_unnamed x h k;
  low = tx_low x h k;
  bytes = data_stands d small (word0 x.frame) (tx_word1 x) n;
}

pub event_is_by_bits : EventIsByBits
event_is_by_bits marker f time h k t = record {
  frame = event_alone f h marker time k t;
  mark = event_marker f h marker time k t;
  kind = kind_bits f h marker time k t;
  stamp = event_time f h marker time k t;
}

-- ---- read

digit : (x : ℕ) → x < 2 → x ≡ pick (eqb x 1) 1 0
digit zero h = refl
digit (suc zero) h = refl
digit (suc (suc x)) h = absurd (omega arith)

set_tells : (w n : ℕ) → bit w n ≡ pick (is_set w n) 1 0
set_tells w n = digit (bit w n) (bit_lt w n)

frame_stands : (first second : ℕ) → FrameStands (frame_in first second) first second
unfolding frame_in
frame_stands first second = record {
  esi = set_tells first 31;
  xtd = set_tells first 30;
  rtr = set_tells first 29;
  id29 = λ e. sym (pick_first _ _ e);
  id11 = λ e. sym (pick_second _ _ e);
  fdf = set_tells second 21;
  brs = set_tells second 20;
  dlc = refl;
}

pub reads_are_by_bits : ReadsAreByBits
unfolding rx_header_in tx_header_in event_header_in
reads_are_by_bits first second = record {
  rx = record { frame = frame_stands first second; anmf = set_tells second 31; index = refl; time = refl };
  tx = record { frame = frame_stands first second; marker = refl; wish = set_tells second 23 };
  event = record { frame = frame_stands first second; marker = refl; kind = refl; time = refl };
}
