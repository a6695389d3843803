-- A header that stands in its words by the table of bits is read back from them.
-- Assumes nothing.
use Prim.Native.Nat.{ℕ, ◌^◌, ◌<◌}
use mathlib.Core.Path.{◌≡◌, refl}
use mathlib.Core.Bool.{Bool, true, false}
use Rattle.words.specs.Choice.{pick}
use Rattle.words.specs.Bits.{bit, is_set}
use Rattle.frame.specs.declared.Frame.{Frame}
use Rattle.element.specs.Fitting.{anmf_of, index_of, InFields}
use Rattle.element.specs.Word0.{id_in, word0}
use Rattle.element.specs.Word1.{rx_word1, tx_word1, event_word1}
use Rattle.element.specs.Headers.{frame_in, rx_header_in, tx_header_in, event_header_in}
use Rattle.element.specs.Promises.{FrameStands, arrival_header}
use Rattle.element.specs.declared.Arrival.{Arrival}
use Rattle.element.specs.declared.TxHeader.{TxHeader}
use Rattle.element.proofs.TableOfBits.{rx_alone, anmf_bit, index_bits, rx_time, tx_alone, tx_marker, wish_bit}
use Rattle.element.proofs.TableOfBits.{event_alone, event_marker, kind_bits, event_time}

set_is : (w n : ℕ) (b : Bool) → bit w n ≡ pick b 1 0 → is_set w n ≡ b
set_is w n true e = simp e
set_is w n false e = simp e

module _ (f : Frame) (first second : ℕ) (s : FrameStands f first second) where
  id_back : (x : Bool) → f.xtd ≡ x → id_in x first ≡ f.id
  id_back true e = s.id29 e
  id_back false e = s.id11 e

  frame_back : frame_in first second ≡ f
  unfolding frame_in
  frame_back =
      simp (
        s.dlc,
        set_is second 21 f.fdf s.fdf,
        set_is second 20 f.brs s.brs,
        set_is first 30 f.xtd s.xtd,
        set_is first 29 f.rtr s.rtr,
        set_is first 31 f.esi s.esi,
        id_back f.xtd refl,
      )

module _ (a : Arrival) (h : InFields a.frame) (i : index_of a.matched < 128) (t : a.time < 2 ^ 16) where
  pub rx_header_back : rx_header_in (word0 a.frame) (rx_word1 a) ≡ arrival_header a
  unfolding rx_header_in
  rx_header_back =
      simp (
        frame_back a.frame (word0 a.frame) (rx_word1 a) (rx_alone a h i t).stands,
        set_is (rx_word1 a) 31 (anmf_of a.matched) (anmf_bit a h i t),
        index_bits a h i t,
        rx_time a h i t,
      )

module _ (x : TxHeader) (h : InFields x.frame) (k : x.marker < 256) where
  pub tx_header_back : tx_header_in (word0 x.frame) (tx_word1 x) ≡ x
  unfolding tx_header_in
  tx_header_back =
      simp (
        frame_back x.frame (word0 x.frame) (tx_word1 x) (tx_alone x h k).stands,
        tx_marker x h k,
        set_is (tx_word1 x) 23 x.wish (wish_bit x h k),
      )

module _ (f : Frame) (h : InFields f) (marker time : ℕ) (k : marker < 256) (t : time < 2 ^ 16) where
  pub event_header_back : event_header_in (word0 f) (event_word1 marker f time)
      ≡ record { frame = f; marker = marker; kind = 1; time = time }
  unfolding event_header_in
  event_header_back =
      simp (
        frame_back f (word0 f) (event_word1 marker f time) (event_alone f h marker time k t).stands,
        event_marker f h marker time k t,
        kind_bits f h marker time k t,
        event_time f h marker time k t,
      )
