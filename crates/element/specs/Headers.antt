-- What stands in an element's first two words. Bits that are not named are ignored.
use Rattle.std.specs.Prelude.{ℕ, ◌+◌, List, get_or}
use Rattle.words.specs.Bits.{is_set}
use Rattle.words.specs.Fields.{bits}
use Rattle.frame.specs.declared.Frame.{Frame}
use Rattle.element.specs.Word0.{id_in}
use Rattle.element.specs.Word1.{fdf_in, brs_in, marker_in, wish_in}
use Rattle.element.specs.declared.RxHeader.{RxHeader}
use Rattle.element.specs.declared.TxHeader.{TxHeader}
use Rattle.element.specs.declared.EventHeader.{EventHeader}

-- the frame, in every kind
unfoldable pub frame_in : ℕ → ℕ → Frame
frame_in first second = record {
  id = id_in (is_set first 30) first;
  xtd = is_set first 30;
  rtr = is_set first 29;
  fdf = fdf_in second;
  brs = brs_in second;
  esi = is_set first 31;
  dlc = bits 19 16 second;
}

-- the index is as in the word, even if ANMF
unfoldable pub rx_header_in : ℕ → ℕ → RxHeader
rx_header_in first second = record {
  frame = frame_in first second;
  anmf = is_set second 31;
  index = bits 30 24 second;
  time = bits 15 0 second;
}

unfoldable pub tx_header_in : ℕ → ℕ → TxHeader
tx_header_in first second = record { frame = frame_in first second; marker = marker_in second; wish = wish_in second }

-- the type is as in the word
unfoldable pub event_header_in : ℕ → ℕ → EventHeader
event_header_in first second = record {
  frame = frame_in first second;
  marker = marker_in second;
  kind = bits 23 22 second;
  time = bits 15 0 second;
}

-- the same of the element that stands from word at on
abbrev pub headed : {A : Type 0} → (ℕ → ℕ → A) → List ℕ → ℕ → A
headed header mem at = header (get_or mem at 0) (get_or mem (at + 1) 0)
