-- Word 1 of each kind of element: its fields added up. Bits that are not named are 0.
use Rattle.std.specs.Prelude.{ℕ, ◌+◌, ◌*◌, ◌^◌, Bool, Option}
use Rattle.words.specs.Choice.{pick}
use Rattle.words.specs.Bits.{is_set}
use Rattle.words.specs.Fields.{bits}
use Rattle.frame.specs.declared.Frame.{Frame}
use Rattle.element.specs.Fitting.{anmf_of, index_of}
use Rattle.element.specs.declared.Arrival.{Arrival}
use Rattle.element.specs.declared.TxHeader.{TxHeader}

-- in every kind: FDF 21, BRS 20, DLC 19:16
abbrev pub form_sum : ℕ → ℕ → ℕ → ℕ
form_sum fdf brs dlc = fdf * 2 ^ 21 + brs * 2 ^ 20 + dlc * 2 ^ 16

unfoldable pub form_bits : Frame → ℕ
form_bits f = form_sum (pick f.fdf 1 0) (pick f.brs 1 0) f.dlc

-- FDF and BRS taken out of it
abbrev pub fdf_in : ℕ → Bool
fdf_in w = is_set w 21

abbrev pub brs_in : ℕ → Bool
brs_in w = is_set w 20

-- ANMF 31, filter index 30:24, which is 0 if ANMF
abbrev pub match_bits : Option ℕ → ℕ
match_bits m = pick (anmf_of m) 1 0 * 2 ^ 31 + index_of m * 2 ^ 24

-- the marker in its place, 31:24, and taken out of it
abbrev pub marker_bits : ℕ → ℕ
marker_bits marker = marker * 2 ^ 24

abbrev pub marker_in : ℕ → ℕ
marker_in w = bits 31 24 w

-- an Rx element's: the match, and the timestamp in 15:0
unfoldable pub rx_word1 : Arrival → ℕ
rx_word1 a = match_bits a.matched + form_bits a.frame + a.time

-- a Tx element's: the marker, and event wanted 23
abbrev pub tx_sum : ℕ → ℕ → ℕ → ℕ
tx_sum marker wish form = marker + wish * 2 ^ 23 + form

unfoldable pub tx_word1 : TxHeader → ℕ
tx_word1 h = tx_sum (marker_bits h.marker) (pick h.wish 1 0) (form_bits h.frame)

abbrev pub wish_in : ℕ → Bool
wish_in w = is_set w 23

-- an event's: the marker, type 1 in 23:22, and the timestamp in 15:0
unfoldable pub event_word1 : ℕ → Frame → ℕ → ℕ
event_word1 marker f time = marker_bits marker + 1 * 2 ^ 22 + form_bits f + time
