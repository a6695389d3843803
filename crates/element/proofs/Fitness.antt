-- Which frames fit the fields of an element: those not malformed, those read from an element, and either as sent.
-- Assumes nothing.
use Prim.Native.Nat.{ℕ, ◌<◌}
use mathlib.Core.Path.{◌≡◌, sym, subst}
use mathlib.Core.Bool.{Bool, true, false}
use native.Mathlib.Omega.{arith}
use Rattle.words.specs.Bits.{is_set}
use Rattle.frame.specs.Identifier.{IdInKind}
use Rattle.frame.specs.Malformed.{malformed, WellFormed}
use Rattle.frame.specs.Sent.{as_sent}
use Rattle.frame.specs.declared.Frame.{Frame}
use Rattle.frame.proofs.Forms.{well_formed}
use Rattle.element.specs.Fitting.{index_of, InFields}
use Rattle.element.specs.Word0.{id_in}
use Rattle.element.specs.Headers.{frame_in}
use Rattle.element.specs.Needs.{RxInFields}
use Rattle.element.specs.declared.Arrival.{Arrival}

pub formed_fits : (f : Frame) (len : ℕ) → WellFormed f len → InFields f
formed_fits f len w = record { id = w.id; dlc = w.dlc }

pub frame_fits : (f : Frame) (len : ℕ) → malformed f len ≡ false → InFields f
frame_fits f len e = formed_fits f len (well_formed f len e)

pub rx_fits : (a : Arrival) (len : ℕ) → index_of a.matched < 128 → malformed a.frame len ≡ false → RxInFields a
rx_fits a len h e = record { index = h; frame = frame_fits a.frame len e }

-- an identifier that is read is within its kind
id_in_kind : (xtd : Bool) (w : ℕ) → IdInKind xtd (id_in xtd w)
id_in_kind true w = record { within = omega arith }
id_in_kind false w = record { within = omega arith }

pub read_fits : (first second : ℕ) → InFields (frame_in first second)
unfolding frame_in
read_fits first second = record { id = id_in_kind (is_set first 30) first; dlc = omega arith }

pub sent_fits : (f g : Frame) (fd switching passive : Bool) → g ≡ as_sent f fd switching passive → InFields f
    → InFields g
unfolding as_sent
sent_fits f g fd switching passive e h = subst InFields (sym e) (record { id = h.id; dlc = h.dlc })
