-- The filter lists of a legal layout lie in the memory, and the index of a match is small.
-- Assumes nothing.
use Rattle.std.proofs.Common.{Option, Some, None}
use Prim.Native.Nat.{ℕ, zero, suc, ◌+◌, ◌-◌, ◌*◌, ◌≤◌, ◌<◌}
use mathlib.Core.Path.{refl}
use native.Mathlib.Omega.{arith}
use Rattle.registers.specs.Fields.{filters11, filters11_start, filters29, filters29_start}
use Rattle.registers.specs.declared.Registers.{Registers}
use Rattle.layout.specs.Legal.{Legal}
use Rattle.areas.proofs.Rooms.{legal_lies_inside}
use Rattle.element.specs.Fitting.{index_of}
use Rattle.filter.specs.Needs.{ListsFit}
use Rattle.filter.specs.Promises.{IndexBelow}
use Rattle.filter.proofs.Turns.{lists_fit}

room : (start n words : ℕ) → (0 < n → start + n ≤ words) → n ≤ words - start
room start zero words h = omega arith
room start (suc n) words h = omega (arith, h (omega arith))

pub legal_lists : (g : Registers) (words : ℕ) → Legal g words → ListsFit g words
legal_lists g words h =
    lists_fit g words
    (room (filters11_start g) (filters11 g) words (legal_lies_inside g words h).list11)
    h.counted.filters11
    (room (filters29_start g) (2 * filters29 g) words (λ some. (legal_lies_inside g words h).list29 (omega arith)))
    h.counted.filters29

pub index_small : (m : Option ℕ) → IndexBelow 128 m → index_of m < 128
index_small None g = omega arith
index_small (Some i) g = g i refl
