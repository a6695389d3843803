-- What helpers ask of their callers; a reader of the promises need not read it.
use Rattle.std.specs.Prelude.{ℕ, ◌+◌, ◌^◌, ◌≤◌, ◌<◌, List, length}
use Rattle.element.specs.Fitting.{index_of, InFields}
use Rattle.element.specs.declared.Arrival.{Arrival}

-- an arrival's values fit their fields
pub record RxInFields (a : Arrival) : Type 0 where
  pub index : index_of a.matched < 128
  pub frame : InFields a.frame

-- the memory has an element of n data words from word at on, and each of its words has an address
pub record HasElement (mem : List ℕ) (at n : ℕ) : Type 0 where
  pub inside : at + 2 + n ≤ length mem
  pub memory : length mem < 2 ^ 32
