-- What helpers ask of their callers. A reader of the promises need not read it.
use Rattle.std.specs.Prelude.{ℕ, ◌≡◌, List, length}
use Rattle.places.specs.Areas.{HasPlace}
use Rattle.places.specs.declared.Area.{Area}
use Rattle.engine.specs.Calls.{output_bytes}

-- there is such an element, and the output has room for it
pub record CanRead (mem : List ℕ) (a : Area) (place : ℕ) (out : List ℕ) : Type 0 where
  pub element : HasPlace a place (length mem)
  pub output : length out ≡ output_bytes
