-- What helpers ask of their callers, and what they find. A reader of the promises need not read it.
use Rattle.std.specs.Prelude.{ℕ, ◌≡◌, Option, Some, None, List, length}
use Rattle.words.specs.Best.{Best, nobody, somebody}
use Rattle.frame.specs.Arbitration.{rank_of}
use Rattle.places.specs.Areas.{HasPlace}
use Rattle.places.specs.declared.Area.{Area}
use Rattle.engine.specs.Calls.{output_bytes}
use Rattle.engine.specs.Fitness.{Sound}
use Rattle.engine.specs.declared.state.State.{State}
use Rattle.choosing.specs.Buffers.{header_in}

-- ---- the scan

abbrev pub picked : Option ℕ → Best
picked None = nobody
picked (Some b) = somebody b

-- a buffer's rank, in the area of the Tx buffers
unfoldable pub rank_in : List ℕ → Area → ℕ → ℕ
rank_in mem a buffer = rank_of (header_in mem a buffer).frame

-- ---- the answer

-- an element's bytes can be written to the output
pub record CanWrite (mem : List ℕ) (a : Area) (buffer : ℕ) (out : List ℕ) : Type 0 where
  pub place : HasPlace a buffer (length mem)
  pub room : length out ≡ output_bytes

-- the choice can be told
pub record CanChoose (s : State) (mem out : List ℕ) : Type 0 where
  pub sound : Sound s (length mem)
  pub room : length out ≡ output_bytes
