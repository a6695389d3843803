-- What is promised of calls 3 to 6: statements only.
use Rattle.std.specs.Prelude.{ℕ, ◌<◌, ◌≡◌, List, length}
use Rattle.words.specs.Ranges.{SameIn}
use Rattle.shape.specs.Calls.{done}
use Rattle.places.specs.Areas.{place_range}
use Rattle.registers.specs.Fields.{fifo_size}
use Rattle.areas.specs.Areas.{fifo_area, buffer_area}
use Rattle.engine.specs.Calls.{World, with_memory, in_memory}
use Rattle.engine.specs.Holding.{YoungerStay}
use Rattle.engine.specs.States.{fifo_ring}
use Rattle.taking.specs.Reading.{read_fifo, read_buffer}
use Rattle.taking.specs.Releasing.{acknowledge_fifo, release_buffer}

-- an acknowledge releases all held up to and including the place, and no other
abbrev pub AcknowledgeReleases : Type 0
AcknowledgeReleases =
    (w : World) (fifo place : ℕ) → let o = acknowledge_fifo w fifo place in let s = w.state in o.says ≡ done
    → YoungerStay (fifo_ring s fifo) (fifo_size s.regs fifo) place (fifo_ring o.world.state fifo)

-- a read looks at the words of its own element alone, where there is one, and the other two calls at none:
-- with another memory, as long, that has the same words there, each does the same
pub record OwnElementAlone (w : World) (other : List ℕ) : Type 0 where
  pub fifo_read : (fifo place : ℕ) (out : List ℕ) → let a = fifo_area w.state.regs fifo in
      (place < a.count → SameIn (place_range a place) w.memory other)
      → read_fifo (with_memory w other) fifo place out ≡ in_memory other (read_fifo w fifo place out)
  pub acknowledge : (fifo place : ℕ)
      → acknowledge_fifo (with_memory w other) fifo place ≡ in_memory other (acknowledge_fifo w fifo place)
  pub buffer_read : (buffer : ℕ) (out : List ℕ) → let a = buffer_area w.state.regs in
      (buffer < a.count → SameIn (place_range a buffer) w.memory other)
      → read_buffer (with_memory w other) buffer out ≡ in_memory other (read_buffer w buffer out)
  pub release : (buffer : ℕ)
      → release_buffer (with_memory w other) buffer ≡ in_memory other (release_buffer w buffer)

abbrev pub CallsReadOwnElement : Type 0
CallsReadOwnElement = (w : World) (other : List ℕ) → length other ≡ length w.memory → OwnElementAlone w other
