-- What is promised of calls 7, 8 and 9: statements only.
use Rattle.std.specs.Prelude.{ℕ, ◌+◌, ◌<◌, ◌≡◌, false, List}
use Rattle.words.specs.Ranges.{OnlyIn}
use Rattle.ring.specs.Rings.{held}
use Rattle.shape.specs.Calls.{answers}
use Rattle.element.specs.Elements.{tx_element}
use Rattle.element.specs.declared.TxHeader.{TxHeader}
use Rattle.places.specs.Areas.{place_range, words_at}
use Rattle.registers.specs.Fields.{dedicated, shared as shared_count, is_queue}
use Rattle.registers.specs.declared.Registers.{Registers}
use Rattle.areas.specs.Areas.{tx_area, data_words}
use Rattle.areas.specs.Own.{sending_sections, SameSections}
use Rattle.engine.specs.Buffers.{is_pending}
use Rattle.engine.specs.Calls.{World, with_memory, is_unfit, Alike}
use Rattle.requesting.specs.Cancelling.{cancel}
use Rattle.requesting.specs.Requesting.{request_dedicated, request_shared}

-- ---- what an accepted request writes

-- the request stands in the buffer's element word for word, and every other word is as it was
pub record StandsAlone (g : Registers) (mem last : List ℕ) (buffer : ℕ) (h : TxHeader) (d : List ℕ) : Type 0 where
  pub there : words_at (tx_area g) buffer last ≡ tx_element h d (data_words (tx_area g))
  pub only : OnlyIn (place_range (tx_area g) buffer) mem last

-- of the buffer that it answers
pub record RequestsStand : Type 0 where
  pub dedicated : (w : World) (buffer : ℕ) (h : TxHeader) (d : List ℕ) (b : ℕ)
      → let o = request_dedicated w buffer h d in
      o.says ≡ answers b → StandsAlone w.state.regs w.memory o.world.memory b h d
  pub shared : (w : World) (h : TxHeader) (d : List ℕ) (b : ℕ) → let o = request_shared w h d in
      o.says ≡ answers b → StandsAlone w.state.regs w.memory o.world.memory b h d

-- ---- the shared FIFO

-- in FIFO mode the shared pending bits are exactly those of the held places
abbrev pub PendingAreHeld : Type 0
PendingAreHeld =
    (w : World) (p : ℕ) → let s = w.state in let g = s.regs in is_unfit w ≡ false → is_queue g ≡ false
    → p < shared_count g
    → is_pending s (dedicated g + p) ≡ held s.shared (shared_count g) p

-- ---- a call goes by its own sections alone

-- with either of two memories each call says and does the same, and leaves them alike
pub record ActsAlike (w v : World) : Type 0 where
  pub dedicated : (buffer : ℕ) (h : TxHeader) (d : List ℕ)
      → Alike sending_sections (request_dedicated w buffer h d) (request_dedicated v buffer h d)
  pub shared : (h : TxHeader) (d : List ℕ) → Alike sending_sections (request_shared w h d) (request_shared v h d)
  pub cancel : (buffer : ℕ) → Alike sending_sections (cancel w buffer) (cancel v buffer)

-- memories that have the same events and Tx buffers
abbrev pub OwnSectionsAlone : Type 0
OwnSectionsAlone =
    (w : World) (other : List ℕ) → SameSections w.state.regs sending_sections w.memory other
    → ActsAlike w (with_memory w other)
