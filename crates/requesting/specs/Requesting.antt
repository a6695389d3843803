-- Calls 7 and 8, request a dedicated buffer and request the shared part.
use Rattle.std.specs.Prelude.{ℕ, Bool, List, [], ◌∷◌, leb, length}
use Rattle.words.specs.Runs.{splice}
use Rattle.ring.specs.declared.Ring.{Ring}
use Rattle.shape.specs.Calls.{tells, call}
use Rattle.shape.specs.Refusals.{Refusals}
use Rattle.frame.specs.Malformed.{malformed}
use Rattle.element.specs.Elements.{tx_element}
use Rattle.element.specs.declared.TxHeader.{TxHeader}
use Rattle.places.specs.Areas.{place_in}
use Rattle.places.specs.declared.Area.{Area}
use Rattle.registers.specs.Fields.{dedicated}
use Rattle.areas.specs.Areas.{tx_area, data_words}
use Rattle.engine.specs.Buffers.{is_pending}
use Rattle.engine.specs.Calls.{World, world, Outcome, Effect, ◌when◌, is_unfit}
use Rattle.engine.specs.declared.state.State.{State}
use Rattle.requesting.specs.Places.{requested, none_free, free_buffer, shared_after}

-- the memory with a request in a buffer: its element is written whole
unfoldable pub written : List ℕ → Area → ℕ → TxHeader → List ℕ → List ℕ
written mem a buffer h d = splice mem (place_in a buffer) (tx_element h d (data_words a))

-- the request is in a buffer: its element is written, the buffer is pending, and its number is the answer
unfoldable pub requests : World → Ring → ℕ → TxHeader → List ℕ → Effect ℕ
requests w ring buffer h d =
    tells buffer
    (world (requested w.state ring buffer) w.recorded (written w.memory (tx_area w.state.regs) buffer h d))

-- 23: no such buffer, or a shared one
abbrev pub not_dedicated : State → ℕ → Bool
not_dedicated s buffer = leb (dedicated s.regs) buffer

-- what is against call 7, with so many bytes of data
unfoldable pub dedicated_refusals : World → ℕ → TxHeader → ℕ → Refusals
dedicated_refusals w buffer h bytes =
    20 when is_unfit w
    ∷ 21 when malformed h.frame bytes
    ∷ 23 when not_dedicated w.state buffer
    ∷ 24 when is_pending w.state buffer
    ∷ []

-- call 7: the shared part stays as it is
abbrev pub request_dedicated : World → ℕ → TxHeader → List ℕ → Outcome ℕ
request_dedicated w buffer h d =
    call w [] (dedicated_refusals w buffer h (length d)) (requests w w.state.shared buffer h d)

-- what is against call 8
unfoldable pub shared_refusals : World → TxHeader → ℕ → Refusals
shared_refusals w h bytes =
    20 when is_unfit w ∷ 21 when malformed h.frame bytes ∷ 25 when none_free w.state ∷ []

-- call 8: the buffer that is free
abbrev pub request_shared : World → TxHeader → List ℕ → Outcome ℕ
request_shared w h d =
    call w [] (shared_refusals w h (length d)) (requests w (shared_after w.state) (free_buffer w.state) h d)
