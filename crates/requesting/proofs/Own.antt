-- Each call goes by its own sections alone: it looks at the memory's length, and stores the same words in any memory.
-- Assumes nothing.
use Prim.Native.Nat.{ℕ}
use mathlib.Core.Path.{refl}
use mathlib.Core.List.{List, []}
use lib.ListN.{length}
use Rattle.words.specs.Ranges.{Range}
use Rattle.ring.specs.declared.Ring.{Ring}
use Rattle.shape.specs.Calls.{effected}
use Rattle.element.specs.Elements.{tx_element}
use Rattle.element.specs.declared.TxHeader.{TxHeader}
use Rattle.places.specs.Areas.{place_in}
use Rattle.areas.specs.Areas.{tx_area, data_words}
use Rattle.areas.specs.Own.{sending_sections, SameSections}
use Rattle.engine.specs.Calls.{World, with_memory, Alike}
use Rattle.engine.proofs.Alike.{store_alike, call_alike}
use Rattle.requesting.specs.Cancelling.{cancel_refusals, cancels, cancel}
use Rattle.requesting.specs.Needs.{Requestable}
use Rattle.requesting.specs.Places.{free_buffer, shared_after}
use Rattle.requesting.specs.Promises.{OwnSectionsAlone}
use Rattle.requesting.specs.Requesting.{written, requests, dedicated_refusals, request_dedicated, shared_refusals}
use Rattle.requesting.specs.Requesting.{request_shared}
use Rattle.requesting.proofs.Memory.{element_room}
use Rattle.requesting.proofs.Opens.{dedicated_requestable, shared_requestable}

module _ (sections : Range) (w : World) (other : List ℕ)
    (same : SameSections w.state.regs sections w.memory other) where
  request_alike : (ring : Ring) (buffer : ℕ) (h : TxHeader) (d : List ℕ)
      → Requestable w.state (length w.memory) buffer h
      → Alike sections (effected (requests w ring buffer h d))
      (effected (requests (with_memory w other) ring buffer h d))
  unfolding requests written
  request_alike ring buffer h d can =
      let a = tx_area w.state.regs in
      record {
        says = refl;
        state = refl;
        recorded = refl;
        memory =
            store_alike w.state.regs sections w.memory other same (place_in a buffer)
            (tx_element h d (data_words a))
            (element_room w.memory a buffer can.element h d);
        output = refl;
      }

  pub dedicated_alike : (buffer : ℕ) (h : TxHeader) (d : List ℕ)
      → Alike sections (request_dedicated w buffer h d) (request_dedicated (with_memory w other) buffer h d)
  unfolding dedicated_refusals
  dedicated_alike buffer h d =
      call_alike sections w other [] same (dedicated_refusals w buffer h (length d))
      (dedicated_refusals (with_memory w other) buffer h (length d)) _ _
      (simp same.size)
      (λ e. request_alike w.state.shared buffer h d (dedicated_requestable w buffer h (length d) e))

  pub shared_alike : (h : TxHeader) (d : List ℕ)
      → Alike sections (request_shared w h d) (request_shared (with_memory w other) h d)
  unfolding shared_refusals
  shared_alike h d =
      call_alike sections w other [] same (shared_refusals w h (length d))
      (shared_refusals (with_memory w other) h (length d)) _ _
      (simp same.size)
      (λ e.
      request_alike (shared_after w.state) (free_buffer w.state) h d
      (shared_requestable w h (length d) e))

  pub cancel_alike : (buffer : ℕ) → Alike sections (cancel w buffer) (cancel (with_memory w other) buffer)
  unfolding cancel_refusals
  cancel_alike buffer =
      call_alike sections w other [] same (cancel_refusals w buffer) (cancel_refusals (with_memory w other) buffer)
      (cancels w buffer) (cancels (with_memory w other) buffer)
      (simp same.size)
      (λ e. record { says = refl; state = refl; recorded = refl; memory = same; output = refl })

pub own_sections_alone : OwnSectionsAlone
own_sections_alone w other same = record {
  dedicated = dedicated_alike sending_sections w other same;
  shared = shared_alike sending_sections w other same;
  cancel = cancel_alike sending_sections w other same;
}
