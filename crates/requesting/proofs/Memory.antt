-- What an accepted request writes: the element of its buffer, whole, and no other word.
-- Assumes nothing.
use Prim.Native.Nat.{ℕ, ◌+◌, ◌≤◌}
use mathlib.Core.Path.{◌≡◌, refl, subst}
use mathlib.Core.List.{List, []}
use native.Mathlib.Omega.{arith}
use lib.ListN.{length}
use Rattle.words.specs.Ranges.{OnlyIn}
use Rattle.words.specs.Rules.{allowed, first}
use Rattle.ring.specs.declared.Ring.{Ring}
use Rattle.shape.specs.Calls.{answers, call}
use Rattle.shape.specs.Refusals.{Refusals}
use Rattle.shape.proofs.Calls.{call_cases}
use Rattle.element.specs.Elements.{tx_element}
use Rattle.element.specs.Word0.{word0}
use Rattle.element.specs.Word1.{tx_word1}
use Rattle.element.specs.declared.TxHeader.{TxHeader}
use Rattle.element.proofs.Storing.{element_length}
use Rattle.places.specs.Areas.{place_in, place_range, words_at, HasPlace}
use Rattle.places.specs.declared.Area.{Area}
use Rattle.places.proofs.Rooms.{place_room}
use Rattle.places.proofs.Stores.{store_there, store_own}
use Rattle.areas.specs.Areas.{tx_area, data_words}
use Rattle.engine.specs.Calls.{World, Outcome}
use Rattle.requesting.specs.Needs.{Requestable}
use Rattle.requesting.specs.Places.{free_buffer, shared_after}
use Rattle.requesting.specs.Promises.{StandsAlone, RequestsStand}
use Rattle.requesting.specs.Requesting.{written, requests, dedicated_refusals, shared_refusals}
use Rattle.requesting.proofs.Opens.{dedicated_requestable, shared_requestable}

module _ (mem : List ℕ) (a : Area) (buffer : ℕ) (p : HasPlace a buffer (length mem)) (h : TxHeader) (d : List ℕ) where
  -- the element has as many words as each of the area
  pub element_fills : length (tx_element h d (data_words a)) ≡ a.each
  element_fills = omega (arith, element_length (word0 h.frame) (tx_word1 h) d (data_words a), p.room.header)

  pub element_room : place_in a buffer + length (tx_element h d (data_words a)) ≤ length mem
  element_room = omega (arith, place_room a buffer (length mem) p, element_fills)

  pub written_there : words_at a buffer (written mem a buffer h d) ≡ tx_element h d (data_words a)
  unfolding written
  written_there = store_there a mem p.room.room buffer p.within (tx_element h d (data_words a)) element_fills

  pub written_only : OnlyIn (place_range a buffer) mem (written mem a buffer h d)
  unfolding written
  written_only = store_own a mem p.room.room buffer p.within (tx_element h d (data_words a)) element_fills

-- ---- of the calls

-- it answers the buffer
pub request_answer : (w : World) (ring : Ring) (buffer : ℕ) (h : TxHeader) (d : List ℕ)
    → (requests w ring buffer h d).answer ≡ buffer
unfolding requests
request_answer w ring buffer h d = refl

request_only : (w : World) (ring : Ring) (buffer : ℕ) (h : TxHeader) (d : List ℕ)
    → Requestable w.state (length w.memory) buffer h
    → OnlyIn (place_range (tx_area w.state.regs) buffer) w.memory (requests w ring buffer h d).world.memory
unfolding requests
request_only w ring buffer h d can = written_only w.memory (tx_area w.state.regs) buffer can.element h d

pub dedicated_only : (w : World) (buffer : ℕ) (h : TxHeader) (d : List ℕ)
    → first (dedicated_refusals w buffer h (length d)) ≡ allowed
    → OnlyIn (place_range (tx_area w.state.regs) buffer) w.memory
    (requests w w.state.shared buffer h d).world.memory
dedicated_only w buffer h d e =
    request_only w w.state.shared buffer h d (dedicated_requestable w buffer h (length d) e)

pub shared_only : (w : World) (h : TxHeader) (d : List ℕ) → first (shared_refusals w h (length d)) ≡ allowed
    → OnlyIn (place_range (tx_area w.state.regs) (free_buffer w.state)) w.memory
    (requests w (shared_after w.state) (free_buffer w.state) h d).world.memory
shared_only w h d e =
    request_only w (shared_after w.state) (free_buffer w.state) h d (shared_requestable w h (length d) e)

-- where nothing is against a request, it stands in its buffer
stands : (w : World) (rows : Refusals) (ring : Ring) (buffer : ℕ) (h : TxHeader) (d : List ℕ)
    → (first rows ≡ allowed → Requestable w.state (length w.memory) buffer h) → (b : ℕ)
    → let o = call w [] rows (requests w ring buffer h d) in
    o.says ≡ answers b → StandsAlone w.state.regs w.memory o.world.memory b h d
unfolding requests
stands w rows ring buffer h d can b =
    call_cases w [] rows (requests w ring buffer h d)
    (λ (o : Outcome ℕ). o.says ≡ answers b → StandsAlone w.state.regs w.memory o.world.memory b h d)
    (λ n e. let z : ◌≡◌ {A = ℕ} 0 1 = cc in absurd (omega arith))
    (λ e said.
    let same : buffer ≡ b = cc in
    let p = (can e).element in
    subst (λ (k : ℕ). StandsAlone w.state.regs w.memory (requests w ring buffer h d).world.memory k h d) same
    (record {
      there = written_there w.memory (tx_area w.state.regs) buffer p h d;
      only = written_only w.memory (tx_area w.state.regs) buffer p h d;
    }))

pub requests_stand : RequestsStand
requests_stand = record {
  dedicated = λ w buffer h d.
      stands w (dedicated_refusals w buffer h (length d)) w.state.shared buffer h d
      (dedicated_requestable w buffer h (length d));
  shared = λ w h d.
      stands w (shared_refusals w h (length d)) (shared_after w.state) (free_buffer w.state) h d
      (shared_requestable w h (length d));
}
