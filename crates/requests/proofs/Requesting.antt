-- Requests and cancels: the book tells the answer, and agrees with what they leave.
-- Assumes nothing.
use Prim.Native.Nat.{ℕ, ◌+◌, ◌%◌, ◌<◌}
use mathlib.Core.Path.{◌≡◌, refl, sym, ap, ap₂, ◌∙◌}
use mathlib.Core.Bool.{Bool, true, false, not}
use mathlib.Core.List.{List, [], ◌∷◌}
use native.Mathlib.Omega.{arith}
use lib.Dec.{ltb, leb}
use lib.ListN.{length}
use borrow.Author.Tests.{eqb-false, not-true}
use Rattle.words.specs.Bits.{bit, is_set, with_bit, without_bit}
use Rattle.words.specs.Choice.{pick}
use Rattle.words.specs.Least.{least_from}
use Rattle.words.specs.Rules.{first}
use Rattle.words.proofs.BitLaws.{bit_lt}
use Rattle.words.proofs.Choices.{pick_first, pick_second}
use Rattle.words.proofs.Lowest.{least_passes, least_same}
use Rattle.words.proofs.Ranges.{only_none}
use Rattle.ring.specs.Rings.{none_held, put_place, pushed}
use Rattle.ring.specs.declared.Ring.{Ring}
use Rattle.ring.proofs.Places.{place_lt}
use Rattle.ring.proofs.Holding.{put_not_held}
use Rattle.frame.specs.Malformed.{malformed}
use Rattle.frame.proofs.Forms.{well_formed}
use Rattle.registers.specs.Fields.{dedicated, shared, tx_count, is_queue}
use Rattle.element.specs.declared.TxHeader.{TxHeader}
use Rattle.places.specs.Areas.{area_range}
use Rattle.places.proofs.Stores.{store_kept}
use Rattle.areas.specs.Areas.{tx_area}
use Rattle.shape.specs.Calls.{answers}
use Rattle.shape.specs.Histories.{noted}
use Rattle.shape.specs.Refusals.{Refusals}
use Rattle.shape.proofs.Calls.{call_cases}
use Rattle.engine.specs.Buffers.{no_tx_buffer, is_pending, in_shared_fifo}
use Rattle.engine.specs.Calls.{World, Outcome, ◌when◌, is_unfit}
use Rattle.engine.specs.declared.state.State.{State}
use Rattle.requesting.specs.Places.{queue_place, fifo_place, free_place, free_buffer, shared_after}
use Rattle.requesting.specs.Requesting.{written, requests, dedicated_refusals, shared_refusals}
use Rattle.requesting.specs.Cancelling.{cancels, cancel_refusals}
use Rattle.requesting.proofs.Opens.{dedicated_open, shared_open, cancel_open}
use Rattle.requesting.proofs.Places.{free_queue, free_room}
use Rattle.books.specs.Lists.{tally}
use Rattle.books.specs.Pending.{CircleAgrees}
use Rattle.books.specs.Requests.{is_shared, note_request, note_cancel, has_pending}
use Rattle.books.proofs.Circles.{requested_before, requested_next, cancelled_before, circle_filled, circle_held}
use Rattle.books.proofs.Latest.{request_clears_bits, cancel_sets_bit}
use Rattle.books.proofs.Requests.{cancel_balances}
use Rattle.requests.specs.Requests.{Request, asked, Typed, Book}
use Rattle.requests.specs.Expected.{expect_dedicated, free_shared, expect_shared, expect_cancel}
use Rattle.requests.specs.Standing.{element_of, TxAgrees, InStep, LeavesTx}
use Rattle.requests.specs.Promises.{DedicatedTold, DedicatedLeaves, SharedTold, SharedLeaves}
use Rattle.requests.specs.Promises.{CancelTold, CancelLeaves}
use Rattle.requests.proofs.Telling.{told_by}
use Rattle.requests.proofs.Holding.{element_each, pending_is, filled_agrees, cleared_agrees}
use Rattle.requests.proofs.Holding.{room_in, few_in, sent_in, cancelled_in, leaves_tx}

-- a bit that is not set is 0
clear_bit : (w b : ℕ) → is_set w b ≡ false → bit w b ≡ 0
clear_bit w b e = omega (arith, eqb-false (bit w b) 1 e, bit_lt w b)

module _ (l : Book) (w : World) (i : InStep l w) where
  -- a request that was put in a buffer: what it leaves, where the shared part agrees
  put_leaves : (buffer : ℕ) → buffer < tx_count w.state.regs → is_pending w.state buffer ≡ false
      → (h : TxHeader) (d : List ℕ) → Typed (asked h d) → malformed h.frame (length d) ≡ false → (ring : Ring)
      → (is_queue w.state.regs ≡ false
      → CircleAgrees (dedicated w.state.regs) (shared w.state.regs) (note_request l (asked h d) buffer) ring)
      → (is_queue w.state.regs ≡ true → ring ≡ none_held)
      → LeavesTx w (note_request l (asked h d) buffer) (requests w ring buffer h d).world
  unfolding requests written
  put_leaves buffer inside free h d typed formed ring fifo queue =
      let s = w.state in
      let g = s.regs in
      let q = asked h d in
      let room = room_in l w i in
      record {
        left = record {
          agrees =
              filled_agrees g l s w.memory i.agrees room buffer inside (clear_bit s.pending buffer free) q
              (record { formed = well_formed h.frame (length d) formed; typed = typed }) ring
              (without_bit 32 s.sent buffer) (without_bit 32 s.cancelled buffer) fifo queue
              (request_clears_bits Request l s.sent s.cancelled i.agrees.bits i.agrees.balanced 32
              (sent_in l w i) (cancelled_in l w i) q buffer (omega (arith, inside, few_in l w i))
              (pending_is g l s w.memory i.agrees buffer ∙ free));
          state = record { regs = refl; fifo0 = refl; fifo1 = refl; newdata = refl };
          memory = store_kept (tx_area g) w.memory room buffer inside (element_of g q) (element_each g q);
        };
        events = refl;
      }

-- ---- dedicated

pub dedicated_told : DedicatedTold
unfolding dedicated_refusals expect_dedicated requests
dedicated_told l w i buffer h d =
    told_by w [] (requests w w.state.shared buffer h d) buffer [] (is_unfit w) (after (is_pending w.state buffer))
    (after (has_pending l buffer)) i.fit
    (ap (λ (t : Bool). first (after t)) (sym (pending_is w.state.regs l w.state w.memory i.agrees buffer)))
    (λ e. refl)
  where
    after : Bool → Refusals
    after t = 21 when malformed h.frame (length d) ∷ 23 when leb (dedicated w.state.regs) buffer ∷ 24 when t ∷ []

pub dedicated_leaves : DedicatedLeaves
unfolding requests
dedicated_leaves l w i buffer h d typed =
    call_cases w [] (dedicated_refusals w buffer h (length d)) (requests w w.state.shared buffer h d)
    (λ (o : Outcome ℕ). LeavesTx w (noted l (note_request l (asked h d)) o.says) o.world)
    (λ n. leaves_tx l w i)
    (λ e.
    let s = w.state in
    let g = s.regs in
    let o = dedicated_open w buffer h (length d) e in
    put_leaves l w i buffer (omega (arith, o.number)) o.free h d typed o.formed s.shared
    (λ f.
    requested_before Request (dedicated g) (shared g) l s.shared (i.agrees.fifo f) (asked h d) buffer o.number)
    i.agrees.queue)

-- ---- shared

module _ (l : Book) (s : State) (mem : List ℕ) (h : TxAgrees s.regs l s mem) where
  -- the book has the same free place
  free_told : free_place s ≡ free_shared s.regs l
  unfolding free_place queue_place fifo_place free_shared
  free_told = go (is_queue s.regs) refl
    where
      n : ℕ
      n = shared s.regs

      d : ℕ
      d = dedicated s.regs

      go : (t : Bool) → is_queue s.regs ≡ t
          → pick t (least_from (λ p. not (is_pending s (dedicated s.regs + p))) 0 (shared s.regs))
          (pick (ltb s.shared.fill (shared s.regs)) (put_place s.shared (shared s.regs)) (shared s.regs))
          ≡ pick t (least_from (λ p. not (has_pending l (dedicated s.regs + p))) 0 (shared s.regs))
          (pick (ltb (tally (is_shared (dedicated s.regs)) l.pending) (shared s.regs))
          (tally (is_shared (dedicated s.regs)) l.requested % shared s.regs) (shared s.regs))
      go true e = least_same _ _ 0 n (λ p a b. ap not (sym (pending_is s.regs l s mem h (d + p))))
      go false e =
          ap₂ (λ (m p : ℕ). pick (ltb m n) p n) (circle_filled Request d n l s.shared (h.fifo e)) (h.fifo e).next

  -- the buffer at the free place is not pending
  free_clear : free_place s < shared s.regs → is_pending s (free_buffer s) ≡ false
  free_clear k = go (is_queue s.regs) refl
    where
      n : ℕ
      n = shared s.regs

      d : ℕ
      d = dedicated s.regs

      go : (t : Bool) → is_queue s.regs ≡ t → is_pending s (free_buffer s) ≡ false
      go true e =
          let at = free_queue s e in
          ap (λ (p : ℕ). is_pending s (d + p)) at
          ∙ not-true _ (least_passes (λ p. not (is_pending s (d + p))) 0 n (omega (arith, at)))
      go false e =
          let f = free_room s e k in
          let c = h.fifo e in
          let put = put_place s.shared n in
          ap (λ (p : ℕ). is_pending s (d + p)) f.1
          ∙ sym (pending_is s.regs l s mem h (d + put))
          ∙ circle_held Request d n l s.shared c put (place_lt s.shared n s.shared.fill (omega (arith, f.0)))
          ∙ put_not_held s.shared n c.fit f.0

pub shared_told : SharedTold
unfolding shared_refusals expect_shared requests
shared_told l w i h d =
    let s = w.state in
    let free = free_told l s w.memory i.agrees in
    told_by w [] (requests w (shared_after s) (free_buffer s) h d) (dedicated s.regs + free_shared s.regs l) []
    (is_unfit w) (after (free_place s)) (after (free_shared s.regs l)) i.fit
    (ap (λ (p : ℕ). first (after p)) free)
    (λ e. ap (λ (p : ℕ). record { says = answers (dedicated s.regs + p); output = [] }) free)
  where
    after : ℕ → Refusals
    after p = 21 when malformed h.frame (length d) ∷ 25 when leb (shared w.state.regs) p ∷ []

pub shared_leaves : SharedLeaves
unfolding requests
shared_leaves l w i h d typed =
    call_cases w [] (shared_refusals w h (length d)) (requests w (shared_after w.state) (free_buffer w.state) h d)
    (λ (o : Outcome ℕ). LeavesTx w (noted l (note_request l (asked h d)) o.says) o.world)
    (λ n. leaves_tx l w i)
    (λ e.
    let o = shared_open w h (length d) e in
    put_leaves l w i (free_buffer w.state) (omega (arith, o.number))
    (free_clear l w.state w.memory i.agrees o.number) h d typed o.formed (shared_after w.state)
    (circle o.number) queue)
  where
    s : State
    s = w.state

    queue : is_queue w.state.regs ≡ true → shared_after w.state ≡ none_held
    queue y = pick_first s.shared (pushed s.shared) y ∙ i.agrees.queue y

    circle : free_place w.state < shared w.state.regs → is_queue w.state.regs ≡ false
        → CircleAgrees (dedicated w.state.regs) (shared w.state.regs)
        (note_request l (asked h d) (free_buffer w.state)) (shared_after w.state)
    circle k n =
        let g = s.regs in
        let f = free_room s n k in
        rw (pick_second s.shared (pushed s.shared) n)
        (requested_next Request (dedicated g) (shared g) l s.shared (i.agrees.fifo n) (asked h d) (free_buffer s)
        f.0 (ap (λ (p : ℕ). dedicated g + p) f.1))

-- ---- cancel

pub cancel_told : CancelTold
unfolding cancel_refusals expect_cancel
cancel_told l w i buffer =
    told_by w [] (cancels w buffer) tt [] (is_unfit w) (after (is_pending w.state buffer))
    (after (has_pending l buffer))
    i.fit
    (ap (λ (t : Bool). first (after t)) (sym (pending_is w.state.regs l w.state w.memory i.agrees buffer)))
    (λ e. refl)
  where
    after : Bool → Refusals
    after t = 23 when no_tx_buffer w.state buffer ∷ 26 when in_shared_fifo w.state buffer ∷ 27 when not t ∷ []

pub cancel_leaves : CancelLeaves
cancel_leaves l w i buffer =
    call_cases w [] (cancel_refusals w buffer) (cancels w buffer)
    (λ (o : Outcome (Unit {0})). LeavesTx w (noted l (λ t. note_cancel l buffer) o.says) o.world)
    (λ n. leaves_tx l w i)
    (λ e.
    let s = w.state in
    let g = s.regs in
    let o = cancel_open w buffer e in
    record {
      left = record {
        agrees =
            cleared_agrees g l s w.memory i.agrees (few_in l w i) buffer o.number (note_cancel l buffer) refl
            (cancel_balances Request l i.agrees.balanced buffer) s.shared s.sent
            (with_bit s.cancelled buffer)
            (λ f. cancelled_before Request (dedicated g) (shared g) l s.shared (i.agrees.fifo f) buffer
            (grind (arith, o.apart, f)))
            i.agrees.queue
            (cancel_sets_bit Request l s.sent s.cancelled i.agrees.bits i.agrees.balanced buffer
            (pending_is g l s w.memory i.agrees buffer ∙ o.pending));
        state = record { regs = refl; fifo0 = refl; fifo1 = refl; newdata = refl };
        memory = only_none (area_range (tx_area g)) w.memory;
      };
      events = refl;
    })
