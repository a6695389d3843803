-- Call 15: the book tells where the four rings stand and how many Tx buffers are pending.
-- Assumes nothing.
use Prim.Native.Nat.{ℕ, ◌-◌, ◌%◌}
use mathlib.Core.Path.{◌≡◌, refl, ap, ◌∙◌}
use mathlib.Core.Bool.{Bool, true, false}
use mathlib.Core.List.{List, []}
use native.Mathlib.Omega.{arith}
use lib.ListN.{length}
use Rattle.words.specs.Choice.{pick}
use Rattle.ring.specs.Rings.{none_held, place_after}
use Rattle.ring.specs.declared.Ring.{Ring}
use Rattle.registers.specs.Fields.{dedicated, shared, is_queue}
use Rattle.registers.specs.declared.Registers.{Registers}
use Rattle.places.specs.declared.Area.{Area}
use Rattle.areas.specs.Areas.{fifo_area, event_area, tx_area}
use Rattle.shape.specs.Calls.{answers, tells}
use Rattle.shape.specs.Histories.{told}
use Rattle.engine.specs.Calls.{World, is_unfit}
use Rattle.engine.specs.Fitness.{shared_ring_size}
use Rattle.engine.specs.States.{fifo_ring}
use Rattle.engine.specs.declared.state.State.{State}
use Rattle.engine.proofs.Sounds.{sound_of}
use Rattle.overview.specs.Overview
use Rattle.overview.specs.Overview.{ring_status, status_of, overview_refusals}
use Rattle.overview.specs.declared.Overview.{Overview as Told}
use Rattle.overview.proofs.Fits.{pending_counted}
use Rattle.books.specs.Ledgers.{Ledger}
use Rattle.books.specs.Lists.{tally}
use Rattle.books.specs.Requests.{is_shared}
use Rattle.books.specs.Standing.{RingAgrees}
use Rattle.books.proofs.Buffers as Buffers
use Rattle.books.proofs.Circles.{circle_filled, circle_oldest}
use Rattle.books.proofs.Seen.{oldest_told}
use Rattle.requests.specs.Requests
use Rattle.requests.specs.Requests.{Request}
use Rattle.requests.specs.Standing.{element_of, TxAgrees}
use Rattle.requests.proofs.Telling.{told_by}
use Rattle.handler.specs.Calls.{report_status}
use Rattle.history.specs.Books.{Book, fifo_ledger}
use Rattle.history.specs.Expected.{ring_of, shared_of, status_in, expect}
use Rattle.history.specs.Standing.{BookAgrees}

ring_told : (a : Area) (l : Ledger) (q : Ring) (mem : List ℕ) → RingAgrees a l q mem
    → ring_status q a.count ≡ ring_of a.count l
ring_told a l q mem x =
    let f = x.holds.fill in
    let o = oldest_told a l q mem x in
    let p = x.put in
    cc

-- in FIFO mode the requests tell the ring
fifo_told : (g : Registers) (l : Requests.Book) (s : State) (mem : List ℕ) → TxAgrees g l s mem → is_queue g ≡ false
    → ring_status s.shared (shared g)
    ≡ record {
      fill = tally (is_shared (dedicated g)) l.pending;
      oldest =
          (tally (is_shared (dedicated g)) l.requested - tally (is_shared (dedicated g)) l.pending) % shared g;
      put = tally (is_shared (dedicated g)) l.requested % shared g;
    }
fifo_told g l s mem h n =
    let c = h.fifo n in
    let f = circle_filled Request (dedicated g) (shared g) l s.shared c in
    let o = circle_oldest Request (dedicated g) (shared g) l s.shared c h.balanced in
    let p = c.next in
    cc

shared_told : (g : Registers) (b : Book) (s : State) (mem : List ℕ) → TxAgrees g b.requests s mem
    → ring_status s.shared (shared_ring_size g) ≡ shared_of g b
unfolding shared_ring_size place_after
shared_told g b s mem h = go (is_queue g) refl
  where
    go : (t : Bool) → is_queue g ≡ t → ring_status s.shared (pick t 0 (shared g))
        ≡ pick t (record { fill = 0; oldest = 0; put = 0 })
        (record {
          fill = tally (is_shared (dedicated g)) b.requests.pending;
          oldest =
              (tally (is_shared (dedicated g)) b.requests.requested
              - tally (is_shared (dedicated g)) b.requests.pending)
              % shared g;
          put = tally (is_shared (dedicated g)) b.requests.requested % shared g;
        })
    go true e = ap (λ (q : Ring). ring_status q 0) (h.queue e) ∙ none
      where
        none : ring_status none_held 0 ≡ record { fill = 0; oldest = 0; put = 0 }
        none = refl
    go false e = fifo_told g b.requests s mem h e

pub status_told : (began : List ℕ) (b : Book) (w : World) → is_unfit w ≡ false
    → BookAgrees w.state.regs began b w.state w.memory
    → told (Overview.report_status w) ≡ expect w.state.regs began b report_status
unfolding overview_refusals status_of fifo_ring fifo_ledger
status_told began b w fit h =
    let s = w.state in
    let g = s.regs in
    let mem = w.memory in
    let f0 = ring_told (fifo_area g 0) b.fifo0 s.fifo0 mem (h.fifos 0 (omega arith)) in
    let f1 = ring_told (fifo_area g 1) b.fifo1 s.fifo1 mem (h.fifos 1 (omega arith)) in
    let e = ring_told (event_area g) b.events s.events mem h.events in
    let t = shared_told g b s mem h.requests in
    let p =
    pending_counted s (length mem) (sound_of s w.recorded (length mem) fit)
    ∙ Buffers.pending_counted Request (tx_area g) (element_of g) b.requests s.pending mem h.requests.buffers in
    let all : status_of s ≡ status_in g b
    = λ i. record { fifo0 = f0 i; fifo1 = f1 i; events = e i; shared = t i; pending = p i } in
    told_by w [] (tells (status_of s) w) (status_in g b) [] (is_unfit w) [] [] fit refl
    (λ e. ap (λ (x : Told). record { says = answers x; output = [] }) all)
