-- The book agrees with a state and a memory; and it still does when one part of them changes and the book with it.
-- Assumes nothing.
use Prim.Native.Nat.{ℕ, zero, suc, ◌≤◌, ◌<◌}
use mathlib.Core.Path.{◌≡◌, refl, sym, ◌∙◌, subst}
use mathlib.Core.List.{List}
use native.Mathlib.Omega.{arith}
use lib.ListN.{length}
use Rattle.words.specs.Ranges.{OnlyIn}
use Rattle.words.proofs.Ranges.{only_apart}
use Rattle.ring.specs.declared.Ring.{Ring}
use Rattle.registers.specs.declared.Registers.{Registers}
use Rattle.layout.specs.Legal.{Legal}
use Rattle.places.specs.Areas.{area_range}
use Rattle.places.specs.declared.Area.{Area}
use Rattle.places.proofs.Stores.{element_kept}
use Rattle.areas.specs.Areas.{fifo_area, buffer_area, event_area}
use Rattle.areas.specs.Own.{own}
use Rattle.areas.proofs.Rooms.{buffer_roomy, tx_roomy}
use Rattle.areas.proofs.Sections.{own_fifo, own_apart}
use Rattle.engine.specs.States.{fifo_ring, with_fifo, with_new_data}
use Rattle.engine.specs.declared.state.State.{State}
use Rattle.books.specs.Ledgers.{Ledger}
use Rattle.books.specs.Standing.{RingAgrees}
use Rattle.books.proofs.Holding.{apart_agrees}
use Rattle.requests.specs.Requests
use Rattle.requests.specs.Standing.{TxAgrees, RestSame}
use Rattle.requests.proofs.Holding.{elsewhere_agrees}
use Rattle.history.specs.Books.{Book, InRxBuffer, fifo_ledger, with_fifo_ledger, with_sending, with_buffers}
use Rattle.history.specs.Standing.{BuffersAgree, BookAgrees}
use Rattle.history.proofs.Sections.{rest_kept}

-- ---- a change in section 2 + i leaves the others

module _ (g : Registers) (mem next : List ℕ) (legal : Legal g (length mem))
    (i : ℕ) (own-i : i < 5) (kept : OnlyIn (area_range (own g i)) mem next) where
  pub ring_elsewhere : (j : ℕ) → j < 5 → (i ≡ j → ⊥) → (l : Ledger) (q : Ring) → RingAgrees (own g j) l q mem
      → RingAgrees (own g j) l q next
  ring_elsewhere j own-j ne l q r =
      apart_agrees (own g j) l q mem r (own g i) next kept (own_apart g (length mem) legal i j own-i own-j ne)

  fifo_elsewhere : (fifo : ℕ) → fifo ≤ 1 → (i ≡ fifo → ⊥) → (l : Ledger) (q : Ring)
      → RingAgrees (fifo_area g fifo) l q mem → RingAgrees (fifo_area g fifo) l q next
  fifo_elsewhere fifo m ne l q r =
      let e = own_fifo g fifo m in
      subst (λ (a : Area). RingAgrees a l q next) e
      (ring_elsewhere fifo (omega arith) ne l q (subst (λ (a : Area). RingAgrees a l q mem) (sym e) r))

  buffers_elsewhere : (i ≡ 2 → ⊥) → (newdata : ℕ) (buffered : List InRxBuffer) → BuffersAgree g newdata buffered mem
      → BuffersAgree g newdata buffered next
  buffers_elsewhere ne newdata buffered r = record {
    inside = r.inside;
    words = λ n e.
        element_kept (buffer_area g) mem next (buffer_roomy g (length mem) legal).room
        (only_apart (area_range (own g 2)) (area_range (own g i)) mem next kept
        (own_apart g (length mem) legal i 2 own-i (omega arith) ne))
        n (r.inside n e)
        ∙ r.words n e;
  }

  pub requests_elsewhere : i < 4 → (l : Requests.Book) (s after : State) → after.pending ≡ s.pending
      → after.shared ≡ s.shared → after.sent ≡ s.sent → after.cancelled ≡ s.cancelled → TxAgrees g l s mem
      → TxAgrees g l after next
  requests_elsewhere h l s after p q sent cancelled t =
      elsewhere_agrees g l s mem t (tx_roomy g (length mem) legal).room after next p q sent cancelled
      (only_apart (area_range (own g 4)) (area_range (own g i)) mem next kept
      (own_apart g (length mem) legal i 4 own-i (omega arith) (λ e. omega arith)))

-- ---- one part changes

module _ (g : Registers) (began : List ℕ) (b : Book) (s : State) (mem : List ℕ)
    (legal : Legal g (length mem)) (h : BookAgrees g began b s mem) (next : List ℕ) where
  -- FIFO 0 or 1
  pub fifo_agreed : (fifo : ℕ) → fifo ≤ 1 → (l : Ledger) (q : Ring) → OnlyIn (area_range (fifo_area g fifo)) mem next
      → RingAgrees (fifo_area g fifo) l q next → BookAgrees g began (with_fifo_ledger b fifo l) (with_fifo s fifo q) next
  unfolding fifo_ledger with_fifo_ledger fifo_ring with_fifo
  fifo_agreed fifo m l q outside r =
      let kept = subst (λ (a : Area). OnlyIn (area_range a) mem next) (sym (own_fifo g fifo m)) outside in
      record {
        regs = h.regs;
        fifos = λ other n. both fifo other m n outside r;
        events =
            ring_elsewhere g mem next legal fifo (omega arith) kept 3 (omega arith) (λ e. omega arith) _ _ h.events;
        requests =
            requests_elsewhere g mem next legal fifo (omega arith) kept (omega arith) b.requests s
            (with_fifo s fifo q) refl refl refl refl h.requests;
        newdata = h.newdata;
        buffers = buffers_elsewhere g mem next legal fifo (omega arith) kept (λ e. omega arith) _ _ h.buffers;
        rest = rest_kept g began mem h.rest fifo (omega arith) next kept;
      }
    where
      both : (fifo other : ℕ) → fifo ≤ 1 → other ≤ 1 → OnlyIn (area_range (fifo_area g fifo)) mem next
          → RingAgrees (fifo_area g fifo) l q next
          → RingAgrees (fifo_area g other) (fifo_ledger (with_fifo_ledger b fifo l) other)
          (fifo_ring (with_fifo s fifo q) other) next
      both zero zero m n kept r = r
      both (suc zero) (suc zero) m n kept r = r
      both zero (suc zero) m n kept r =
          fifo_elsewhere g mem next legal 0 (omega arith) kept 1 n (λ e. omega arith) _ _ (h.fifos 1 n)
      both (suc zero) zero m n kept r =
          fifo_elsewhere g mem next legal 1 (omega arith) kept 0 n (λ e. omega arith) _ _ (h.fifos 0 n)
      both (suc (suc k)) other m n kept r = absurd (omega arith)
      both zero (suc (suc k)) m n kept r = absurd (omega arith)
      both (suc zero) (suc (suc k)) m n kept r = absurd (omega arith)

  -- the Rx buffers
  pub buffers_agreed : (newdata : ℕ) (buffered : List InRxBuffer) → OnlyIn (area_range (buffer_area g)) mem next
      → BuffersAgree g newdata buffered next
      → BookAgrees g began (with_buffers b newdata buffered) (with_new_data s newdata) next
  unfolding fifo_ledger fifo_ring
  buffers_agreed newdata buffered kept r = record {
    regs = h.regs;
    fifos = λ fifo n.
        fifo_elsewhere g mem next legal 2 (omega arith) kept fifo n (λ e. omega arith) _ _ (h.fifos fifo n);
    events = ring_elsewhere g mem next legal 2 (omega arith) kept 3 (omega arith) (λ e. omega arith) _ _ h.events;
    requests =
        requests_elsewhere g mem next legal 2 (omega arith) kept (omega arith) b.requests s (with_new_data s newdata)
        refl refl refl refl h.requests;
    newdata = refl;
    buffers = r;
    rest = rest_kept g began mem h.rest 2 (omega arith) next kept;
  }

  -- the event list or the Tx buffers, sections 5 and 6
  pub sending_agreed : (i : ℕ) → i < 5 → 2 < i → OnlyIn (area_range (own g i)) mem next → (after : State)
      → RestSame s after → (events : Ledger) (requests : Requests.Book)
      → RingAgrees (event_area g) events after.events next → TxAgrees g requests after next
      → BookAgrees g began (with_sending b events requests) after next
  unfolding fifo_ledger fifo_ring
  sending_agreed i own-i m kept after same events requests r t = record {
    regs = same.regs ∙ h.regs;
    fifos = λ fifo n.
        rw (same.fifo0, same.fifo1)
        (fifo_elsewhere g mem next legal i own-i kept fifo n (λ e. omega arith) _ _ (h.fifos fifo n));
    events = r;
    requests = t;
    newdata = same.newdata ∙ h.newdata;
    buffers = buffers_elsewhere g mem next legal i own-i kept (λ e. omega arith) _ _ h.buffers;
    rest = rest_kept g began mem h.rest i own-i next kept;
  }
