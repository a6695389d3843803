-- The Tx buffers hold the book's pending requests: what follows, and that it stays so when one comes or goes.
-- Assumes nothing.
use Prim.Native.Nat.{ℕ, ◌+◌, ◌^◌, ◌≤◌, ◌<◌}
use mathlib.Core.Path.{◌≡◌, refl, sym, ap, ◌∙◌, subst}
use mathlib.Core.Bool.{Bool, true, false, not}
use mathlib.Core.List.{List}
use native.Mathlib.Nat.{lt_of_lt_of_le}
use native.Mathlib.Omega.{arith}
use lib.ListN.{length}
use lib.Pow.{pow_mono}
use Rattle.words.specs.Bits.{bit, is_set, with_bit, without_bit}
use Rattle.words.specs.Runs.{part, splice}
use Rattle.words.proofs.Ranges.{only_none}
use Rattle.ring.specs.Rings.{Fit, none_held, held}
use Rattle.ring.specs.declared.Ring.{Ring}
use Rattle.ring.proofs.Fitness.{fit_none}
use Rattle.frame.proofs.SizeLaws.{words_least}
use Rattle.registers.specs.Fields.{dedicated, shared, tx_count, is_queue, tx_code}
use Rattle.registers.specs.declared.Registers.{Registers}
use Rattle.element.specs.Promises.{TxBack}
use Rattle.element.specs.Word0.{word0}
use Rattle.element.specs.Word1.{tx_word1}
use Rattle.element.proofs.RoundTrip.{tx_back}
use Rattle.element.proofs.Storing.{element_length}
use Rattle.layout.specs.Legal.{Legal}
use Rattle.places.specs.Areas.{area_range, area_end, place_in}
use Rattle.places.specs.declared.Area.{Area}
use Rattle.areas.specs.Areas.{tx_area, data_words}
use Rattle.areas.proofs.Rooms.{tx_roomy}
use Rattle.engine.specs.Calls.{World}
use Rattle.engine.specs.Fitness.{shared_ring_size}
use Rattle.engine.specs.States.{with_tx}
use Rattle.engine.specs.declared.state.State.{State}
use Rattle.engine.proofs.Cases.{queue_ring, fifo_ring_is}
use Rattle.engine.proofs.Sounds.{sound_of}
use Rattle.books.specs.Balance.{RequestsBalanced}
use Rattle.books.specs.Lists.{others}
use Rattle.books.specs.Pending.{CircleAgrees, BitsTell}
use Rattle.books.specs.Requests.{Accepted, is_buffer, accepted_in, note_request, has_pending}
use Rattle.books.proofs.Buffers.{none_pending, buffers_elsewhere, buffer_filled, buffer_cleared}
use Rattle.books.proofs.Buffers.{pending_told, pending_has, pending_words, pending_below}
use Rattle.books.proofs.Circles.{none_waits, circle_held}
use Rattle.books.proofs.Latest.{no_bits}
use Rattle.books.proofs.Lists.{each_snoc, each_those}
use Rattle.books.proofs.Requests.{no_request_balances, request_balances}
use Rattle.requests.specs.Requests.{Request, Sendable, Book, no_request, request_in}
use Rattle.requests.specs.Standing.{element_of, TxAgrees, InStep, Leaves, LeavesTx, TxFit}
use Rattle.requests.specs.Promises.{StartAgrees, ElsewhereAgrees, BookFits}

abbrev IsSendable : Accepted Request → Type 0
IsSendable e = Sendable e.request

-- a request's element is as long as the area's elements
pub element_each : (g : Registers) (q : Request) → length (element_of g q) ≡ (tx_area g).each
element_each g q =
    element_length (word0 q.header.frame) (tx_word1 q.header) q.bytes (data_words (tx_area g))
    ∙ omega (arith, words_least (tx_code g) (omega arith))

-- nothing pending
pub start_agrees : StartAgrees
start_agrees g s mem p e sent cancelled = record {
  buffers = rw p (none_pending Request (tx_area g) (element_of g) mem);
  sendable = tt;
  fifo = λ f. rw e (none_waits Request (dedicated g) (shared g) (omega arith));
  queue = λ f. e;
  balanced = no_request_balances Request;
  bits = rw (sent, cancelled) (no_bits Request);
}

pub elsewhere_agrees : ElsewhereAgrees
elsewhere_agrees g l s mem h room next other p e sent cancelled same = record {
  buffers =
      rw p
      (buffers_elsewhere Request (tx_area g) (element_of g) l.pending s.pending mem h.buffers room other same);
  sendable = h.sendable;
  fifo = λ f. rw e (h.fifo f);
  queue = λ f. e ∙ h.queue f;
  balanced = h.balanced;
  bits = rw (sent, cancelled) h.bits;
}

module _ (g : Registers) (l : Book) (s : State) (mem : List ℕ) (h : TxAgrees g l s mem) where
  -- ---- what follows

  pub pending_is : (b : ℕ) → has_pending l b ≡ is_set s.pending b
  pending_is b = pending_told Request (tx_area g) (element_of g) l s.pending mem h.buffers b

  -- a pending buffer has the header and the bytes of the request that the book has in it
  pub reads_back : (b : ℕ) → has_pending l b ≡ true
      → TxBack mem (place_in (tx_area g) b) (data_words (tx_area g)) (request_in l b).header (request_in l b).bytes
  reads_back b e =
      let q = request_in l b in
      let t = pending_has l (record { number = 0; buffer = 0; request = no_request }) b e IsSendable h.sendable in
      tx_back mem (place_in (tx_area g) b) (data_words (tx_area g)) q.header q.bytes
      (ap (λ (n : ℕ). part (place_in (tx_area g) b) n mem) (element_each g q)
      ∙ pending_words Request (tx_area g) (element_of g) l s.pending mem h.buffers no_request b e)
      t.typed.marker t.formed t.typed.bytes

  -- ---- a request comes

  pub filled_agrees : area_end (tx_area g) ≤ length mem → (b : ℕ) → b < tx_count g → bit s.pending b ≡ 0
      → (q : Request) → Sendable q → (ring : Ring) (sent cancelled : ℕ)
      → (is_queue g ≡ false → CircleAgrees (dedicated g) (shared g) (note_request l q b) ring)
      → (is_queue g ≡ true → ring ≡ none_held) → BitsTell (note_request l q b) sent cancelled
      → TxAgrees g (note_request l q b) (with_tx s ring (with_bit s.pending b) sent cancelled)
      (splice mem (place_in (tx_area g) b) (element_of g q))
  filled_agrees room b inside clear q can ring sent cancelled f e bits = record {
    buffers =
        buffer_filled Request (tx_area g) (element_of g) l.pending s.pending mem h.buffers room
        (accepted_in l b q) inside clear (element_each g q);
    sendable = each_snoc IsSendable l.pending (accepted_in l b q) h.sendable can;
    fifo = f;
    queue = e;
    balanced = request_balances Request l h.balanced q b;
    bits = bits;
  }

  -- ---- one goes, sent or cancelled

  pub cleared_agrees : tx_count g ≤ 32 → (b : ℕ) → b < tx_count g → (m : Book)
      → m.pending ≡ others (is_buffer b) l.pending → RequestsBalanced m → (ring : Ring) (sent cancelled : ℕ)
      → (is_queue g ≡ false → CircleAgrees (dedicated g) (shared g) m ring) → (is_queue g ≡ true → ring ≡ none_held)
      → BitsTell m sent cancelled → TxAgrees g m (with_tx s ring (without_bit 32 s.pending b) sent cancelled) mem
  cleared_agrees few b inside m gone balanced ring sent cancelled f e bits = record {
    buffers =
        rw gone
        (buffer_cleared Request (tx_area g) (element_of g) l.pending s.pending mem h.buffers 32 few b inside);
    sendable = rw gone (each_those (λ x. not (is_buffer b x)) IsSendable l.pending h.sendable);
    fifo = f;
    queue = e;
    balanced = balanced;
    bits = bits;
  }

-- ---- fitness

pub book_fits : BookFits
book_fits l s mem h = go (is_queue s.regs) refl
  where
    few : s.pending < 2 ^ tx_count s.regs
    few = pending_below Request (tx_area s.regs) (element_of s.regs) l s.pending mem h.buffers

    Held : ℕ → Type 0
    Held size = (p : ℕ) → p < size → is_set s.pending (dedicated s.regs + p) ≡ held s.shared size p

    go : (t : Bool) → is_queue s.regs ≡ t → TxFit s
    go true y =
        let size : 0 ≡ shared_ring_size s.regs = queue_ring s.regs (is_queue s.regs) refl y in
        record {
          shared =
              subst (Fit s.shared) size
              (subst (λ (q : Ring). Fit q 0) (sym (h.queue y)) (fit_none 0 (omega arith)));
          pending = few;
          held_bits = λ p k. absurd (omega (arith, size));
        }
    go false n =
        let size : shared s.regs ≡ shared_ring_size s.regs
        = fifo_ring_is s.regs (is_queue s.regs) refl n (shared s.regs) refl in
        let c = h.fifo n in
        record {
          shared = subst (Fit s.shared) size c.fit;
          pending = few;
          held_bits =
              subst Held size
              (λ p k.
              sym (pending_is s.regs l s mem h (dedicated s.regs + p))
              ∙ circle_held Request (dedicated s.regs) (shared s.regs) l s.shared c p k);
        }

-- ---- a world in step with the book

module _ (l : Book) (w : World) (i : InStep l w) where
  pub legal_in : Legal w.state.regs (length w.memory)
  legal_in = (sound_of w.state w.recorded (length w.memory) i.fit).legal

  pub room_in : area_end (tx_area w.state.regs) ≤ length w.memory
  room_in = (tx_roomy w.state.regs (length w.memory) legal_in).room

  pub few_in : tx_count w.state.regs ≤ 32
  few_in = legal_in.counted.together

  -- the sent and cancelled words are of 32 bits
  pub sent_in : w.state.sent < 2 ^ 32
  sent_in =
      lt_of_lt_of_le (sound_of w.state w.recorded (length w.memory) i.fit).sent (pow_mono few_in)

  pub cancelled_in : w.state.cancelled < 2 ^ 32
  cancelled_in =
      lt_of_lt_of_le (sound_of w.state w.recorded (length w.memory) i.fit).cancelled (pow_mono few_in)

  -- a call that is refused leaves all
  pub leaves_all : (a : Area) → Leaves a w l w
  leaves_all a = record {
    agrees = i.agrees;
    state = record { regs = refl; fifo0 = refl; fifo1 = refl; newdata = refl };
    memory = only_none (area_range a) w.memory;
  }

  pub leaves_tx : LeavesTx w l w
  leaves_tx = record { left = leaves_all (tx_area w.state.regs); events = refl }
