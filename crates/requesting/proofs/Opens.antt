-- What is known where nothing is against a call, and so what its helpers ask.
-- Assumes nothing.
use Prim.Native.Nat.{ℕ, ◌<◌}
use mathlib.Core.Path.{◌≡◌, sym}
use mathlib.Core.Bool.{true, false, not}
use mathlib.Core.List.{List, [], ◌∷◌}
use borrow.Author.Tests.{leb-false, not-false}
use native.Mathlib.Omega.{arith}
use lib.ListN.{length}
use Rattle.words.specs.Rules.{allowed, first}
use Rattle.words.proofs.Rulings.{all_three}
use Rattle.frame.specs.Malformed.{malformed}
use Rattle.element.specs.declared.TxHeader.{TxHeader}
use Rattle.element.proofs.Fitness.{frame_fits}
use Rattle.registers.specs.Fields.{dedicated, shared, tx_count}
use Rattle.areas.proofs.Rooms.{tx_roomy}
use Rattle.layout.specs.Verdict.{plain}
use Rattle.engine.specs.Buffers.{no_tx_buffer, is_pending, in_shared_fifo}
use Rattle.engine.specs.Calls.{World, world, ◌when◌, is_unfit}
use Rattle.engine.specs.Fitness.{Sound}
use Rattle.engine.specs.declared.state.State.{State}
use Rattle.engine.specs.declared.state.Record.{Record}
use Rattle.engine.proofs.Buffers.{buffer_small}
use Rattle.engine.proofs.Calls.{row_off}
use Rattle.engine.proofs.Sounds.{sound_of}
use Rattle.requesting.specs.Cancelling.{cancel_refusals}
use Rattle.requesting.specs.Needs.{Requestable, SharedRoom}
use Rattle.requesting.specs.Places.{free_place, none_free, free_buffer}
use Rattle.requesting.specs.Requesting.{not_dedicated, dedicated_refusals, shared_refusals}
use Rattle.requesting.proofs.Places.{free_room}

-- ---- call 7

pub record DedicatedOpen (w : World) (buffer : ℕ) (h : TxHeader) (bytes : ℕ) : Type 0 where
  pub fit : is_unfit w ≡ false
  pub formed : malformed h.frame bytes ≡ false
  pub number : buffer < dedicated w.state.regs
  pub free : is_pending w.state buffer ≡ false

pub dedicated_open : (w : World) (buffer : ℕ) (h : TxHeader) (bytes : ℕ)
    → first (dedicated_refusals w buffer h bytes) ≡ allowed → DedicatedOpen w buffer h bytes
unfolding dedicated_refusals
dedicated_open w buffer h bytes e =
    let s = w.state in
    let p =
    row_off 20 _ (21 when malformed h.frame bytes ∷ 23 when not_dedicated s buffer ∷ 24 when is_pending s buffer ∷ [])
    e in
    let q = row_off 21 _ (23 when not_dedicated s buffer ∷ 24 when is_pending s buffer ∷ []) p.1 in
    let t = row_off 23 _ (24 when is_pending s buffer ∷ []) q.1 in
    record {
      fit = p.0;
      formed = q.0;
      number = leb-false (dedicated s.regs) buffer t.0;
      free = (row_off 24 _ [] t.1).0;
    }

-- ---- call 8

pub record SharedOpen (w : World) (h : TxHeader) (bytes : ℕ) : Type 0 where
  pub fit : is_unfit w ≡ false
  pub formed : malformed h.frame bytes ≡ false
  pub number : free_place w.state < shared w.state.regs

pub shared_open : (w : World) (h : TxHeader) (bytes : ℕ) → first (shared_refusals w h bytes) ≡ allowed
    → SharedOpen w h bytes
unfolding shared_refusals
shared_open w h bytes e =
    let p =
    all_three (is_unfit w) (malformed h.frame bytes) (none_free w.state) (plain 20) (plain 21) (plain 25) e in
    record { fit = p.0; formed = p.1; number = leb-false (shared w.state.regs) (free_place w.state) p.2 }

-- ---- call 9

pub record CancelOpen (w : World) (buffer : ℕ) : Type 0 where
  pub fit : is_unfit w ≡ false
  pub number : buffer < tx_count w.state.regs
  pub apart : in_shared_fifo w.state buffer ≡ false
  pub pending : is_pending w.state buffer ≡ true

pub cancel_open : (w : World) (buffer : ℕ) → first (cancel_refusals w buffer) ≡ allowed → CancelOpen w buffer
unfolding cancel_refusals
cancel_open w buffer e =
    let s = w.state in
    let p =
    row_off 20 _ (23 when no_tx_buffer s buffer ∷ 26 when in_shared_fifo s buffer ∷ 27 when not (is_pending s buffer) ∷ []) e
    in
    let q = row_off 23 _ (26 when in_shared_fifo s buffer ∷ 27 when not (is_pending s buffer) ∷ []) p.1 in
    let t = row_off 26 _ (27 when not (is_pending s buffer) ∷ []) q.1 in
    record {
      fit = p.0;
      number = leb-false (tx_count s.regs) buffer q.0;
      apart = t.0;
      pending = not-false (is_pending s buffer) (row_off 27 _ [] t.1).0;
    }

-- ---- what the helpers ask

pub open_sound : (w : World) → is_unfit w ≡ false → Sound w.state (length w.memory)
open_sound w e = sound_of w.state w.recorded (length w.memory) e

-- a frame that is not malformed can be written to a buffer that exists
requestable : (w : World) (buffer : ℕ) (h : TxHeader) (bytes : ℕ) → is_unfit w ≡ false
    → malformed h.frame bytes ≡ false → buffer < tx_count w.state.regs
    → Requestable w.state (length w.memory) buffer h
requestable w buffer h bytes fit formed l =
    let sound = open_sound w fit in
    record {
      element = record { room = tx_roomy w.state.regs (length w.memory) sound.legal; within = l };
      bit = buffer_small w.state (length w.memory) sound buffer l;
      frame = frame_fits h.frame bytes formed;
    }

pub dedicated_requestable : (w : World) (buffer : ℕ) (h : TxHeader) (bytes : ℕ)
    → first (dedicated_refusals w buffer h bytes) ≡ allowed → Requestable w.state (length w.memory) buffer h
dedicated_requestable w buffer h bytes e =
    let o = dedicated_open w buffer h bytes e in
    requestable w buffer h bytes o.fit o.formed (omega (arith, o.number))

pub shared_requestable : (w : World) (h : TxHeader) (bytes : ℕ) → first (shared_refusals w h bytes) ≡ allowed
    → Requestable w.state (length w.memory) (free_buffer w.state) h
shared_requestable w h bytes e =
    let o = shared_open w h bytes e in
    requestable w (free_buffer w.state) h bytes o.fit o.formed (omega (arith, o.number))

-- ---- the same, where nothing was found

module _ (s : State) (r : Record) (mem : List ℕ) where
  pub dedicated_can : (buffer : ℕ) (h : TxHeader) (len : ℕ)
      → allowed ≡ first (dedicated_refusals (world s r mem) buffer h len) → Requestable s (length mem) buffer h
  dedicated_can buffer h len e = dedicated_requestable (world s r mem) buffer h len (sym e)

  module _ (h : TxHeader) (len : ℕ) (e : allowed ≡ first (shared_refusals (world s r mem) h len)) where
    pub shared_can : Requestable s (length mem) (free_buffer s) h
    shared_can = shared_requestable (world s r mem) h len (sym e)

    pub shared_room : SharedRoom s
    shared_room =
        let o = shared_open (world s r mem) h len (sym e) in
        record {
          ring = (open_sound (world s r mem) o.fit).shared;
          room = λ u. (free_room s u o.number).0;
        }

  pub cancel_small : (buffer : ℕ) → allowed ≡ first (cancel_refusals (world s r mem) buffer) → buffer < 32
  cancel_small buffer e =
      let o = cancel_open (world s r mem) buffer (sym e) in
      buffer_small s (length mem) (open_sound (world s r mem) o.fit) buffer o.number
