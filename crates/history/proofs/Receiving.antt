-- Calls 2 to 6: the book tells what they tell, and agrees after them.
-- Assumes nothing.
use Rattle.std.proofs.Common.{Option, Some, None}
use Prim.Native.Nat.{ℕ, ◌≤◌, ◌<◌}
use mathlib.Core.Path.{◌≡◌, refl, sym, ap, ◌∙◌, subst}
use mathlib.Core.Bool.{Bool, true, false, not, ◌&&◌, ◌||◌}
use mathlib.Core.List.{List, [], ◌∷◌, ◌++◌}
use borrow.Author.Tests.{ltb-false}
use lib.Dec.{ltb, leb}
use lib.ListN.{length}
use Rattle.words.specs.Bits.{is_set, with_bit, without_bit}
use Rattle.words.specs.Rules.{allowed, first}
use Rattle.words.specs.Runs.{splice}
use Rattle.words.proofs.Ranges.{only_none}
use Rattle.ring.specs.Rings.{released_through}
use Rattle.frame.specs.Malformed.{malformed}
use Rattle.frame.specs.declared.Frame.{Frame}
use Rattle.registers.specs.Fields.{fifo_size, overwrites, buffers}
use Rattle.registers.specs.declared.Registers.{Registers}
use Rattle.layout.specs.Legal.{Legal}
use Rattle.filter.specs.Destination.{Goes, to_fifo, to_buffer, discarded, destination}
use Rattle.filter.specs.Promises.{Within}
use Rattle.filter.proofs.Bounds.{destination_is_within}
use Rattle.filter.proofs.OwnSection.{destination_reads_its_list}
use Rattle.places.specs.Areas.{area_range, place_in}
use Rattle.places.specs.Slots.{take_rule, slot_memory}
use Rattle.places.proofs.Stores.{store_kept}
use Rattle.areas.specs.Areas.{fifo_area, buffer_area}
use Rattle.areas.proofs.Rooms.{fifo_roomy, buffer_roomy}
use Rattle.shape.specs.Calls.{answers, leaves, effected}
use Rattle.shape.specs.Histories.{told}
use Rattle.shape.specs.Refusals.{Refusals}
use Rattle.shape.proofs.Calls.{rows_both, call_cases}
use Rattle.engine.specs.Calls.{World, with_state, Outcome, Effect, ◌when◌, is_unfit, output_refusals}
use Rattle.engine.specs.Keeping.{keep_rule}
use Rattle.engine.specs.States.{fifo_ring}
use Rattle.engine.proofs.Calls.{row_passes}
use Rattle.engine.proofs.Sounds.{sound_of}
use Rattle.receiving.specs.Receive
use Rattle.receiving.specs.Receive.{Fate, arrival, slot_says, receive_refusals, into_fifo, into_buffer, into_nothing, goes_to}
use Rattle.receiving.specs.Receive.{receives}
use Rattle.receiving.proofs.Elements.{arrival_length}
use Rattle.receiving.proofs.Judgements.{receive_open}
use Rattle.receiving.proofs.Lists.{legal_lists}
use Rattle.receiving.proofs.Outcomes.{receives_cases}
use Rattle.taking.specs.Places.{no_place, place_free, no_rx_buffer, buffer_free, fifo_refusals, buffer_refusals}
use Rattle.taking.specs.Reading
use Rattle.taking.specs.Reading.{reads}
use Rattle.taking.specs.Releasing
use Rattle.taking.specs.Releasing.{released, emptied}
use Rattle.taking.proofs.Judgements.{FifoOpen, fifo_open, BufferOpen, buffer_open}
use Rattle.books.specs.Ledgers.{note_arrival, note_release, is_held_at, entry_at}
use Rattle.books.proofs.Arrivals.{arrival_told, arrival_agrees, arrival_keeps}
use Rattle.books.proofs.Releases.{release_told, release_agrees}
use Rattle.books.proofs.Seen.{words_told}
use Rattle.requests.proofs.Telling.{told_by}
use Rattle.handler.specs.Calls.{Call, receive, read_fifo, acknowledge_fifo, read_buffer, release_buffer, Answer}
use Rattle.history.specs.Books.{Book, fifo_ledger, last_in, frame_in, note_fifo, note_fate, note}
use Rattle.history.specs.Expected.{fate_of, expect_receive, fifo_against, buffer_against, expect_read, expect}
use Rattle.history.specs.Standing.{BookAgrees}
use Rattle.history.proofs.Agreeing.{fifo_agreed, buffers_agreed}
use Rattle.history.proofs.Buffers.{put_buffer, buffer_freed}
use Rattle.history.proofs.Elements.{read_alone}
use Rattle.history.proofs.Sections.{lists_stay}

-- a fit world that the book agrees with, with the registers of its own state
module _ (began : List ℕ) (b : Book) (w : World) (fit : is_unfit w ≡ false)
    (h : BookAgrees w.state.regs began b w.state w.memory) where
  abbrev g : Registers
  g = w.state.regs

  abbrev mem : List ℕ
  mem = w.memory

  -- the book agrees after an outcome
  abbrev Kept : (c : Call) → Outcome (Answer c) → Type 0
  Kept c o = BookAgrees g began (note g b c o.says) o.world.state o.world.memory

  legal : Legal g (length mem)
  legal = (sound_of w.state w.recorded (length mem) fit).legal

  -- ---- receive

  module _ (f : Frame) (d : List ℕ) (time : ℕ) where
    abbrev After : Effect Fate → Type 0
    After e = BookAgrees g began (note_fate g b f d time e.answer) e.world.state e.world.memory

    slot_is_noted : (fifo : ℕ) (m : Option ℕ) (slot : Option ℕ)
        → note_fifo g b f d time fifo m slot ≡ note_fate g b f d time (slot_says fifo m slot)
    slot_is_noted fifo m (Some p) = refl
    slot_is_noted fifo m None = refl

    goes_into_fifo : (fifo : ℕ) (priority : Bool) (m : Option ℕ) → fifo ≤ 1
        → After (into_fifo w fifo priority (arrival f time m) d)
    unfolding into_fifo keep_rule
    goes_into_fifo fifo priority m l =
        let a = fifo_area g fifo in
        let ws = frame_in a f d time m in
        let long = arrival_length (arrival f time m) d a (fifo_roomy g (length mem) legal fifo).header in
        let x = h.fifos fifo l in
        let q = fifo_ring w.state fifo in
        let t = take_rule (fifo_size g fifo) (overwrites g fifo) q in
        let next = slot_memory mem a ws t.slot in
        let state = (into_fifo w fifo priority (arrival f time m) d).world.state in
        subst (λ (c : Book). BookAgrees g began c state next) (slot_is_noted fifo m t.slot)
        (fifo_agreed g began b w.state mem legal h next fifo l
        (note_arrival (fifo_size g fifo) (fifo_ledger b fifo) ws t.slot) t.ring
        (arrival_keeps a q mem x.holds.room x.holds.ring (overwrites g fifo) ws long)
        (arrival_agrees a (fifo_ledger b fifo) q mem x (overwrites g fifo) ws long))

    goes_into_buffer : (buffer i : ℕ) → buffer < buffers g → After (into_buffer w buffer (arrival f time (Some i)) d)
    unfolding into_buffer
    goes_into_buffer buffer i l =
        let a = buffer_area g in
        let ws = frame_in a f d time (Some i) in
        let room = buffer_roomy g (length mem) legal in
        let long = arrival_length (arrival f time (Some i)) d a room.header in
        rw h.newdata
        (buffers_agreed g began b w.state mem legal h (splice mem (place_in a buffer) ws)
        (with_bit b.newdata buffer) (record { buffer = buffer; words = ws } ∷ b.buffered)
        (store_kept a mem room.room buffer l ws long)
        (put_buffer g b.newdata b.buffered mem h.buffers room.room buffer l ws long))

    pub receive_kept : Kept (receive f d time) (Receive.receive w f d time)
    unfolding into_nothing
    receive_kept =
        call_cases w [] (receive_refusals w f (length d)) (receives w f d time) (Kept (receive f d time)) (λ n. h)
        (λ e.
        receives_cases w f d time (receive_open w f (length d) e) After
        (λ fifo priority m l x. goes_into_fifo fifo priority m l) (λ buffer i l z x. goes_into_buffer buffer i l)
        (λ why m x. h))

    goes_told : (x : Goes) → Within g w.state.newdata x
        → told (effected (goes_to w f d time x)) ≡ record { says = answers (fate_of g b x); output = [] }
    unfolding into_fifo into_buffer into_nothing keep_rule
    goes_told (to_fifo fifo priority m) x =
        ap (λ (slot : Option ℕ). record { says = answers (slot_says fifo m slot); output = [] })
        (arrival_told (fifo_area g fifo) (fifo_ledger b fifo) (fifo_ring w.state fifo) mem (h.fifos fifo x.0)
        (overwrites g fifo))
    goes_told (to_buffer buffer i) x = refl
    goes_told (discarded why m) x = refl

    destined : destination g mem f w.state.newdata ≡ destination g began f b.newdata
    destined =
        destination_reads_its_list g mem began f w.state.newdata
        (lists_stay g began mem h.rest (length mem) legal f.xtd)
        ∙ ap (destination g began f) h.newdata

    pub receive_told : told (Receive.receive w f d time) ≡ expect g began b (receive f d time)
    unfolding receive_refusals expect_receive
    receive_told =
        let rows : Refusals = 21 when malformed f (length d) ∷ 22 when (f.fdf && not g.fdon) ∷ [] in
        told_by w [] (receives w f d time) (fate_of g b (destination g began f b.newdata)) [] (is_unfit w) rows rows
        fit
        refl
        (λ e.
        goes_told (destination g mem f w.state.newdata)
        (destination_is_within g mem f w.state.newdata (legal_lists g (length mem) legal).few)
        ∙ ap (λ (x : Goes). record { says = answers (fate_of g b x); output = [] }) destined)

  -- ---- a place of FIFO 0 or 1

  module _ (fifo place : ℕ) where
    abbrev fifo_rows : Refusals
    fifo_rows = 23 when no_place w.state fifo place ∷ 29 when place_free w.state fifo place ∷ []

    place_told : (more : Refusals) → first (fifo_rows ++ more) ≡ first (fifo_against g b fifo place ++ more)
    place_told more = go (ltb 1 fifo) refl
      where
        go : (t : Bool) → ltb 1 fifo ≡ t
            → first (23 when (t || leb (fifo_size g fifo) place) ∷ 29 when place_free w.state fifo place ∷ more)
            ≡ first
            (23 when (t || leb (fifo_size g fifo) place) ∷ 29 when not (is_held_at place (fifo_ledger b fifo)) ∷ more)
        go true e = refl
        go false e =
            ap (λ (u : Bool). first (23 when leb (fifo_size g fifo) place ∷ 29 when not u ∷ more))
            (release_told (fifo_area g fifo) (fifo_ledger b fifo) (fifo_ring w.state fifo) mem
            (h.fifos fifo (ltb-false 1 fifo e)) place)

    pub acknowledge_told : told (Releasing.acknowledge_fifo w fifo place) ≡ expect g began b (acknowledge_fifo fifo place)
    unfolding fifo_refusals
    acknowledge_told =
        told_by w [] (leaves (with_state w (released w.state fifo place))) tt [] (is_unfit w) fifo_rows
        (fifo_against g b fifo place) fit (place_told []) (λ e. refl)

    pub acknowledge_kept : Kept (acknowledge_fifo fifo place) (Releasing.acknowledge_fifo w fifo place)
    unfolding released
    acknowledge_kept =
        call_cases w [] (fifo_refusals w fifo place) (leaves (with_state w (released w.state fifo place)))
        (Kept (acknowledge_fifo fifo place)) (λ n. h)
        (λ e.
        let o = fifo_open w fifo place e in
        let a = fifo_area g fifo in
        let q = fifo_ring w.state fifo in
        fifo_agreed g began b w.state mem legal h mem fifo o.number (note_release (fifo_ledger b fifo) place)
        (released_through q (fifo_size g fifo) place) (only_none (area_range a) mem)
        (release_agrees a (fifo_ledger b fifo) q mem (h.fifos fifo o.number) place o.holds.holds))

    pub read_fifo_told : (out : List ℕ)
        → told (Reading.read_fifo w fifo place out) ≡ expect g began b (read_fifo fifo place out)
    unfolding fifo_refusals expect_read
    read_fifo_told out =
        told_by w out (reads w (fifo_area g fifo) place out) _ _ (is_unfit w) (fifo_rows ++ output_refusals (length out))
        (fifo_against g b fifo place ++ output_refusals (length out)) fit (place_told (output_refusals (length out)))
        (λ e.
        let o = opened (place_told (output_refusals (length out)) ∙ e) in
        read_alone w (fifo_area g fifo) place o.element (entry_at place (fifo_ledger b fifo).held).words
        (words_told (fifo_area g fifo) (fifo_ledger b fifo) (fifo_ring w.state fifo) mem (h.fifos fifo o.number)
        place o.holds.holds)
        out)
      where
        opened : first (fifo_rows ++ output_refusals (length out)) ≡ allowed → FifoOpen w fifo place
        opened e =
            fifo_open w fifo place
            (row_passes 20 fifo_rows fit ∙ (rows_both fifo_rows (output_refusals (length out)) e).0)

  -- ---- an Rx buffer

  module _ (buffer : ℕ) where
    abbrev buffer_rows : Refusals
    buffer_rows = 23 when no_rx_buffer w.state buffer ∷ 29 when buffer_free w.state buffer ∷ []

    buffer_told : (more : Refusals) → first (buffer_rows ++ more) ≡ first (buffer_against g b buffer ++ more)
    buffer_told more =
        ap (λ (n : ℕ). first (23 when no_rx_buffer w.state buffer ∷ 29 when not (is_set n buffer) ∷ more)) h.newdata

    pub release_buffer_told : told (Releasing.release_buffer w buffer) ≡ expect g began b (release_buffer buffer)
    unfolding buffer_refusals
    release_buffer_told =
        told_by w [] (leaves (with_state w (emptied w.state buffer))) tt [] (is_unfit w) buffer_rows
        (buffer_against g b buffer) fit (buffer_told []) (λ e. refl)

    pub release_buffer_kept : Kept (release_buffer buffer) (Releasing.release_buffer w buffer)
    release_buffer_kept =
        call_cases w [] (buffer_refusals w buffer) (leaves (with_state w (emptied w.state buffer)))
        (Kept (release_buffer buffer)) (λ n. h)
        (λ e.
        rw h.newdata
        (buffers_agreed g began b w.state mem legal h mem (without_bit 64 b.newdata buffer) b.buffered
        (only_none (area_range (buffer_area g)) mem)
        (buffer_freed g b.newdata b.buffered mem h.buffers buffer)))

    pub read_buffer_told : (out : List ℕ)
        → told (Reading.read_buffer w buffer out) ≡ expect g began b (read_buffer buffer out)
    unfolding buffer_refusals expect_read
    read_buffer_told out =
        told_by w out (reads w (buffer_area g) buffer out) _ _ (is_unfit w) (buffer_rows ++ output_refusals (length out))
        (buffer_against g b buffer ++ output_refusals (length out)) fit (buffer_told (output_refusals (length out)))
        (λ e.
        let o = opened (buffer_told (output_refusals (length out)) ∙ e) in
        read_alone w (buffer_area g) buffer o.element (last_in buffer b.buffered)
        (h.buffers.words buffer (ap (λ (n : ℕ). is_set n buffer) (sym h.newdata) ∙ o.full)) out)
      where
        opened : first (buffer_rows ++ output_refusals (length out)) ≡ allowed → BufferOpen w buffer
        opened e =
            buffer_open w buffer
            (row_passes 20 buffer_rows fit ∙ (rows_both buffer_rows (output_refusals (length out)) e).0)
