-- The frames in the book are those that the rules sent there: of each call, what it adds is what was meant.
-- Assumes nothing.
use Rattle.std.proofs.Common.{Option, Some, None}
use Prim.Native.Nat.{ℕ, zero, suc, ◌≤◌}
use mathlib.Core.Path.{◌≡◌, refl, sym, ap, ◌∙◌, subst}
use mathlib.Core.Bool.{not, ◌&&◌}
use mathlib.Core.List.{List, [], ◌∷◌, ◌++◌, map, map-append, append-nil, append_assoc, reverse, reverse-append}
use native.Mathlib.Omega.{arith}
use lib.Dec.{eqb}
use lib.ListN.{length}
use Rattle.words.specs.Choice.{pick}
use Rattle.frame.specs.Malformed.{malformed}
use Rattle.frame.specs.declared.Frame.{Frame}
use Rattle.registers.specs.Fields.{fifo_size, overwrites}
use Rattle.registers.specs.declared.Registers.{Registers}
use Rattle.filter.specs.Destination.{Goes, to_fifo, to_buffer, discarded, destination}
use Rattle.filter.specs.Promises.{Within}
use Rattle.filter.proofs.Bounds.{destination_is_within}
use Rattle.areas.specs.Areas.{fifo_area}
use Rattle.shape.specs.Calls.{Says, refuses, answers, Outcome, effect}
use Rattle.shape.specs.Histories.{Told, trace, book, noted}
use Rattle.shape.specs.Refusals.{Refusals}
use Rattle.shape.proofs.Calls.{call_cases}
use Rattle.engine.specs.Calls.{World, ◌when◌}
use Rattle.engine.proofs.Sounds.{sound_of}
use Rattle.receiving.specs.Receive.{Fate, slot_says}
use Rattle.receiving.proofs.Lists.{legal_lists}
use Rattle.books.specs.Ledgers.{Ledger, note_arrival, note_release, release_oldest, expect_slot}
use Rattle.books.specs.Lists.{Each}
use Rattle.handler.specs.Calls.{Call, start, receive, read_fifo, acknowledge_fifo, read_buffer, release_buffer}
use Rattle.handler.specs.Calls.{request_dedicated, request_shared, cancel, ask_choice, report_sent, read_event}
use Rattle.handler.specs.Calls.{acknowledge_event, clear_flags, report_status, Answer, step}
use Rattle.history.specs.Books.{InRxBuffer, Book, empty_book, fifo_ledger, with_fifo_ledger, frame_in, note_fifo}
use Rattle.history.specs.Books.{note_fate, added, note}
use Rattle.history.specs.Demand3.{Run, history, book_of, Meant}
use Rattle.history.specs.Expected.{fate_of, expect_receive}
use Rattle.history.specs.Meant.{words_of, Brings, to_this_fifo, to_buffers, meant_by, meant}
use Rattle.history.proofs.Runs.{begins, each}
use Rattle.history.proofs.Steps.{InRun, Standing, step_told, step_kept}

-- the words of all that came to a FIFO
abbrev came : Book → ℕ → List (List ℕ)
came b fifo = map words_of (fifo_ledger b fifo).arrived

-- and of the Rx buffers, in order
abbrev kept : Book → List InRxBuffer
kept b = reverse b.buffered

-- ---- an arrival

arrival_words : (size : ℕ) (l : Ledger) (ws : List ℕ) (slot : Option ℕ)
    → map words_of (note_arrival size l ws slot).arrived ≡ map words_of l.arrived ++ ws ∷ []
unfolding note_arrival
arrival_words size l ws (Some p) = map-append words_of l.arrived _
arrival_words size l ws None = map-append words_of l.arrived _

module _ (g : Registers) (b : Book) (f : Frame) (d : List ℕ) (time : ℕ) where
  slot_came : (k fifo : ℕ) → k ≤ 1 → fifo ≤ 1 → (m : Option ℕ) (slot : Option ℕ)
      → came (note_fifo g b f d time k m slot) fifo
      ≡ came b fifo ++ pick (eqb k fifo) (frame_in (fifo_area g fifo) f d time m ∷ []) []
  unfolding fifo_ledger with_fifo_ledger
  slot_came k fifo h i m slot =
      grind (arith, append-nil (came b fifo), arrival_words (fifo_size g 0) b.fifo0, arrival_words (fifo_size g 1) b.fifo1)

  -- by the fate that the rules give a frame
  fate_came : (fifo : ℕ) → fifo ≤ 1 → (newdata : ℕ) (goes : Goes) → Within g newdata goes
      → came (note_fate g b f d time (fate_of g b goes)) fifo ≡ came b fifo ++ to_this_fifo g fifo f d time goes
  unfolding fifo_ledger
  fate_came fifo i newdata (to_fifo k priority m) h =
      by_slot (expect_slot (fifo_size g k) (overwrites g k) (fifo_ledger b k))
    where
      by_slot : (slot : Option ℕ)
          → came (note_fate g b f d time (slot_says k m slot)) fifo
          ≡ came b fifo ++ pick (eqb k fifo) (frame_in (fifo_area g fifo) f d time m ∷ []) []
      by_slot (Some p) = slot_came k fifo h.0 i m (Some p)
      by_slot None = slot_came k fifo h.0 i m None
  fate_came fifo i newdata (to_buffer buffer j) h = sym (append-nil _)
  fate_came fifo i newdata (discarded why m) h = sym (append-nil _)

  fate_kept : (goes : Goes) → kept (note_fate g b f d time (fate_of g b goes)) ≡ kept b ++ to_buffers g f d time goes
  unfolding with_fifo_ledger
  fate_kept (to_fifo k priority m) = by_slot (expect_slot (fifo_size g k) (overwrites g k) (fifo_ledger b k))
    where
      by_slot : (slot : Option ℕ) → kept (note_fate g b f d time (slot_says k m slot)) ≡ kept b ++ []
      by_slot (Some p) = sym (append-nil _)
      by_slot None = sym (append-nil _)
  fate_kept (to_buffer buffer j) = reverse-append (_ ∷ []) b.buffered
  fate_kept (discarded why m) = sym (append-nil _)

-- ---- one call

-- one that adds nothing
none_noted : {A B : Type 0} (b : Book) (next : A → Book) (seen : Book → List B)
    → ((a : A) → seen (next a) ≡ seen b) → (x : Says A) → seen (noted b next x) ≡ seen b ++ noted [] (λ a. []) x
none_noted b next seen same (answers a) = same a ∙ sym (append-nil _)
none_noted b next seen same (refuses n) = sym (append-nil _)

-- an acknowledge releases what came before
release_came : (b : Book) (of place fifo : ℕ)
    → (fifo_ledger (with_fifo_ledger b of (note_release (fifo_ledger b of) place)) fifo).arrived
    ≡ (fifo_ledger b fifo).arrived
unfolding fifo_ledger with_fifo_ledger release_oldest
release_came b of place fifo = grind arith

-- what is seen of the book, and what frames bring to it: each call adds what was meant
module _ {A : Type 0} (g : Registers) (began : List ℕ) (seen : Book → List A) (brings : Brings A) where
  abbrev Adds : Book → (c : Call) → Says (Answer c) → Type 0
  Adds b c x = seen (note g b c x) ≡ seen b ++ noted [] (λ a. meant_by brings g began b c) x

  -- a receive does where its fate does
  receive_adds : (b : Book) (w : World) → Standing g began b w → (f : Frame) (d : List ℕ) (time : ℕ)
      → ((goes : Goes) → Within g b.newdata goes
      → seen (note_fate g b f d time (fate_of g b goes)) ≡ seen b ++ brings f d time goes)
      → Adds b (receive f d time) (step w (receive f d time)).says
  unfolding expect_receive
  receive_adds b w h f d time adds =
      let goes = destination g began f b.newdata in
      let rows : Refusals = 21 when malformed f (length d) ∷ 22 when (f.fdf && not g.fdon) ∷ [] in
      let within = subst (λ (x : Registers). Within x b.newdata (destination x began f b.newdata))
      h.agreed.regs
      (destination_is_within w.state.regs began f b.newdata
      (legal_lists w.state.regs (length w.memory)
      (sound_of w.state w.recorded (length w.memory) h.fit).legal).few) in
      subst (λ (t : Told Fate). Adds b (receive f d time) t.says)
      (sym (step_told g began b w h (receive f d time)))
      (call_cases (tt {0}) [] rows (effect (fate_of g b goes) (tt {0}) [])
      (λ (o : Outcome (Unit {0}) Fate). Adds b (receive f d time) o.says) (λ n. sym (append-nil _))
      (λ e. adds goes within))

  -- one that is no receive
  quiet_adds : (b : Book) (c : Call) → meant_by brings g began b c ≡ []
      → ((a : Answer c) → seen (added g b c a) ≡ seen b) → (x : Says (Answer c)) → Adds b c x
  quiet_adds b c none same x =
      none_noted b (added g b c) seen same x ∙ ap (λ (xs : List A). seen b ++ noted [] (λ a. xs) x) (sym none)

  -- then so does a run of calls
  all_add : ((b : Book) (w : World) → Standing g began b w → (c : Call) → Adds b c (step w c).says)
      → (b : Book) (w : World) → Standing g began b w → (cs : List Call) → Each InRun (trace step w cs)
      → seen (book (note g) b (trace step w cs)) ≡ seen b ++ meant brings g began b (trace step w cs)
  all_add adds b w h [] kept = sym (append-nil _)
  all_add adds b w h (c ∷ cs) kept =
      let next = note g b c (step w c).says in
      let v = (step w c).world in
      all_add adds next v (step_kept g began b w h c kept.0) cs kept.1
      ∙ ap (λ (xs : List A). xs ++ meant brings g began next (trace step v cs)) (adds b w h c)
      ∙ append_assoc (seen b) (noted [] (λ a. meant_by brings g began b c) (step w c).says)
      (meant brings g began next (trace step v cs))

-- ---- the two

module _ (g : Registers) (began : List ℕ) (b : Book) (w : World) (h : Standing g began b w) where
  fifo_adds : (fifo : ℕ) → fifo ≤ 1 → (c : Call)
      → Adds g began (λ x. came x fifo) (to_this_fifo g fifo) b c (step w c).says
  unfolding fifo_ledger
  fifo_adds fifo i c = go c
    where
      same : (c : Call) → meant_by (to_this_fifo g fifo) g began b c ≡ []
          → ((a : Answer c) → came (added g b c a) fifo ≡ came b fifo)
          → Adds g began (λ x. came x fifo) (to_this_fifo g fifo) b c (step w c).says
      same c none e = quiet_adds g began (λ x. came x fifo) (to_this_fifo g fifo) b c none e (step w c).says

      go : (c : Call) → Adds g began (λ x. came x fifo) (to_this_fifo g fifo) b c (step w c).says
      go (start regs) = same (start regs) refl (λ a. refl)
      go (receive f d time) =
          receive_adds g began (λ x. came x fifo) (to_this_fifo g fifo) b w h f d time
          (fate_came g b f d time fifo i b.newdata)
      go (read_fifo k place out) = same (read_fifo k place out) refl (λ a. refl)
      go (acknowledge_fifo k place) =
          same (acknowledge_fifo k place) refl (λ a. ap (map words_of) (release_came b k place fifo))
      go (read_buffer buffer out) = same (read_buffer buffer out) refl (λ a. refl)
      go (release_buffer buffer) = same (release_buffer buffer) refl (λ a. refl)
      go (request_dedicated buffer q d) = same (request_dedicated buffer q d) refl (λ a. refl)
      go (request_shared q d) = same (request_shared q d) refl (λ a. refl)
      go (cancel buffer) = same (cancel buffer) refl (λ a. refl)
      go (ask_choice passive out) = same (ask_choice passive out) refl (λ a. refl)
      go (report_sent buffer passive time) = same (report_sent buffer passive time) refl (λ a. refl)
      go (read_event place) = same (read_event place) refl (λ a. refl)
      go (acknowledge_event place) = same (acknowledge_event place) refl (λ a. refl)
      go (clear_flags mask) = same (clear_flags mask) refl (λ a. refl)
      go report_status = same report_status refl (λ a. refl)

  buffers_add : (c : Call) → Adds g began kept (to_buffers g) b c (step w c).says
  unfolding with_fifo_ledger
  buffers_add c = go c
    where
      same : (c : Call) → meant_by (to_buffers g) g began b c ≡ [] → ((a : Answer c) → kept (added g b c a) ≡ kept b)
          → Adds g began kept (to_buffers g) b c (step w c).says
      same c none e = quiet_adds g began kept (to_buffers g) b c none e (step w c).says

      go : (c : Call) → Adds g began kept (to_buffers g) b c (step w c).says
      go (start regs) = same (start regs) refl (λ a. refl)
      go (receive f d time) =
          receive_adds g began kept (to_buffers g) b w h f d time (λ goes within. fate_kept g b f d time goes)
      go (read_fifo k place out) = same (read_fifo k place out) refl (λ a. refl)
      go (acknowledge_fifo k place) = same (acknowledge_fifo k place) refl (λ a. refl)
      go (read_buffer buffer out) = same (read_buffer buffer out) refl (λ a. refl)
      go (release_buffer buffer) = same (release_buffer buffer) refl (λ a. refl)
      go (request_dedicated buffer q d) = same (request_dedicated buffer q d) refl (λ a. refl)
      go (request_shared q d) = same (request_shared q d) refl (λ a. refl)
      go (cancel buffer) = same (cancel buffer) refl (λ a. refl)
      go (ask_choice passive out) = same (ask_choice passive out) refl (λ a. refl)
      go (report_sent buffer passive time) = same (report_sent buffer passive time) refl (λ a. refl)
      go (read_event place) = same (read_event place) refl (λ a. refl)
      go (acknowledge_event place) = same (acknowledge_event place) refl (λ a. refl)
      go (clear_flags mask) = same (clear_flags mask) refl (λ a. refl)
      go report_status = same report_status refl (λ a. refl)

pub as_meant : (r : Run) → Meant r
unfolding fifo_ledger
as_meant r = record {
  fifos = λ fifo i. of_fifo fifo i;
  buffers =
      all_add r.regs r.before.memory kept (to_buffers r.regs)
      (λ b w h c. buffers_add r.regs r.before.memory b w h c) empty_book _ (begins r) r.calls (each r);
}
  where
    of_fifo : (fifo : ℕ) → fifo ≤ 1
        → came (book_of r) fifo ≡ meant (to_this_fifo r.regs fifo) r.regs r.before.memory empty_book (history r)
    of_fifo zero i =
        all_add r.regs r.before.memory (λ x. came x 0) (to_this_fifo r.regs 0)
        (λ b w h c. fifo_adds r.regs r.before.memory b w h 0 i c) empty_book _ (begins r) r.calls (each r)
    of_fifo (suc zero) i =
        all_add r.regs r.before.memory (λ x. came x 1) (to_this_fifo r.regs 1)
        (λ b w h c. fifo_adds r.regs r.before.memory b w h 1 i c) empty_book _ (begins r) r.calls (each r)
    of_fifo (suc (suc k)) i = absurd (omega arith)
