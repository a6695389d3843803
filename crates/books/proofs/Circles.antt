-- Requests that wait in a circle of places: none, one more, the oldest gone, and which places are taken.
-- Assumes nothing.
use Prim.Native.Nat.{ℕ, zero, suc, ◌+◌, ◌-◌, ◌%◌, ◌≤◌, ◌<◌}
use mathlib.Core.Path.{◌≡◌, refl, sym, ap, ◌∙◌}
use mathlib.Core.Bool.{Bool, true, false, not, ◌&&◌}
use mathlib.Core.List.{List, [], ◌∷◌, ◌++◌, map, map-append, append-nil}
use native.Mathlib.Nat.{zero-add}
use native.Mathlib.Numerals.{add-one}
use native.Mathlib.Omega.{arith}
use lib.Dec.{eqb, ltb, leb}
use lib.ListN.{length, take, drop, get_or, length-drop, length-map}
use lib.Seq.{get_or-drop}
use borrow.Author.Tests.{eq-eqb, ne_eqb, ltb-true, ltb-false, lt-ltb, le-ltb}
use borrow.Author.Tests.{le-leb, lt-leb, leb-false, not-true}
use Rattle.words.specs.Runs.{run}
use Rattle.words.proofs.Runs.{length_run, get_or_run, run_more, run_alike}
use Rattle.ring.specs.Rings.{place_after, pushed, released, age, held}
use Rattle.ring.specs.declared.Ring.{Ring}
use Rattle.ring.proofs.Places.{place_zero, place_released, place_injective, age_place, place_age}
use Rattle.ring.proofs.Fitness.{fit_none, fit_pushed, fit_released}
use Rattle.ring.proofs.Holding.{is_held, free_not_held}
use Rattle.ring.proofs.Moves.{place_pushed}
use Rattle.books.specs.Lists.{tally, those, others, Each}
use Rattle.books.specs.Requests.{Accepted, RequestBook, buffer_of, is_buffer, accepted_in, is_shared, waiting}
use Rattle.books.specs.Requests.{note_request, note_cancel, note_sent, has_pending, oldest_waiting}
use Rattle.books.specs.Balance.{SentInOrder}
use Rattle.books.specs.Pending.{CircleAgrees}
use Rattle.books.specs.Promises.{NoneWaits, RequestedBefore, CancelledBefore, SentBefore, RequestedNext}
use Rattle.books.specs.Promises.{SentOldest, CircleFilled, CircleHeld, CircleOldest, OldestFirst}
use Rattle.books.proofs.Lists.{each_index, tally_append, tally_one, tally_split, tally_none, tally_some}
use Rattle.books.proofs.Lists.{tally_both, tally_seen, those_append, those_one, those_those, those_first}
use Rattle.books.proofs.Lists.{others_first, length_those}
use Rattle.books.proofs.Requests.{ordered_start, ordered_request, ordered_cancel, ordered_beside}
use Rattle.books.proofs.Requests.{ordered_first, waiting_beside}
use Rattle.books.proofs.Turns.{next_in_turn, oldest_in_turn}

pub none_waits : NoneWaits
unfolding tally those run place_after
none_waits R first size h = record { fit = fit_none size h; places = refl; next = refl; order = ordered_start R first }

-- whatever is in a shared buffer is among the shared ones
shared_tally : {R : Type 0} (first : ℕ) (es : List (Accepted R)) (b : ℕ) → first ≤ b
    → tally (is_buffer b) (those (is_shared first) es) ≡ tally (is_buffer b) es
shared_tally first es b h =
    let none = tally_both (is_buffer b) (λ x. not (is_shared first x))
    (λ x n. let less = leb-false first x.buffer (not-true (is_shared first x) n) in
    ne_eqb x.buffer b (λ e. omega arith))
    es in
    omega (arith, tally_split (is_buffer b) (is_shared first) es)

module _ {R : Type 0} (first size : ℕ) (l : RequestBook R) (ring : Ring) (c : CircleAgrees first size l ring) where
  -- the buffers of those that wait, how many there are, and the i-th of them
  abbrev buffers : List ℕ
  buffers = map buffer_of (waiting first l)

  filled : length buffers ≡ ring.fill
  filled = ap length c.places ∙ length_run (λ i. first + place_after ring size i) 0 ring.fill

  waits : length (waiting first l) ≡ ring.fill
  waits = sym (length-map (waiting first l) buffer_of) ∙ filled

  placed : (i : ℕ) → i < ring.fill → get_or buffers i 0 ≡ first + place_after ring size i
  placed i h =
      ap (λ (bs : List ℕ). get_or bs i 0) c.places
      ∙ get_or_run (λ i. first + place_after ring size i) 0 ring.fill i h
      ∙ ap (λ (n : ℕ). first + place_after ring size n) (zero-add i)

  -- ---- what the book tells

  seen : (b : ℕ) → first ≤ b → tally (λ n. eqb n b) buffers ≡ tally (is_buffer b) l.pending
  seen b h = tally_seen buffer_of (λ n. eqb n b) (waiting first l) ∙ shared_tally first l.pending b h

  -- a buffer has a pending request exactly where its place is held
  held_told : (p : ℕ) → p < size → has_pending l (first + p) ≡ held ring size p
  held_told p h = go (ltb k ring.fill) refl
    where
      b : ℕ
      b = first + p

      k : ℕ
      k = age ring size p

      go : (t : Bool) → ltb (age ring size p) ring.fill ≡ t → has_pending l (first + p) ≡ held ring size p
      go true q =
          let less : k < ring.fill = ltb-true k ring.fill q in
          let there : get_or buffers k 0 ≡ b
          = placed k less ∙ ap (λ (x : ℕ). first + x) (place_age ring size c.fit p h) in
          let here = eq-eqb (get_or buffers k 0) b there in
          let some = tally_some (λ n. eqb n b) 0 buffers k (omega (arith, filled)) here in
          lt-ltb 0 (tally (is_buffer b) l.pending) (omega (arith, seen b (omega arith)))
          ∙ sym (is_held ring size p h less)
      go false q =
          let more : ring.fill ≤ k = ltb-false k ring.fill q in
          let none = tally_none (λ n. eqb n b) buffers (each_index _ 0 buffers (λ i j.
          ne_eqb (get_or buffers i 0) b (λ e.
          let less : i < ring.fill = omega (arith, filled) in
          let same : place_after ring size i ≡ p = omega (arith, placed i less) in
          let old = age_place ring size c.fit i (omega (arith, c.fit.room)) in
          omega (arith, ap (age ring size) same)))) in
          le-ltb 0 (tally (is_buffer b) l.pending) (omega (arith, seen b (omega arith)))
          ∙ sym (free_not_held ring size p more)

  -- a pending request in a shared buffer: some are held
  some_held : (b : ℕ) → first ≤ b → 0 < tally (is_buffer b) l.pending → 0 < ring.fill
  some_held b h y =
      let none : ring.fill ≡ 0 → tally (λ n. eqb n b) buffers ≡ 0 =
      λ e. tally_none (λ n. eqb n b) buffers (each_index _ 0 buffers (λ i j. absurd (omega (arith, filled)))) in
      grind (arith, seen b h, none)

  -- the oldest is the first of them, and the only one in its buffer
  module _ (some : 0 < ring.fill) where
    oldest_at : oldest_waiting first l ≡ first + ring.oldest
    oldest_at = placed 0 some ∙ ap (λ (p : ℕ). first + p) (place_zero ring size c.fit)

    module _ (b : ℕ) (at : b ≡ first + ring.oldest) where
      first_is : eqb (oldest_waiting first l) b ≡ true
      first_is = eq-eqb (oldest_waiting first l) b (oldest_at ∙ sym at)

      rest_not : Each (λ n. eqb n b ≡ false) (drop 1 buffers)
      rest_not =
          each_index _ 0 (drop 1 buffers) (λ i k.
          let j : 1 + i < ring.fill = omega (arith, filled, length-drop 1 buffers) in
          rw get_or-drop (ne_eqb _ b (λ e.
          let same : place_after ring size (1 + i) ≡ place_after ring size 0
          = omega (arith, placed (1 + i) j, place_zero ring size c.fit) in
          let fill = c.fit.room in
          omega (arith, place_injective ring size c.fit (1 + i) 0 (omega arith) (omega arith) same))))

      oldest_pending : 0 < tally (is_buffer b) l.pending
      oldest_pending =
          omega (arith, seen b (omega arith), tally_some (λ n. eqb n b) 0 buffers 0 (omega (arith, filled)) first_is)

      rest_left : those (is_shared first) (others (is_buffer b) l.pending) ≡ drop 1 (waiting first l)
      rest_left =
          those_those (is_shared first) (λ x. not (is_buffer b x)) l.pending
          ∙ others_first buffer_of (λ n. eqb n b) 0 (waiting first l) first_is rest_not

      first_gone : those (is_shared first) (those (is_buffer b) l.pending) ≡ take 1 (waiting first l)
      first_gone =
          those_those (is_shared first) (is_buffer b) l.pending
          ∙ those_first buffer_of (λ n. eqb n b) 0 (waiting first l) first_is rest_not

  -- ---- the next book

  -- nothing changes in the shared part
  same_circle : (m : RequestBook R) → waiting first m ≡ waiting first l
      → tally (is_shared first) m.requested ≡ tally (is_shared first) l.requested → SentInOrder first m
      → CircleAgrees first size m ring
  same_circle m p t o = record {
    fit = c.fit;
    places = ap (map buffer_of) p ∙ c.places;
    next = c.next ∙ ap (λ (n : ℕ). n % size) (sym t);
    order = o;
  }

pub requested_before : RequestedBefore
requested_before R first size l ring c q buffer n =
    let e = accepted_in l buffer q in
    let beside : is_shared first e ≡ false = lt-leb first buffer n in
    same_circle first size l ring c (note_request l q buffer)
    (those_append (is_shared first) l.pending (e ∷ []) ∙ rw (those_one, beside, append-nil))
    (tally_append (is_shared first) l.requested (e ∷ []) ∙ rw (tally_one, beside) (omega arith))
    (ordered_request first l c.order q buffer)

pub cancelled_before : CancelledBefore
cancelled_before R first size l ring c buffer n =
    same_circle first size l ring c (note_cancel l buffer) (waiting_beside first l c.order buffer n) refl
    (ordered_cancel first l c.order buffer n)

pub sent_before : SentBefore
sent_before R first size l ring c buffer n =
    same_circle first size l ring c (note_sent l buffer) (waiting_beside first l c.order buffer n) refl
    (ordered_beside first l c.order buffer n)

pub requested_next : RequestedNext
requested_next R first size l ring c q buffer h at = record {
  fit = fit_pushed ring size c.fit h;
  places =
      ap (map buffer_of) joins
      ∙ map-append buffer_of (waiting first l) (e ∷ [])
      ∙ ap (λ (bs : List ℕ). bs ++ buffer ∷ []) c.places
      ∙ ap (λ (b : ℕ). run f 0 ring.fill ++ b ∷ []) (at ∙ ap f (sym (zero-add ring.fill)))
      ∙ sym (run_more f 0 ring.fill)
      ∙ run_alike f g 0 0 (suc ring.fill) (λ i l. ap (λ (p : ℕ). first + p) (sym (place_pushed ring size (0 + i))))
      ∙ ap (run g 0) (sym (add-one ring.fill));
  next =
      place_pushed ring size (ring.fill + 1)
      ∙ next_in_turn ring size ring.fill (tally (is_shared first) l.requested) c.next
      ∙ ap (λ (n : ℕ). n % size) (sym counts);
  order = ordered_request first l c.order q buffer;
}
  where
    e : Accepted R
    e = accepted_in l buffer q

    f : ℕ → ℕ
    f i = first + place_after ring size i

    g : ℕ → ℕ
    g i = first + place_after (pushed ring) size i

    here : leb first buffer ≡ true
    here = le-leb first buffer (omega arith)

    joins : waiting first (note_request l q buffer) ≡ waiting first l ++ accepted_in l buffer q ∷ []
    joins = those_append (is_shared first) l.pending (accepted_in l buffer q ∷ []) ∙ rw (those_one, here)

    counts : tally (is_shared first) (note_request l q buffer).requested ≡ tally (is_shared first) l.requested + 1
    counts = tally_append (is_shared first) l.requested (accepted_in l buffer q ∷ []) ∙ rw (tally_one, here)

map_rest : {A B : Type 0} (f : A → B) (xs : List A) → map f (drop 1 xs) ≡ drop 1 (map f xs)
map_rest f [] = refl
map_rest f (x ∷ xs) = refl

run_rest : (f : ℕ → ℕ) (n : ℕ) → 0 < n → drop 1 (run f 0 n) ≡ run f 1 (n - 1)
unfolding run
run_rest f zero h = absurd (omega arith)
run_rest f (suc n) h = let same : n ≡ suc n - 1 = omega arith in ap (run f 1) same

pub sent_oldest : SentOldest
sent_oldest R first size l ring c b some at = record {
  fit = fit_released ring size c.fit 1 some;
  places =
      ap (map buffer_of) rest
      ∙ map_rest buffer_of (waiting first l)
      ∙ ap (drop 1) c.places
      ∙ run_rest f ring.fill some
      ∙ run_alike f g 1 0 (ring.fill - 1) (λ i l. ap (λ (p : ℕ). first + p) (one_on i));
  next = place_released ring size 1 (ring.fill - 1) ∙ ap (place_after ring size) (omega arith) ∙ c.next;
  order = ordered_first first l c.order b rest (first_gone first size l ring c some b at);
}
  where
    rest : those (is_shared first) (others (is_buffer b) l.pending) ≡ drop 1 (waiting first l)
    rest = rest_left first size l ring c some b at

    f : ℕ → ℕ
    f i = first + place_after ring size i

    g : ℕ → ℕ
    g i = first + place_after (released ring size 1) size i

    one_on : (i : ℕ) → place_after ring size (1 + i) ≡ place_after (released ring size 1) size (0 + i)
    one_on i = ap (place_after ring size) (omega arith) ∙ sym (place_released ring size 1 (0 + i))

pub circle_filled : CircleFilled
circle_filled R first size l ring c = sym (waits first size l ring c) ∙ length_those (is_shared first) l.pending

pub circle_held : CircleHeld
circle_held R first size l ring c p h = held_told first size l ring c p h

pub circle_oldest : CircleOldest
circle_oldest R first size l ring c b =
    let fill = circle_filled R first size l ring c in
    let asked = tally (is_shared first) l.requested in
    oldest_in_turn ring size asked c.fit c.next (omega (arith, b.whole (is_shared first)))
    ∙ ap (λ (m : ℕ). (asked - m) % size) fill

pub oldest_first : OldestFirst
oldest_first R first size l ring c b h = go (ltb 0 ring.fill) refl (has_pending l b) refl
  where
    eqb_sym : (m n : ℕ) → eqb m n ≡ eqb n m
    eqb_sym m n = grind arith

    go : (t : Bool) → ltb 0 ring.fill ≡ t → (u : Bool) → has_pending l b ≡ u
        → (t && eqb b (first + ring.oldest)) ≡ (u && eqb (oldest_waiting first l) b)
    go true y true p =
        eqb_sym b (first + ring.oldest)
        ∙ ap (λ (n : ℕ). eqb n b) (sym (oldest_at first size l ring c (ltb-true 0 ring.fill y)))
    go true y false p =
        let some : 0 < ring.fill = ltb-true 0 ring.fill y in
        ne_eqb b (first + ring.oldest) (λ e.
        let none : tally (is_buffer b) l.pending ≤ 0 = ltb-false 0 (tally (is_buffer b) l.pending) p in
        omega (arith, oldest_pending first size l ring c some b e))
    go false n true p =
        let none : ring.fill ≤ 0 = ltb-false 0 ring.fill n in
        absurd (omega (arith, some_held first size l ring c b h (ltb-true 0 (tally (is_buffer b) l.pending) p)))
    go false n false p = refl
