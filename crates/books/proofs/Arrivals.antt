-- A new element: the book tells its slot, and the ring holds what the book says of it.
-- Assumes nothing.
use Prim.Native.Nat.{ℕ, ◌+◌, ◌-◌, ◌%◌, ◌≤◌, ◌<◌}
use mathlib.Core.Path.{◌≡◌, refl, sym, ap, ◌∙◌}
use mathlib.Core.Bool.{Bool, true, false, ◌&&◌, and-false}
use mathlib.Core.List.{List, [], ◌∷◌, ◌++◌}
use native.Mathlib.Nat.{add-zero, add_comm}
use native.Mathlib.Omega.{arith}
use lib.ListN.{length, drop}
use borrow.Author.Tests.{eq-eqb, ne_eqb}
use Rattle.std.proofs.Common.{Some, None}
use Rattle.words.specs.Ranges.{OnlyIn}
use Rattle.words.specs.Runs.{splice}
use Rattle.words.proofs.Ranges.{only_none}
use Rattle.ring.specs.Rings.{place_after, put_place, overwritten, released}
use Rattle.ring.specs.declared.Ring.{Ring}
use Rattle.ring.proofs.Places.{place_lt, place_released, place_overwritten, put_full}
use Rattle.ring.proofs.Moves.{place_pushed}
use Rattle.places.specs.Areas.{area_range, place_in}
use Rattle.places.specs.Slots.{take_rule, slot_memory}
use Rattle.places.specs.declared.Area.{Area}
use Rattle.places.proofs.Stores.{store_kept}
use Rattle.places.proofs.Takes.{take_cases}
use Rattle.books.specs.Ledgers.{Ledger, new_entry, is_full, is_blocking, note_arrival}
use Rattle.books.specs.Ledgers.{stored_so_far, expect_put, expect_slot}
use Rattle.books.specs.Standing.{Holds, PutAgrees}
use Rattle.books.specs.Promises.{ArrivalTold, ArrivalAgrees, ArrivalKeeps}
use Rattle.books.proofs.Balances.{arrival_balances}
use Rattle.books.proofs.Lists.{tally_one, tally_append}
use Rattle.books.proofs.Turns.{next_in_turn}
use Rattle.books.proofs.Holding.{fewer_hold, more_hold}

-- whatever the slot, no word outside the area changes
pub arrival_keeps : ArrivalKeeps
arrival_keeps a q mem room fit o ws w =
    take_cases a.count o q (λ x. OnlyIn (area_range a) mem (slot_memory mem a ws x.slot))
    (λ m. store_kept a mem room (put_place q a.count) (place_lt q a.count q.fill (omega arith)) ws w)
    (λ m b. only_none (area_range a) mem)
    (λ m z b. store_kept a mem room q.oldest (omega (arith, fit.place)) ws w)

module _ (size : ℕ) (o : Bool) (l : Ledger) where
  expect_lost : is_full size l ≡ true → is_blocking size o ≡ true → expect_slot size o l ≡ None
  unfolding expect_slot
  expect_lost f b = simp (f, b)

  expect_stored : (is_full size l && is_blocking size o) ≡ false → expect_slot size o l ≡ Some (expect_put size l)
  unfolding expect_slot
  expect_stored e = simp e

module _ (a : Area) (l : Ledger) (q : Ring) (mem : List ℕ) (h : Holds a l.held q mem) (o : Bool) where
  -- full in the book is full in the ring
  not_full : q.fill < a.count → is_full a.count l ≡ false
  not_full f = ne_eqb (length l.held) a.count (λ e. omega (arith, h.fill))

  full_is : a.count ≤ q.fill → is_full a.count l ≡ true
  full_is f = eq-eqb (length l.held) a.count (omega (arith, h.fill, h.ring.room))

  slot_told : PutAgrees a.count l q → (take_rule a.count o q).slot ≡ expect_slot a.count o l
  slot_told t =
      take_cases a.count o q (λ x. x.slot ≡ expect_slot a.count o l)
      (λ m. ap Some t ∙ sym (expect_stored a.count o l (rw (not_full m))))
      (λ m b. sym (expect_lost a.count o l (full_is m) b))
      (λ m z b.
      ap Some (sym (put_full q a.count h.ring (omega (arith, h.ring.room))) ∙ t)
      ∙ sym (expect_stored a.count o l (rw (b, and-false))))

  put_after : PutAgrees a.count l q → (ws : List ℕ)
      → let t = take_rule a.count o q in PutAgrees a.count (note_arrival a.count l ws t.slot) t.ring
  unfolding note_arrival
  put_after t ws =
      take_cases a.count o q (λ x. PutAgrees a.count (note_arrival a.count l ws x.slot) x.ring)
      (λ m. rw (tally_append, tally_one, place_pushed) turned)
      (λ m b. rw (tally_append, tally_one, add-zero) t)
      (λ m z b. rw (tally_append, tally_one, place_overwritten q a.count q.fill, add_comm 1 q.fill) turned)
    where
      turned : place_after q a.count (q.fill + 1) ≡ (stored_so_far l + 1) % a.count
      turned = next_in_turn q a.count q.fill (stored_so_far l) t

  module _ (ws : List ℕ) (w : length ws ≡ a.each) where
    -- an overwrite is one fewer, then one more: the place that comes free is the oldest
    over : a.count ≤ q.fill → 0 < a.count
        → Holds a (drop 1 l.held ++ new_entry l ws (Some q.oldest) ∷ []) (overwritten q a.count)
        (splice mem (place_in a q.oldest) ws)
    over m z =
        let full : q.fill ≡ a.count = omega (arith, h.ring.room) in
        let one : q.fill - 1 + 1 ≡ q.fill = omega arith in
        let all : 1 + (q.fill - 1) ≡ q.fill = omega arith in
        let put : put_place (released q a.count 1) a.count ≡ q.oldest
        = place_released q a.count 1 (q.fill - 1)
        ∙ ap (place_after q a.count) all
        ∙ put_full q a.count h.ring full in
        rw (put, one) at
        (more_hold a (drop 1 l.held) (released q a.count 1) mem
        (fewer_hold a l.held q mem h 1 (omega arith))
        (new_entry l ws (Some q.oldest)) (omega arith) w (ap Some (sym put)))

    holds_after : let t = take_rule a.count o q in
        Holds a (note_arrival a.count l ws t.slot).held t.ring (slot_memory mem a ws t.slot)
    unfolding note_arrival
    holds_after =
        take_cases a.count o q
        (λ x. Holds a (note_arrival a.count l ws x.slot).held x.ring (slot_memory mem a ws x.slot))
        (λ m. rw (not_full m) (more_hold a l.held q mem h (new_entry l ws (Some (put_place q a.count))) m w refl))
        (λ m b. h)
        (λ m z b. rw (full_is m) (over m z))

pub arrival_told : ArrivalTold
arrival_told a l q mem x o = slot_told a l q mem x.holds o x.put

pub arrival_agrees : ArrivalAgrees
arrival_agrees a l q mem x o ws w = record {
  holds = holds_after a l q mem x.holds o ws w;
  put = put_after a l q mem x.holds o x.put ws;
  balanced = arrival_balances l x.balanced a.count ws (take_rule a.count o q).slot;
}
