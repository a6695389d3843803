-- A ring that holds the book's entries: at the start, with one more, with some fewer, and after a change elsewhere.
-- Assumes nothing.
use Prim.Native.Nat.{ℕ, ◌+◌, ◌≤◌, ◌<◌}
use mathlib.Core.Path.{◌≡◌, refl, ◌∙◌}
use mathlib.Core.Bool.{Bool, true, false}
use mathlib.Core.List.{List, [], ◌∷◌, ◌++◌}
use native.Mathlib.Omega.{arith}
use lib.Dec.{ltb}
use lib.ListN.{length, drop, get_or, length-drop, get_or-append}
use lib.Seq.{get_or-drop, get_or_at}
use borrow.Author.Tests.{ltb-true, ltb-false}
use Rattle.std.proofs.Common.{Some}
use Rattle.words.specs.Ranges.{SameIn}
use Rattle.words.specs.Runs.{splice}
use Rattle.words.proofs.Ranges.{only_apart}
use Rattle.ring.specs.Rings.{place_after, put_place, pushed, released}
use Rattle.ring.specs.declared.Ring.{Ring}
use Rattle.ring.proofs.Places.{place_lt, place_released, place_injective}
use Rattle.ring.proofs.Fitness.{fit_none, fit_pushed, fit_released}
use Rattle.ring.proofs.Moves.{place_pushed}
use Rattle.places.specs.Areas.{area_range, place_in}
use Rattle.places.specs.declared.Area.{Area}
use Rattle.places.proofs.Stores.{element_kept, store_there, store_other, store_kept}
use Rattle.books.specs.Lists.{tally}
use Rattle.books.specs.Ledgers.{Entry, no_entry}
use Rattle.books.specs.Standing.{Stands, Holds}
use Rattle.books.specs.Promises.{EmptyAgrees, ApartAgrees}
use Rattle.books.proofs.Balances.{empty_balances}
use Rattle.books.proofs.Lists.{length_snoc}

pub empty_agrees : EmptyAgrees
unfolding tally place_after
empty_agrees a mem room = record {
  holds = record {
    room = room.room;
    ring = fit_none a.count (omega (arith, room.few));
    fill = refl;
    stands = λ i h. absurd (omega arith);
  };
  put = refl;
  balanced = empty_balances;
}

module _ (a : Area) (es : List Entry) (q : Ring) (mem : List ℕ) (h : Holds a es q mem) where
  -- a place of a held one is within the area
  place_inside : (i : ℕ) → i < q.fill → place_after q a.count i < a.count
  place_inside i l = place_lt q a.count i (omega (arith, h.ring.room))

  -- the area is as it was
  within_holds : (next : List ℕ) → SameIn (area_range a) mem next → Holds a es q next
  within_holds next f = record {
    room = omega (arith, f.size, h.room);
    ring = h.ring;
    fill = h.fill;
    stands = λ i l.
        let t = h.stands i l in
        let same = element_kept a mem next h.room f (place_after q a.count i) (place_inside i l) in
        record { named = t.named; there = same ∙ t.there };
  }

  -- the n oldest are given up
  pub fewer_hold : (n : ℕ) → n ≤ q.fill → Holds a (drop n es) (released q a.count n) mem
  fewer_hold n l = record {
    room = h.room;
    ring = fit_released q a.count h.ring n l;
    fill = rw length-drop (omega (arith, h.fill));
    stands = λ i m.
        let t = h.stands (n + i) (omega arith) in
        let p = place_released q a.count n i in
        rw get_or-drop record { named = rw p t.named; there = rw p t.there };
  }

  -- one more, at the put place
  module _ (e : Entry) (l : q.fill < a.count) (w : length e.words ≡ a.each)
      (s : e.slot ≡ Some (put_place q a.count)) where
    abbrev put : ℕ
    put = put_place q a.count

    abbrev next : List ℕ
    next = splice mem (place_in a put) e.words

    put_inside : put < a.count
    put_inside = place_lt q a.count q.fill (omega arith)

    more_stands : (i : ℕ) → i < q.fill + 1 → Stands a (pushed q) next i (get_or (es ++ e ∷ []) i no_entry)
    more_stands i m = go (ltb i q.fill) refl
      where
        go : (b : Bool) → ltb i q.fill ≡ b → Stands a (pushed q) next i (get_or (es ++ e ∷ []) i no_entry)
        go true t =
            let j : i < q.fill = ltb-true i q.fill t in
            let f : i < length es = omega (arith, h.fill) in
            let u = h.stands i j in
            rw (get_or-append es (e ∷ []) no_entry i f)
            record {
              named = rw (place_pushed q a.count i) u.named;
              there =
                  rw (place_pushed q a.count i)
                  (store_other a mem h.room put put_inside e.words w (place_after q a.count i)
                  (λ c. omega (arith, place_injective q a.count h.ring i q.fill (omega arith) l c))
                  (place_inside i j)
                  ∙ u.there);
            }
        go false t =
            let j : i ≡ q.fill = omega (arith, ltb-false i q.fill t) in
            rw (j, get_or_at es e [] no_entry q.fill h.fill)
            record {
              named = rw place_pushed s;
              there = rw place_pushed (store_there a mem h.room put put_inside e.words w);
            }

    pub more_hold : Holds a (es ++ e ∷ []) (pushed q) next
    more_hold = record {
      room = omega (arith, (store_kept a mem h.room put put_inside e.words w).size, h.room);
      ring = fit_pushed q a.count h.ring l;
      fill = rw length_snoc (omega (arith, h.fill));
      stands = more_stands;
    }

pub apart_agrees : ApartAgrees
apart_agrees a l q mem x b next f d = record {
  holds = within_holds a l.held q mem x.holds next (only_apart (area_range a) (area_range b) mem next f d);
  put = x.put;
  balanced = x.balanced;
}
