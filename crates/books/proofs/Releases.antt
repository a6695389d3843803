-- An acknowledge: the book tells which places are held, and the ring gives up what the book releases.
-- Assumes nothing.
use Prim.Native.Nat.{ℕ, ◌+◌, ◌-◌, ◌≤◌, ◌<◌}
use mathlib.Core.Path.{◌≡◌, sym, ap, ◌∙◌, subst}
use mathlib.Core.Bool.{true}
use mathlib.Core.List.{List}
use native.Mathlib.Omega.{arith}
use borrow.Author.Tests.{eqb-true}
use Rattle.ring.specs.Rings.{place_after, age, held, released_through}
use Rattle.ring.specs.declared.Ring.{Ring}
use Rattle.ring.proofs.Places.{released_through_is, place_released_through}
use Rattle.ring.proofs.Holding.{held_inside, held_age, held_place, same_test}
use Rattle.places.specs.declared.Area.{Area}
use Rattle.books.specs.Ledgers.{Ledger, is_at, is_held_at, reaching, release_oldest, note_release}
use Rattle.books.specs.Standing.{Holds, PutAgrees}
use Rattle.books.specs.Promises.{ReleaseTold, ReleaseAgrees}
use Rattle.books.proofs.Balances.{release_balances}
use Rattle.books.proofs.Holding.{fewer_hold}
use Rattle.books.proofs.Places.{among_at, among_index, reaching_at, held_there, held_once}

module _ (a : Area) (l : Ledger) (q : Ring) (mem : List ℕ) (h : Holds a l.held q mem) where
  test_told : (p : ℕ) → held q a.count p ≡ is_held_at p l
  test_told p = same_test (held q a.count p) (is_held_at p l) there back
    where
      there : held q a.count p ≡ true → is_held_at p l ≡ true
      there e =
          let less = held_age q a.count p e in
          among_at p l.held (age q a.count p) (omega (arith, h.fill)) (held_there a l.held q mem h p e)

      back : is_held_at p l ≡ true → held q a.count p ≡ true
      back e =
          let w = among_index p l.held e in
          let m : w.0 < q.fill = omega (arith, w.1.0, h.fill) in
          let at = sym (ap (is_at p) (h.stands w.0 m).named) ∙ w.1.1 in
          let s : place_after q a.count w.0 ≡ p = eqb-true (place_after q a.count w.0) p at in
          subst (λ (x : ℕ). held q a.count x ≡ true) s (held_place q a.count h.ring w.0 m)

  module _ (p : ℕ) (e : held q a.count p ≡ true) where
    -- so many are given up
    abbrev gone : ℕ
    gone = age q a.count p + 1

    some : gone ≤ q.fill
    some = omega (arith, held_age q a.count p e)

    inside : p < a.count
    inside = held_inside q a.count p e

    -- the book gives up as many as the ring does
    reached : reaching p l.held ≡ gone
    reached =
        reaching_at p l.held (age q a.count p) (omega (arith, some, h.fill)) (held_there a l.held q mem h p e)
        (λ j m o. held_once a l.held q mem h p e j (omega (arith, h.fill)) (λ c. omega arith))

    given_up : (n : ℕ) → n ≡ gone → Holds a (release_oldest l n).held (released_through q a.count p) mem
    unfolding release_oldest
    given_up n m =
        rw (m, released_through_is q a.count h.ring p inside) (fewer_hold a l.held q mem h gone some)

    holds_after : Holds a (note_release l p).held (released_through q a.count p) mem
    holds_after = given_up _ (omega (arith, reached))

    put_after : PutAgrees a.count l q → PutAgrees a.count (note_release l p) (released_through q a.count p)
    unfolding release_oldest
    put_after t =
        let all : gone + (q.fill - gone) ≡ q.fill = omega (arith, some) in
        place_released_through q a.count h.ring p (q.fill - gone) inside ∙ ap (place_after q a.count) all ∙ t

pub release_told : ReleaseTold
release_told a l q mem x p = test_told a l q mem x.holds p

pub release_agrees : ReleaseAgrees
release_agrees a l q mem x p e = record {
  holds = holds_after a l q mem x.holds p e;
  put = put_after a l q mem x.holds p e x.put;
  balanced = release_balances l x.balanced p;
}
