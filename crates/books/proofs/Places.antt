-- Entries by their places: in any list, and where a ring holds them.
-- Assumes nothing.
use Prim.Native.Nat.{ℕ, zero, suc, ◌+◌, ◌<◌}
use mathlib.Core.Path.{◌≡◌, refl, sym, ap, ◌∙◌}
use mathlib.Core.Bool.{Bool, true, false, ◌||◌, or-true}
use mathlib.Core.List.{List, [], ◌∷◌}
use native.Mathlib.Omega.{arith}
use lib.ListN.{length, get_or}
use borrow.Author.Tests.{eq-eqb, ne_eqb}
use Rattle.words.specs.Choice.{pick}
use Rattle.ring.specs.Rings.{place_after, age, held}
use Rattle.ring.specs.declared.Ring.{Ring}
use Rattle.ring.proofs.Places.{place_age, place_injective}
use Rattle.ring.proofs.Holding.{held_inside, held_age}
use Rattle.places.specs.declared.Area.{Area}
use Rattle.books.specs.Ledgers.{Entry, no_entry, is_at, among, entry_at, reaching}
use Rattle.books.specs.Standing.{Holds}

-- the i-th of these is at place p
abbrev IsAt : ℕ → ℕ → List Entry → Bool → Type 0
IsAt p i es b = is_at p (get_or es i no_entry).slot ≡ b

-- some one of these is
abbrev Found : ℕ → List Entry → Type 0
Found p es = (i : ℕ) × ((i < length es) × IsAt p i es true)

module _ (p : ℕ) where
  pub among_at : (es : List Entry) (i : ℕ) → i < length es → IsAt p i es true → among p es ≡ true
  unfolding among
  among_at [] i h y = absurd (omega arith)
  among_at (e ∷ es) zero h y = rw y
  among_at (e ∷ es) (suc i) h y = rw (among_at es i (omega arith) y) (or-true (is_at p e.slot))

  pub among_index : (es : List Entry) → among p es ≡ true → Found p es
  unfolding among
  among_index [] y = absurd (omega (arith, ap (λ (b : Bool). pick {A = ℕ} b 1 0) y))
  among_index (e ∷ es) y = go (is_at p e.slot) refl y (among_index es)
    where
      go : (b : Bool) → is_at p e.slot ≡ b → (b || among p es) ≡ true → (among p es ≡ true → Found p es)
          → Found p (e ∷ es)
      go true s t ih = (0, (omega arith, s))
      go false s t ih = let w = ih t in (suc w.0, (omega (arith, w.1.0), w.1.1))

  among_none : (es : List Entry) → ((i : ℕ) → i < length es → IsAt p i es false) → among p es ≡ false
  unfolding among
  among_none [] n = refl
  among_none (e ∷ es) n = grind (arith, n 0, among_none es (λ i h. n (suc i) (omega arith)))

  reaching_none : (es : List Entry) → ((i : ℕ) → i < length es → IsAt p i es false) → reaching p es ≡ 0
  unfolding reaching
  reaching_none [] n = refl
  reaching_none (e ∷ es) n = rw (among_none (e ∷ es) n)

  -- the i-th is at place p, and none behind it
  pub reaching_at : (es : List Entry) (i : ℕ) → i < length es → IsAt p i es true
      → ((j : ℕ) → i < j → j < length es → IsAt p j es false) → reaching p es ≡ i + 1
  unfolding reaching
  reaching_at [] i h y n = absurd (omega arith)
  reaching_at (e ∷ es) zero h y n =
      rw (among_at (e ∷ es) 0 h y, reaching_none es (λ j l. n (suc j) (omega arith) (omega arith)))
  reaching_at (e ∷ es) (suc i) h y n =
      let rest = reaching_at es i (omega arith) y (λ j l m. n (suc j) (omega arith) (omega arith)) in
      rw (among_at (e ∷ es) (suc i) h y) (omega arith)

  -- the i-th is at place p, and none before it
  pub entry_is_at : (es : List Entry) (i : ℕ) → i < length es → IsAt p i es true
      → ((j : ℕ) → j < i → IsAt p j es false) → entry_at p es ≡ get_or es i no_entry
  unfolding entry_at
  entry_is_at [] i h y n = absurd (omega arith)
  entry_is_at (e ∷ es) zero h y n = rw y
  entry_is_at (e ∷ es) (suc i) h y n =
      rw (n 0 (omega arith)) (entry_is_at es i (omega arith) y (λ j l. n (suc j) (omega arith)))

-- a held place p has its entry as many behind the oldest as p's age, and nowhere else
module _ (a : Area) (es : List Entry) (q : Ring) (mem : List ℕ) (h : Holds a es q mem)
    (p : ℕ) (e : held q a.count p ≡ true) where
  abbrev old : ℕ
  old = age q a.count p

  pub held_here : place_after q a.count old ≡ p
  held_here = place_age q a.count h.ring p (held_inside q a.count p e)

  pub held_there : IsAt p old es true
  held_there =
      ap (is_at p) (h.stands old (held_age q a.count p e)).named
      ∙ eq-eqb (place_after q a.count old) p held_here

  pub held_once : (j : ℕ) → j < q.fill → (j ≡ old → ⊥) → IsAt p j es false
  held_once j l n =
      let room = h.ring.room in
      let less = held_age q a.count p e in
      ap (is_at p) (h.stands j l).named
      ∙ ne_eqb (place_after q a.count j) p
      (λ c. n (place_injective q a.count h.ring j old (omega arith) (omega arith) (c ∙ sym held_here)))
