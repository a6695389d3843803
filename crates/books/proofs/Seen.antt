-- What a reader of the ring and the memory sees is what the book says.
-- Assumes nothing.
use Prim.Native.Nat.{ℕ, ◌-◌, ◌%◌, ◌≤◌, ◌<◌}
use mathlib.Core.Path.{◌≡◌, sym, ap, ◌∙◌}
use mathlib.Core.Bool.{true}
use mathlib.Core.List.{List}
use native.Mathlib.Omega.{arith}
use lib.ListN.{get_or}
use Rattle.ring.specs.Rings.{age, held}
use Rattle.ring.specs.declared.Ring.{Ring}
use Rattle.ring.proofs.Holding.{held_age}
use Rattle.places.specs.declared.Area.{Area}
use Rattle.books.specs.Lists.{Each}
use Rattle.books.specs.Ledgers.{Entry, Ledger, no_entry, is_stored, entry_at, stored_so_far}
use Rattle.books.specs.Balance.{Balanced}
use Rattle.places.specs.Areas.{words_at}
use Rattle.books.specs.Standing.{Holds}
use Rattle.books.specs.Promises.{WordsTold, OldestTold}
use Rattle.books.proofs.Lists.{each_index, tally_all}
use Rattle.books.proofs.Turns.{oldest_in_turn}
use Rattle.books.proofs.Places.{entry_is_at, held_here, held_there, held_once}

module _ (a : Area) (l : Ledger) (q : Ring) (mem : List ℕ) (h : Holds a l.held q mem) where
  -- a held place is the one of an entry that is held
  found : (p : ℕ) → held q a.count p ≡ true → entry_at p l.held ≡ get_or l.held (age q a.count p) no_entry
  found p e =
      let old : age q a.count p < q.fill = held_age q a.count p e in
      entry_is_at p l.held (age q a.count p) (omega (arith, h.fill)) (held_there a l.held q mem h p e)
      (λ j m. held_once a l.held q mem h p e j (omega arith) (λ c. omega arith))

  -- all that are held were stored
  stored_held : Balanced l → q.fill ≤ stored_so_far l
  stored_held b =
      let stored : Each (λ e. is_stored e.slot ≡ true) l.held
      = each_index _ no_entry l.held (λ i m. ap is_stored (h.stands i (omega (arith, h.fill))).named) in
      let all = tally_all (λ e. is_stored e.slot) l.held stored in
      omega (arith, h.fill, b.parted.whole (λ e. is_stored e.slot))

pub words_told : WordsTold
words_told a l q mem x p e =
    ap (λ (n : ℕ). words_at a n mem) (sym (held_here a l.held q mem x.holds p e))
    ∙ (x.holds.stands (age q a.count p) (held_age q a.count p e)).there
    ∙ ap (λ (f : Entry). f.words) (sym (found a l q mem x.holds p e))

pub oldest_told : OldestTold
oldest_told a l q mem x =
    oldest_in_turn q a.count (stored_so_far l) x.holds.ring x.put
    (stored_held a l q mem x.holds x.balanced)
    ∙ ap (λ (n : ℕ). (stored_so_far l - n) % a.count) (sym x.holds.fill)
