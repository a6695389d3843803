-- The history's own book of one ring of elements: kept from calls and answers alone.
use Rattle.std.specs.Prelude.{ℕ, suc, ◌-◌, ◌%◌, Bool, true, false, not, ◌&&◌, ◌||◌, List, [], ◌∷◌, ◌++◌, eqb, length, take, drop, Option, Some, None}
use Rattle.words.specs.Choice.{pick}
use Rattle.books.specs.Lists.{tally}

-- one that arrived: its number, the words of its element, and the place that the answer named, None where it was lost
pub record Entry : Type 0 where
  pub number : ℕ
  pub words : List ℕ
  pub slot : Option ℕ

-- all that arrived, in order, and what became of them
pub record Ledger : Type 0 where
  pub arrived : List Entry
  pub released : List Entry
  pub held : List Entry
  pub lost : List Entry

abbrev pub empty_ledger : Ledger
empty_ledger = record { arrived = []; released = []; held = []; lost = [] }

-- what stands for an entry past the end of a list
abbrev pub no_entry : Entry
no_entry = record { number = 0; words = []; slot = None }

-- arrivals are numbered from 0
abbrev pub new_entry : Ledger → List ℕ → Option ℕ → Entry
new_entry l ws s = record { number = length l.arrived; words = ws; slot = s }

-- ---- places

abbrev pub is_stored : Option ℕ → Bool
is_stored (Some r) = true
is_stored None = false

abbrev pub is_at : ℕ → Option ℕ → Bool
is_at p (Some r) = eqb r p
is_at p None = false

-- is one at place p among these?
unfoldable pub among : ℕ → List Entry → Bool
among p [] = false
among p (e ∷ es) = is_at p e.slot || among p es

-- the first of these that is at place p
unfoldable pub entry_at : ℕ → List Entry → Entry
entry_at p [] = no_entry
entry_at p (e ∷ es) = pick (is_at p e.slot) e (entry_at p es)

abbrev pub is_held_at : ℕ → Ledger → Bool
is_held_at p l = among p l.held

-- ---- an arrival, in a ring of some size

abbrev pub is_full : ℕ → Ledger → Bool
is_full size l = eqb (length l.held) size

-- how many of the oldest give way to one that is stored
abbrev pub given_way : ℕ → Ledger → ℕ
given_way size l = pick (is_full size l) 1 0

-- a new one that is stored is held, the youngest, and an oldest that gave way to it is lost; or the new one is lost
unfoldable pub note_arrival : ℕ → Ledger → List ℕ → Option ℕ → Ledger
note_arrival size l ws (Some p) = record {
  arrived = l.arrived ++ new_entry l ws (Some p) ∷ [];
  released = l.released;
  held = drop (given_way size l) l.held ++ new_entry l ws (Some p) ∷ [];
  lost = l.lost ++ take (given_way size l) l.held;
}
note_arrival size l ws None = record {
  arrived = l.arrived ++ new_entry l ws None ∷ [];
  released = l.released;
  held = l.held;
  lost = l.lost ++ new_entry l ws None ∷ [];
}

-- ---- an accepted acknowledge

-- how many of these are at place p, or have a younger one there
unfoldable pub reaching : ℕ → List Entry → ℕ
reaching p [] = 0
reaching p (e ∷ es) = pick (among p (e ∷ es)) (suc (reaching p es)) 0

-- the n oldest that are held are released
unfoldable pub release_oldest : Ledger → ℕ → Ledger
release_oldest l n = record {
  arrived = l.arrived;
  released = l.released ++ take n l.held;
  held = drop n l.held;
  lost = l.lost;
}

-- each one that is held is released where it, or a younger one, is acknowledged
abbrev pub note_release : Ledger → ℕ → Ledger
note_release l p = release_oldest l (reaching p l.held)

-- ---- what the rules answer, told from the book and the ring's size and mode

abbrev pub stored_so_far : Ledger → ℕ
stored_so_far l = tally (λ e. is_stored e.slot) l.arrived

-- those that are stored take the places in turn, so the next goes here
abbrev pub expect_put : ℕ → Ledger → ℕ
expect_put size l = stored_so_far l % size

-- and the oldest held one went here; where none is held, the next will
abbrev pub expect_oldest : ℕ → Ledger → ℕ
expect_oldest size l = (stored_so_far l - length l.held) % size

-- a full ring that does not overwrite, and any of size 0, loses a new one
abbrev pub is_blocking : ℕ → Bool → Bool
is_blocking size overwrites = eqb size 0 || not overwrites

unfoldable pub expect_slot : ℕ → Bool → Ledger → Option ℕ
expect_slot size overwrites l = pick (is_full size l && is_blocking size overwrites) None (Some (expect_put size l))
