-- Every entry in the book keeps its balance, whatever is noted.
-- Assumes nothing.
use Prim.Native.Nat.{ℕ, suc, ◌+◌}
use mathlib.Core.Path.{◌≡◌, refl, ◌∙◌}
use mathlib.Core.Bool.{Bool}
use mathlib.Core.List.{List, [], ◌∷◌, ◌++◌, append_assoc}
use native.Mathlib.Omega.{arith}
use lib.ListN.{length, drop, take-append-drop}
use Rattle.std.proofs.Common.{Option, Some, None}
use Rattle.books.specs.Lists.{tally, Numbered}
use Rattle.books.specs.Ledgers.{Ledger, new_entry, given_way, note_arrival, release_oldest}
use Rattle.books.specs.Balance.{Parted, entry_number, Balanced}
use Rattle.books.specs.Promises.{EmptyBalances, ArrivalBalances, ReleaseBalances}
use Rattle.books.proofs.Lists.{tally_append, tally_cut, length_snoc, numbered_snoc, numbered_once}
use Rattle.books.proofs.Lists.{rising_cut, rising_snoc, rising_wider}

-- that each is in one part once follows from the counts
pub parted : {A : Type 0} (number : A → ℕ) (all one two three : List A) → Numbered number 0 all
    → ((q : A → Bool) → tally q one + tally q two + tally q three ≡ tally q all) → Parted number all one two three
parted number all one two three n w = record {
  numbered = n;
  whole = w;
  once = λ k h. w _ ∙ numbered_once number 0 all k n (omega arith) (omega arith);
}

-- no entry, and three empty parts
pub start_parted : {A : Type 0} (number : A → ℕ) → Parted number [] [] [] []
unfolding tally
start_parted number = parted number [] [] [] [] tt (λ q. refl)

pub empty_balances : EmptyBalances
empty_balances = record { parted = start_parted entry_number; order = omega arith }

-- a new one is numbered next
next_numbered : (l : Ledger) → Balanced l → (ws : List ℕ) (s : Option ℕ)
    → Numbered entry_number 0 (l.arrived ++ new_entry l ws s ∷ [])
next_numbered l b ws s = numbered_snoc entry_number 0 l.arrived (new_entry l ws s) b.parted.numbered (omega arith)

pub arrival_balances : ArrivalBalances
unfolding note_arrival
arrival_balances l b size ws (Some p) =
    let n : ℕ = given_way size l in
    record {
      parted =
          parted entry_number _ _ _ _ (next_numbered l b ws (Some p))
          (λ q. simp tally_append (omega (arith, b.parted.whole q, tally_cut q n l.held)));
      order =
          rw (← append_assoc, length_snoc)
          (rising_snoc entry_number 0 (l.released ++ drop n l.held) (new_entry l ws (Some p)) (length l.arrived)
          (rising_cut entry_number 0 l.released l.held (length l.arrived) n b.order) (omega arith));
    }
arrival_balances l b size ws None = record {
  parted =
      parted entry_number _ _ _ _ (next_numbered l b ws None)
      (λ q. simp tally_append (omega (arith, b.parted.whole q)));
  order =
      let n = length l.arrived in
      rw length_snoc
      (rising_wider entry_number 0 0 (l.released ++ l.held) n (suc n) (omega arith) (omega arith) b.order);
}

oldest_balances : (l : Ledger) → Balanced l → (n : ℕ) → Balanced (release_oldest l n)
unfolding release_oldest
oldest_balances l b n = record {
  parted =
      parted entry_number _ _ _ _ b.parted.numbered
      (λ q. simp tally_append (omega (arith, b.parted.whole q, tally_cut q n l.held)));
  order = rw (append_assoc, take-append-drop) b.order;
}

pub release_balances : ReleaseBalances
release_balances l b p = oldest_balances l b _
