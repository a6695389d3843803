-- Books that balance: nothing that arrived or was accepted vanishes, and nothing counts twice.
use Rattle.std.specs.Prelude.{ℕ, ◌+◌, ◌<◌, ◌≡◌, Bool, List, ◌++◌, length}
use Rattle.books.specs.Lists.{tally, those, is_number, Numbered, Rising}
use Rattle.books.specs.Ledgers.{Entry, Ledger}
use Rattle.books.specs.Requests.{Accepted, RequestBook, is_shared, waiting}

-- each of all is in exactly one of three parts, once
pub record Parted {A : Type 0} (number : A → ℕ) (all one two three : List A) : Type 0 where
  -- all are numbered 0, 1, 2, ..
  pub numbered : Numbered number 0 all
  -- of any kind, the parts together have as many as there are
  pub whole : (q : A → Bool) → tally q one + tally q two + tally q three ≡ tally q all
  -- each number is in the parts once
  pub once : (n : ℕ) → n < length all
      → tally (is_number number n) one + tally (is_number number n) two + tally (is_number number n) three ≡ 1

-- ---- a ring's book

abbrev pub entry_number : Entry → ℕ
entry_number e = e.number

pub record Balanced (l : Ledger) : Type 0 where
  -- each that arrived is released, held or lost
  pub parted : Parted entry_number l.arrived l.released l.held l.lost
  -- those released, and then those held, are in the order of arrival
  pub order : Rising entry_number 0 (l.released ++ l.held) (length l.arrived)

-- ---- a book of requests

module _ {R : Type 0} where
  abbrev pub accepted_number : Accepted R → ℕ
  accepted_number e = e.number

  -- each that was accepted is pending, sent or cancelled
  abbrev pub RequestsBalanced : RequestBook R → Type 0
  RequestsBalanced l = Parted accepted_number l.requested l.pending l.sent l.cancelled

  -- shared ones are sent in the order in which they were accepted: along those sent, then those that wait, numbers rise
  abbrev pub SentInOrder : ℕ → RequestBook R → Type 0
  SentInOrder first l =
      Rising accepted_number 0 (those (is_shared first) l.sent ++ waiting first l) (length l.requested)
