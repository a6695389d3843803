-- The book of requests balances whatever is noted, and its shared ones stay in order.
-- Assumes nothing.
use Prim.Native.Nat.{ℕ, suc, ◌<◌}
use mathlib.Core.Path.{◌≡◌, ap, ◌∙◌}
use mathlib.Core.Bool.{Bool, true, false}
use mathlib.Core.List.{List, [], ◌∷◌, ◌++◌, append_assoc, append-nil}
use native.Mathlib.Omega.{arith}
use lib.Dec.{leb}
use lib.ListN.{length, take, drop, take-append-drop}
use borrow.Author.Tests.{eqb-true, lt-leb}
use Rattle.words.specs.Choice.{pick}
use Rattle.books.specs.Lists.{those, others, Rising}
use Rattle.books.specs.Requests.{Accepted, RequestBook, empty_requests, is_buffer, accepted_in, is_shared, waiting}
use Rattle.books.specs.Requests.{note_request, note_cancel, note_sent}
use Rattle.books.specs.Balance.{accepted_number, SentInOrder}
use Rattle.books.specs.Promises.{NoRequestBalances, RequestBalances, CancelBalances, SentBalances}
use Rattle.books.proofs.Balances.{parted, start_parted}
use Rattle.books.proofs.Lists.{tally_append, tally_split, numbered_snoc, rising_snoc, rising_wider}
use Rattle.books.proofs.Lists.{those_append, those_one, those_apart, those_both, length_snoc}

-- ---- balance

pub no_request_balances : NoRequestBalances
no_request_balances R = start_parted accepted_number

pub request_balances : RequestBalances
request_balances R l b q buffer =
    parted accepted_number _ _ _ _
    (numbered_snoc accepted_number 0 l.requested (accepted_in l buffer q) b.numbered (omega arith))
    (λ t. simp tally_append (omega (arith, b.whole t)))

pub cancel_balances : CancelBalances
cancel_balances R l b buffer =
    parted accepted_number _ _ _ _ b.numbered
    (λ t. simp tally_append (omega (arith, b.whole t, tally_split t (is_buffer buffer) l.pending)))

pub sent_balances : SentBalances
sent_balances R l b buffer =
    parted accepted_number _ _ _ _ b.numbered
    (λ t. simp tally_append (omega (arith, b.whole t, tally_split t (is_buffer buffer) l.pending)))

-- ---- order

pub ordered_start : (R : Type 0) (first : ℕ) → SentInOrder first (empty_requests {R = R})
unfolding those
ordered_start R first = omega arith

module _ {R : Type 0} (first : ℕ) where
  -- a buffer before the first has no shared request
  pub before : (buffer : ℕ) → buffer < first → (e : Accepted R) → is_buffer buffer e ≡ true → is_shared first e ≡ false
  before buffer n e h = ap (leb first) (eqb-true e.buffer buffer h) ∙ lt-leb first buffer n

  module _ (l : RequestBook R) (o : SentInOrder first l) where
    pub ordered_request : (q : R) (buffer : ℕ) → SentInOrder first (note_request l q buffer)
    ordered_request q buffer = rw (those_append, those_one, length_snoc, ← append_assoc) (go (is_shared first e))
      where
        e : Accepted R
        e = accepted_in l buffer q

        xs : List (Accepted R)
        xs = those (is_shared first) l.sent ++ waiting first l

        n : ℕ
        n = length l.requested

        go : (t : Bool)
            → Rising accepted_number 0
            (those (is_shared first) l.sent ++ waiting first l ++ pick t (accepted_in l buffer q ∷ []) [])
            (suc (length l.requested))
        go true = rising_snoc accepted_number 0 xs e n o (omega arith)
        go false = rw append-nil (rising_wider accepted_number 0 0 xs n (suc n) (omega arith) (omega arith) o)

    module _ (buffer : ℕ) (n : buffer < first) where
      pub waiting_beside : those (is_shared first) (others (is_buffer buffer) l.pending) ≡ waiting first l
      waiting_beside = those_apart (is_shared first) (is_buffer buffer) (before buffer n) l.pending

      pub ordered_cancel : SentInOrder first (note_cancel l buffer)
      ordered_cancel = rw waiting_beside o

      pub ordered_beside : SentInOrder first (note_sent l buffer)
      ordered_beside =
          rw (
            waiting_beside,
            those_append,
            those_both (is_shared first) (is_buffer buffer) (before buffer n) l.pending,
            append-nil,
          ) o

    -- the first of those that wait goes from their front to the end of those sent
    pub ordered_first : (buffer : ℕ)
        → those (is_shared first) (others (is_buffer buffer) l.pending) ≡ drop 1 (waiting first l)
        → those (is_shared first) (those (is_buffer buffer) l.pending) ≡ take 1 (waiting first l)
        → SentInOrder first (note_sent l buffer)
    ordered_first buffer rest gone = rw (rest, those_append, gone, append_assoc, take-append-drop) o
