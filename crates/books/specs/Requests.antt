-- The history's own book of requests of any kind, each accepted in a buffer: kept from calls and answers alone.
use Rattle.std.specs.Prelude.{ℕ, Bool, List, [], ◌∷◌, ◌++◌, map, eqb, ltb, leb, length, get_or}
use Rattle.books.specs.Lists.{tally, those, others}

-- an accepted request: its number, and the buffer that it was given
pub record Accepted (R : Type 0) : Type 0 where
  pub number : ℕ
  pub buffer : ℕ
  pub request : R

-- all that were accepted, in the order in which they were, and what has become of each
pub record RequestBook (R : Type 0) : Type 0 where
  pub requested : List (Accepted R)
  pub pending : List (Accepted R)
  pub sent : List (Accepted R)
  pub cancelled : List (Accepted R)

module _ {R : Type 0} where
  abbrev pub empty_requests : RequestBook R
  empty_requests = record { requested = []; pending = []; sent = []; cancelled = [] }

  abbrev pub buffer_of : Accepted R → ℕ
  buffer_of e = e.buffer

  abbrev pub is_buffer : ℕ → Accepted R → Bool
  is_buffer buffer e = eqb e.buffer buffer

  -- ---- what an accepted call adds

  -- a request was accepted, in a buffer: its number is how many were accepted before it
  abbrev pub accepted_in : RequestBook R → ℕ → R → Accepted R
  accepted_in l buffer q = record { number = length l.requested; buffer = buffer; request = q }

  abbrev pub note_request : RequestBook R → R → ℕ → RequestBook R
  note_request l q buffer = record {
    requested = l.requested ++ accepted_in l buffer q ∷ [];
    pending = l.pending ++ accepted_in l buffer q ∷ [];
    sent = l.sent;
    cancelled = l.cancelled;
  }

  -- a cancel was accepted: the pending request of the buffer is cancelled
  abbrev pub note_cancel : RequestBook R → ℕ → RequestBook R
  note_cancel l buffer = record {
    requested = l.requested;
    pending = others (is_buffer buffer) l.pending;
    sent = l.sent;
    cancelled = l.cancelled ++ those (is_buffer buffer) l.pending;
  }

  -- a report was accepted: the pending request of the buffer is sent
  abbrev pub note_sent : RequestBook R → ℕ → RequestBook R
  note_sent l buffer = record {
    requested = l.requested;
    pending = others (is_buffer buffer) l.pending;
    sent = l.sent ++ those (is_buffer buffer) l.pending;
    cancelled = l.cancelled;
  }

  -- ---- what it says of a buffer

  abbrev pub has_pending : RequestBook R → ℕ → Bool
  has_pending l buffer = ltb 0 (tally (is_buffer buffer) l.pending)

  -- the request that is pending in a buffer; where none is, one that is given
  abbrev pub pending_in : R → RequestBook R → ℕ → R
  pending_in none l buffer =
      (get_or (those (is_buffer buffer) l.pending) 0 (record { number = 0; buffer = 0; request = none })).request

  -- ---- shared buffers: those from a first one on

  abbrev pub is_shared : ℕ → Accepted R → Bool
  is_shared first e = leb first e.buffer

  -- the shared ones that are pending, in the order in which they were accepted
  abbrev pub waiting : ℕ → RequestBook R → List (Accepted R)
  waiting first l = those (is_shared first) l.pending

  -- the buffer of the first of them
  abbrev pub oldest_waiting : ℕ → RequestBook R → ℕ
  oldest_waiting first l = get_or (map buffer_of (waiting first l)) 0 0
