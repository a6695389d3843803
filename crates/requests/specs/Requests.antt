-- M_CAN's transmit requests, and the book of them: kept from the calls and their answers alone, never from a state.
use Rattle.std.specs.Prelude.{ℕ, ◌<◌, false, List, [], length}
use Rattle.frame.specs.Malformed.{WellFormed}
use Rattle.element.specs.Promises.{AreBytes}
use Rattle.element.specs.declared.TxHeader.{TxHeader}
use Rattle.books.specs.Requests.{RequestBook, empty_requests, pending_in}

-- what a request brings: frame, marker and event wish, and the frame's data
pub record Request : Type 0 where
  pub header : TxHeader
  pub bytes : List ℕ

abbrev pub asked : TxHeader → List ℕ → Request
asked h d = record { header = h; bytes = d }

-- the marker and the bytes are as small as their types
pub record Typed (q : Request) : Type 0 where
  pub marker : q.header.marker < 256
  pub bytes : AreBytes q.bytes

-- such a one with a well-formed frame: its element gives back all that was asked
pub record Sendable (q : Request) : Type 0 where
  pub formed : WellFormed q.header.frame (length q.bytes)
  pub typed : Typed q

abbrev pub Book : Type 0
Book = RequestBook Request

abbrev pub empty_book : Book
empty_book = empty_requests

-- the request that is pending in a buffer; where none is, one that says nothing
abbrev pub no_request : Request
no_request =
    asked
    (record {
      frame = record { id = 0; xtd = false; rtr = false; fdf = false; brs = false; esi = false; dlc = 0 };
      marker = 0;
      wish = false;
    }) []

abbrev pub request_in : Book → ℕ → Request
request_in l buffer = pending_in no_request l buffer
