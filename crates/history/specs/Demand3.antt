-- Demand 3: nothing vanishes and nothing counts twice. Statements only.
use Rattle.std.specs.Prelude.{ℕ, ◌≤◌, ◌<◌, ◌≡◌, Bool, true, false, ◌&&◌, List, ◌∷◌, ◌++◌, map, reverse, eqb, length}
use Rattle.words.specs.Ranges.{SameIn}
use Rattle.registers.specs.declared.Registers.{Registers}
use Rattle.element.specs.declared.TxHeader.{TxHeader}
use Rattle.filter.specs.Search.{list_of, list_range}
use Rattle.shape.specs.Calls.{Says, refuses, answers, done}
use Rattle.shape.specs.Histories.{Told, told, trace, after, book, foretold}
use Rattle.shape.specs.Refusals.{Refusal}
use Rattle.engine.specs.Calls.{World, output_bytes}
use Rattle.books.specs.Lists.{tally, Each}
use Rattle.requests.specs.Requests.{asked, Typed, request_in}
use Rattle.requests.specs.Expected.{sends}
use Rattle.handler.specs.Calls.{Call, given, Answer, start, request_dedicated, request_shared, ask_choice, report_sent}
use Rattle.handler.specs.Calls.{step}
use Rattle.history.specs.Books.{Book, empty_book, fifo_ledger, note}
use Rattle.history.specs.Expected.{expect}
use Rattle.history.specs.Meant.{words_of, to_this_fifo, to_buffers, meant}
use Rattle.history.specs.Standing.{BookAgrees}

-- ---- calls, and their last accepted start

-- any call, where a request's marker and data bytes are numbers of their types: below 256
pub record InTypes (c : Call) : Type 0 where
  pub dedicated : (buffer : ℕ) (h : TxHeader) (d : List ℕ) → c ≡ request_dedicated buffer h d → Typed (asked h d)
  pub shared : (h : TxHeader) (d : List ℕ) → c ≡ request_shared h d → Typed (asked h d)

-- a call that was made, with what it told
abbrev pub Made : Type 0
Made = (c : Call) × Told (Answer c)

abbrev pub is_accepted : {A : Type 0} → Says A → Bool
is_accepted (answers a) = true
is_accepted (refuses n) = false

-- by its answer, a start that was accepted
abbrev pub is_started : Made → Bool
is_started t = eqb (given t.0).call 1 && is_accepted t.1.says

-- a start that is accepted, and calls after it: any, refused ones and refused starts among them, but no accepted start
pub record Run : Type 0 where
  pub before : World
  pub regs : Registers
  pub accepted : (step before (start regs)).says ≡ done
  pub calls : List Call
  pub typed : Each InTypes calls
  pub last : tally is_started (trace step (step before (start regs)).world calls) ≡ 0

abbrev pub began : Run → World
began r = (step r.before (start r.regs)).world

-- the world after the run, its history, and the book of it
abbrev pub now : Run → World
now r = after step (began r) r.calls

abbrev pub history : Run → List Made
history r = trace step (began r) r.calls

abbrev pub book_of : Run → Book
book_of r = book (note r.regs) empty_book (history r)

-- any calls from any world: those before their last accepted start, and the run that it begins
pub record LastStart (w : World) (calls : List Call) : Type 0 where
  pub earlier : List Call
  pub run : Run
  pub from : run.before ≡ after step w earlier
  pub whole : calls ≡ earlier ++ start run.regs ∷ run.calls

-- ---- what is true after every run

-- the world holds exactly what the book says: every frame, event and request in exactly one part, once, in order; those
-- held or pending in the memory word for word; the sent and cancelled bits those of the latest requests
abbrev pub Stands : Run → Type 0
Stands r = BookAgrees r.regs r.before.memory (book_of r) (now r).state (now r).memory

-- the frames in the book are exactly those that the filters or the rule for no match sent there, in order: worked out
-- from the registers and filter words of the start and the new-data bits that the history gives at that moment, and not
-- from the answer
pub record Meant (r : Run) : Type 0 where
  pub fifos : (fifo : ℕ) → fifo ≤ 1
      → map words_of (fifo_ledger (book_of r) fifo).arrived
      ≡ meant (to_this_fifo r.regs fifo) r.regs r.before.memory empty_book (history r)
  -- the book has the latest first
  pub buffers :
      reverse (book_of r).buffered ≡ meant (to_buffers r.regs) r.regs r.before.memory empty_book (history r)

-- all that every call tells can be told from the history, the inputs and the start
abbrev pub Answers : Run → Type 0
Answers r = history r ≡ foretold (note r.regs) (expect r.regs r.before.memory) empty_book r.calls

-- and of the memory at the start, its length and the filter words alone are needed for it
abbrev pub FiltersSuffice : Registers → List ℕ → Type 0
FiltersSuffice g began =
    (other : List ℕ) → ((xtd : Bool) → SameIn (list_range (list_of g xtd)) began other)
    → (b : Book) (c : Call) → expect g began b c ≡ expect g other b c

-- the next call, whichever it is, does not answer 20, whatever sections it would name with it
abbrev pub Never20 : Run → Type 0
Never20 r = (c : Call) (a : Refusal) → (step (now r) c).says ≡ refuses a → a.number ≡ 20 → ⊥

-- where the next call is an accepted report, the choice at that moment, asked with that report's own input, is the
-- request's own marker, wish, frame and bytes in the form that document 01 gives
abbrev pub SentInForm : Run → Type 0
SentInForm r =
    (buffer : ℕ) (passive : Bool) (time : ℕ) (out : List ℕ)
    → (step (now r) (report_sent buffer passive time)).says ≡ done → length out ≡ output_bytes
    → told (step (now r) (ask_choice passive out))
    ≡ sends r.regs (request_in (book_of r).requests buffer) buffer passive out

-- ---- demand 3

-- of any calls, from any world: all this of the run from their last accepted start
pub record Demand3 (w : World) (calls : List Call) : Type 0 where
  pub since : LastStart w calls
  -- the world after the calls is that after the run
  pub here : after step w calls ≡ now since.run
  -- parts, order, standing in memory, bits
  pub stands : Stands since.run
  pub meant : Meant since.run
  pub answers : Answers since.run
  pub filters : FiltersSuffice since.run.regs since.run.before.memory
  pub sent : SentInForm since.run
  pub fit : Never20 since.run

-- wherever some start among them is accepted
abbrev pub NothingVanishes : Type 0
NothingVanishes =
    (w : World) (calls : List Call) → Each InTypes calls → 0 < tally is_started (trace step w calls) → Demand3 w calls
