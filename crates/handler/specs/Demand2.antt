-- Demand 2: the manual decides. Which layouts are accepted, where a received frame goes and what it changes, which
-- frame is sent. Statements only, over the calls as `step` has them.
use Rattle.std.specs.Prelude.{ℕ, ◌+◌, ◌*◌, ◌^◌, ◌<◌, ◌≤◌, min, ◌≡◌, Bool, true, false, ◌&&◌, List, ◌↔◌, ◌⊎◌, length, get_or, take, Option, Some, None}
use Rattle.words.specs.Bits.{bit, how_many}
use Rattle.words.specs.Runs.{splice}
use Rattle.ring.specs.Rings.{put_place}
use Rattle.shape.specs.Calls.{Says, refuses, answers, done, outcome}
use Rattle.registers.specs.Fields.{fifo_code, fifo_size, overwrites, buffer_code, tx_count}
use Rattle.registers.specs.declared.Registers.{Registers}
use Rattle.frame.specs.Arbitration.{Wins, bits_of}
use Rattle.frame.specs.Sizes.{element_bytes}
use Rattle.frame.specs.declared.Frame.{Frame}
use Rattle.layout.specs.Legal.{Has, Legal}
use Rattle.layout.specs.Promises.{Refuses}
use Rattle.element.specs.Fitting.{anmf_of, index_of}
use Rattle.element.specs.Promises.{AreBytes}
use Rattle.element.specs.declared.RxRead.{RxRead}
use Rattle.filter.specs.Destination.{Goes, to_fifo, to_buffer, discarded, remote_out, destination}
use Rattle.filter.specs.Promises.{FirstIs, NoneMatches, SeenTells, MatchTells, DestinationTells}
use Rattle.filter.specs.Search.{list_of, filter_at}
use Rattle.filter.specs.declared.lists.FilterList.{FilterList}
use Rattle.engine.specs.Buffers.{is_pending}
use Rattle.engine.specs.Calls.{World, Outcome, is_unfit}
use Rattle.engine.specs.States.{fifo_ring}
use Rattle.engine.specs.declared.state.State.{State}
use Rattle.receiving.specs.Promises.{stored_in, OneElement}
use Rattle.receiving.specs.Receive.{Fate, stored, stored_buffer, lost_to, dropped}
use Rattle.choosing.specs.Buffers.{header_of}
use Rattle.choosing.specs.Choosing.{Next, none, send}
use Rattle.choosing.specs.Promises.{Candidate, Waits}
use Rattle.overview.specs.declared.Overview.{Overview}
use Rattle.handler.specs.Calls.{start, receive, read_fifo, read_buffer, ask_choice, report_sent, report_status}
use Rattle.handler.specs.Calls.{step}

-- ---- layouts: accepted exactly where every section has a legal size, lies in the memory and shares no word with
-- another

-- a first word and a number of words are exactly the words of section i; one without words is said to start at 0
pub record Reported (g : Registers) (i first count : ℕ) : Type 0 where
  pub words : (k : ℕ) → ((first ≤ k) × (k < first + count)) ↔ Has g i k
  pub absent : count ≡ 0 → first ≡ 0

pub record Starts (w : World) (g : Registers) : Type 0 where
  pub accepted : ((step w (start g)).says ≡ done) ↔ Legal g (length w.memory)
  -- words 2i and 2i + 1 of the output report section i
  pub sections : (step w (start g)).says ≡ done → (i : ℕ) → i < 7 → let out = (step w (start g)).output in
      Reported g i (get_or out (2 * i) 0) (get_or out (2 * i + 1) 0)
  -- when each refusal is given, exactly, and which sections it names
  pub refused : Refuses (λ a. (step w (start g)).says ≡ refuses a) g (length w.memory)

-- ---- received frames: the first filter that matches decides, else the no-match rule; of the memory that one element
-- changes and nothing else

-- a frame is out before the search: it is remote, and RRFS or RRFE is set
abbrev pub out_at_once : World → Frame → Bool
out_at_once w f = f.rtr && remote_out w.state.regs f.xtd

-- the list of the frame's kind
abbrev pub list_for : World → Frame → FilterList
list_for w f = list_of w.state.regs f.xtd

-- the filter element that an answer names
abbrev pub match_in : Fate → Option ℕ
match_in (stored fifo place m) = m
match_in (stored_buffer buffer i) = Some i
match_in (lost_to fifo m) = m
match_in (dropped why m) = m

-- what becomes of a frame that is sent to a FIFO
pub record FifoTakes (s : State) (fifo : ℕ) (m : Option ℕ) (fate : Fate) : Type 0 where
  pub room : (fifo_ring s fifo).fill < fifo_size s.regs fifo
      → fate ≡ stored fifo (put_place (fifo_ring s fifo) (fifo_size s.regs fifo)) m
  pub absent : fifo_size s.regs fifo ≡ 0 → fate ≡ lost_to fifo m
  pub blocking : 0 < fifo_size s.regs fifo → (fifo_ring s fifo).fill ≡ fifo_size s.regs fifo
      → overwrites s.regs fifo ≡ false → fate ≡ lost_to fifo m
  pub overwriting : 0 < fifo_size s.regs fifo → (fifo_ring s fifo).fill ≡ fifo_size s.regs fifo
      → overwrites s.regs fifo ≡ true → fate ≡ stored fifo (fifo_ring s fifo).oldest m

-- and of one that is sent anywhere
abbrev pub Becomes : State → Goes → Fate → Type 0
Becomes s (to_fifo fifo priority m) fate = FifoTakes s fifo m fate
Becomes s (to_buffer buffer i) fate = fate ≡ stored_buffer buffer i
Becomes s (discarded why m) fate = fate ≡ dropped why m

pub record Filtered (w : World) (f : Frame) (fate : Fate) : Type 0 where
  -- element i is named exactly where it matches and none below it does, and none is named exactly where none matches;
  -- a frame that is out at once is not searched for
  pub found : (i : ℕ)
      → (match_in fate ≡ Some i) ↔ ((out_at_once w f ≡ false) × FirstIs w.memory (list_for w f) f.id i)
  pub unfound : (match_in fate ≡ None) ↔ ((out_at_once w f ≡ true) ⊎ NoneMatches w.memory (list_for w f) f.id)
  -- what an element matches, by action and type
  pub seen : SeenTells f.xtd (list_for w f).xidam f.id
  pub matching : (i : ℕ)
      → MatchTells f.xtd (list_for w f).xidam (filter_at w.memory (list_for w f) i) f.id
  -- where it goes, by the remote rule, the first match's action or the no-match rule, and what becomes of it there
  pub goes : DestinationTells w.state.regs w.memory f w.state.newdata
  pub becomes : Becomes w.state (destination w.state.regs w.memory f w.state.newdata) fate

-- a read of a frame in an element of so many data bytes: what it tells, and the output after it; the world stays
abbrev pub read_as : World → ℕ → Option ℕ → Frame → List ℕ → ℕ → List ℕ → Outcome RxRead
read_as w bytes m f d time out =
    let n = min (length d) bytes in
    outcome
    (answers (record { header = record { frame = f; anmf = anmf_of m; index = index_of m; time = time }; count = n }))
    w (splice out 0 (take n d))

-- a read of the place that an answer names gives the frame back, with its match and its timestamp
abbrev pub ReadsBack : Registers → World → Frame → List ℕ → ℕ → List ℕ → Fate → Type 0
ReadsBack g last f d time out (stored fifo place m) =
    step last (read_fifo fifo place out) ≡ read_as last (element_bytes (fifo_code g fifo)) m f d time out
ReadsBack g last f d time out (stored_buffer buffer i) =
    step last (read_buffer buffer out) ≡ read_as last (element_bytes (buffer_code g)) (Some i) f d time out
ReadsBack g last f d time out (lost_to fifo m) = Unit {0}
ReadsBack g last f d time out (dropped why m) = Unit {0}

pub record InMemory (w last : World) (f : Frame) (d : List ℕ) (time : ℕ) (fate : Fate) : Type 0 where
  pub back : (out : List ℕ) → length out ≡ 64 → ReadsBack w.state.regs last f d time out fate
  -- of all words only those of the named element can have changed, and none where none is named; it is of FIFO 0,
  -- FIFO 1 or the Rx buffers, sections 2 to 4
  pub one : OneElement w.state.regs (stored_in w.state.regs fate) w.memory last.memory

-- ---- the frame sent next: of the pending dedicated buffers, with the shared FIFO's oldest or every pending queue
-- buffer, the one that wins arbitration

-- the bits with which the frame in a Tx buffer goes into arbitration
abbrev pub bits_in : World → ℕ → List ℕ
bits_in w buffer = bits_of (header_of w.state w.memory buffer).frame

-- one buffer goes before another: its bits win, or they are the same and it has the lower number
abbrev pub Before : World → ℕ → ℕ → Type 0
Before w buffer k = Wins (bits_in w buffer) (bits_in w k) ⊎ ((bits_in w buffer ≡ bits_in w k) × (buffer ≤ k))

-- a candidate that goes before every other
pub record GoesFirst (w : World) (buffer : ℕ) : Type 0 where
  pub one : Candidate w.state buffer
  pub before : (k : ℕ) → Candidate w.state k → Before w buffer k

-- the buffer that the choice names
abbrev pub Names : Says Next → ℕ → Type 0
Names (answers (send c)) buffer = c.buffer ≡ buffer
Names (answers none) buffer = ⊥
Names (refuses n) buffer = ⊥

pub record Chooses (w : World) : Type 0 where
  pub chosen : (passive : Bool) (out : List ℕ) (buffer : ℕ) → length out ≡ 64
      → Names (step w (ask_choice passive out)).says buffer ↔ GoesFirst w buffer
  pub nothing : (passive : Bool) (out : List ℕ) → length out ≡ 64
      → ((step w (ask_choice passive out)).says ≡ answers none) ↔ ((k : ℕ) → Candidate w.state k → ⊥)
  -- and exactly where nothing is pending: no pending bit is set
  pub idle : (passive : Bool) (out : List ℕ) → length out ≡ 64
      → ((step w (ask_choice passive out)).says ≡ answers none) ↔ ((k : ℕ) → bit w.state.pending k ≡ 0)
  -- a report is accepted of that buffer alone
  pub reported : (buffer : ℕ) (passive : Bool) (time : ℕ)
      → ((step w (report_sent buffer passive time)).says ≡ done) ↔ GoesFirst w buffer
  -- each candidate is a pending buffer, and status counts the pending ones
  pub waiting : (buffer : ℕ) → Candidate w.state buffer → Waits w.state buffer
  pub counted : (o : Overview) → (step w report_status).says ≡ answers o
      → o.pending ≡ how_many (is_pending w.state) (tx_count w.state.regs)

-- ---- all of it, in every world

pub record Demand2 (w : World) : Type 0 where
  pub layouts : (g : Registers) → Starts w g
  pub frames : (f : Frame) (d : List ℕ) (time : ℕ) (fate : Fate) → (step w (receive f d time)).says ≡ answers fate
      → Filtered w f fate
  pub memory : (f : Frame) (d : List ℕ) (time : ℕ) (fate : Fate) → (step w (receive f d time)).says ≡ answers fate
      → time < 2 ^ 16 → AreBytes d → InMemory w (step w (receive f d time)).world f d time fate
  pub choice : is_unfit w ≡ false → Chooses w

abbrev pub TheManualDecides : Type 0
TheManualDecides = (w : World) → Demand2 w
