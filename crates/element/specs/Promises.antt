-- Which bit of an element says what; what is stored in it is what is read from it, and nothing else of the memory
-- changes.
use Rattle.std.specs.Prelude.{ℕ, ◌+◌, ◌*◌, ◌^◌, ◌<◌, ◌≤◌, min, ◌≡◌, true, false, Some, None, List, length, get_or, take}
use Rattle.words.specs.Choice.{pick}
use Rattle.words.specs.Fields.{bits}
use Rattle.words.specs.Ranges.{range, OnlyIn}
use Rattle.words.specs.Runs.{run, part, splice}
use Rattle.words.specs.Bytes.{byte_in}
use Rattle.frame.specs.Malformed.{WellFormed}
use Rattle.frame.specs.Sent.{sent_bytes}
use Rattle.frame.specs.declared.Frame.{Frame}
use Rattle.element.specs.Fitting.{anmf_of, index_of, InFields}
use Rattle.element.specs.Elements.{element, rx_element, tx_element, event_element}
use Rattle.element.specs.Headers.{rx_header_in, tx_header_in, event_header_in, headed}
use Rattle.element.specs.Bytes.{read_bytes, sent_from}
use Rattle.element.specs.declared.Arrival.{Arrival}
use Rattle.element.specs.declared.RxHeader.{RxHeader}
use Rattle.element.specs.declared.TxHeader.{TxHeader}
use Rattle.element.specs.declared.EventHeader.{EventHeader}

-- ---- the table of bits

-- a frame stands in the first two words of an element, of every kind
pub record FrameStands (f : Frame) (first second : ℕ) : Type 0 where
  pub esi : bits 31 31 first ≡ pick f.esi 1 0
  pub xtd : bits 30 30 first ≡ pick f.xtd 1 0
  pub rtr : bits 29 29 first ≡ pick f.rtr 1 0
  pub id29 : f.xtd ≡ true → bits 28 0 first ≡ f.id
  pub id11 : f.xtd ≡ false → bits 28 18 first ≡ f.id
  pub fdf : bits 21 21 second ≡ pick f.fdf 1 0
  pub brs : bits 20 20 second ≡ pick f.brs 1 0
  pub dlc : bits 19 16 second ≡ f.dlc

-- these two are words of 32 bits, and what the frame leaves of the first is 0
pub record FrameAlone (f : Frame) (first second : ℕ) : Type 0 where
  pub stands : FrameStands f first second
  pub rest11 : f.xtd ≡ false → bits 17 0 first ≡ 0
  pub fits0 : first < 2 ^ 32
  pub fits1 : second < 2 ^ 32

-- word k of data: a byte that the data do not have is 0
pub record DataStands (d : List ℕ) (k word : ℕ) : Type 0 where
  pub byte0 : bits 7 0 word ≡ get_or d (4 * k) 0
  pub byte1 : bits 15 8 word ≡ get_or d (4 * k + 1) 0
  pub byte2 : bits 23 16 word ≡ get_or d (4 * k + 2) 0
  pub byte3 : bits 31 24 word ≡ get_or d (4 * k + 3) 0
  pub fits : word < 2 ^ 32

-- the words of an Rx element, of a Tx element and of an event that are written: every bit of each
pub record RxWords (a : Arrival) (d : List ℕ) (n : ℕ) (ws : List ℕ) : Type 0 where
  pub frame : FrameAlone a.frame (get_or ws 0 0) (get_or ws 1 0)
  pub unmatched : a.matched ≡ None → (bits 31 31 (get_or ws 1 0) ≡ 1) × (bits 30 24 (get_or ws 1 0) ≡ 0)
  pub matched : (i : ℕ) → a.matched ≡ Some i → (bits 31 31 (get_or ws 1 0) ≡ 0) × (bits 30 24 (get_or ws 1 0) ≡ i)
  pub unnamed : bits 23 22 (get_or ws 1 0) ≡ 0
  pub time : bits 15 0 (get_or ws 1 0) ≡ a.time
  pub bytes : (k : ℕ) → k < n → DataStands d k (get_or ws (2 + k) 0)

pub record TxWords (h : TxHeader) (d : List ℕ) (n : ℕ) (ws : List ℕ) : Type 0 where
  pub frame : FrameAlone h.frame (get_or ws 0 0) (get_or ws 1 0)
  pub marker : bits 31 24 (get_or ws 1 0) ≡ h.marker
  pub wish : bits 23 23 (get_or ws 1 0) ≡ pick h.wish 1 0
  pub unnamed : bits 22 22 (get_or ws 1 0) ≡ 0
  pub low : bits 15 0 (get_or ws 1 0) ≡ 0
  pub bytes : (k : ℕ) → k < n → DataStands d k (get_or ws (2 + k) 0)

pub record EventWords (marker : ℕ) (f : Frame) (time : ℕ) (ws : List ℕ) : Type 0 where
  pub frame : FrameAlone f (get_or ws 0 0) (get_or ws 1 0)
  pub mark : bits 31 24 (get_or ws 1 0) ≡ marker
  pub kind : bits 23 22 (get_or ws 1 0) ≡ 1
  pub stamp : bits 15 0 (get_or ws 1 0) ≡ time

abbrev pub AreBytes : List ℕ → Type 0
AreBytes d = (i : ℕ) → get_or d i 0 < 256

abbrev pub RxIsByBits : Type 0
RxIsByBits =
    (a : Arrival) (d : List ℕ) (n : ℕ)
    → InFields a.frame → index_of a.matched < 128 → a.time < 2 ^ 16 → AreBytes d
    → RxWords a d n (rx_element a d n)

abbrev pub TxIsByBits : Type 0
TxIsByBits =
    (h : TxHeader) (d : List ℕ) (n : ℕ)
    → InFields h.frame → h.marker < 256 → AreBytes d
    → TxWords h d n (tx_element h d n)

abbrev pub EventIsByBits : Type 0
EventIsByBits =
    (marker : ℕ) (f : Frame) (time : ℕ)
    → InFields f → marker < 256 → time < 2 ^ 16
    → EventWords marker f time (event_element marker f time)

-- what a read makes of any two words: it goes by the same bits, and by no other
pub record RxStands (h : RxHeader) (first second : ℕ) : Type 0 where
  pub frame : FrameStands h.frame first second
  pub anmf : bits 31 31 second ≡ pick h.anmf 1 0
  pub index : bits 30 24 second ≡ h.index
  pub time : bits 15 0 second ≡ h.time

pub record TxStands (h : TxHeader) (first second : ℕ) : Type 0 where
  pub frame : FrameStands h.frame first second
  pub marker : bits 31 24 second ≡ h.marker
  pub wish : bits 23 23 second ≡ pick h.wish 1 0

pub record EventStands (h : EventHeader) (first second : ℕ) : Type 0 where
  pub frame : FrameStands h.frame first second
  pub marker : bits 31 24 second ≡ h.marker
  pub kind : bits 23 22 second ≡ h.kind
  pub time : bits 15 0 second ≡ h.time

pub record ReadByBits (first second : ℕ) : Type 0 where
  pub rx : RxStands (rx_header_in first second) first second
  pub tx : TxStands (tx_header_in first second) first second
  pub event : EventStands (event_header_in first second) first second

abbrev pub ReadsAreByBits : Type 0
ReadsAreByBits = (first second : ℕ) → ReadByBits first second

-- ---- storing

-- the memory holds these words from word at on
abbrev pub Holds : List ℕ → ℕ → List ℕ → Type 0
Holds mem at ws = part at (length ws) mem ≡ ws

-- after a store the memory holds the words, and all else is as it was
pub record Placed (mem : List ℕ) (at : ℕ) (ws : List ℕ) : Type 0 where
  pub inside : Holds (splice mem at ws) at ws
  pub only : OnlyIn (range at (length ws)) mem (splice mem at ws)

-- an element of n data words takes 2 + n words
pub record ElementPlaced (mem : List ℕ) (at first second : ℕ) (d : List ℕ) (n : ℕ) : Type 0 where
  pub words : length (element first second d n) ≡ 2 + n
  pub placed : Placed mem at (element first second d n)

abbrev pub ElementStored : Type 0
ElementStored =
    (mem : List ℕ) (at first second : ℕ) (d : List ℕ) (n : ℕ)
    → at + 2 + n ≤ length mem → ElementPlaced mem at first second d n

-- an event takes two
abbrev pub EventStored : Type 0
EventStored =
    (mem : List ℕ) (at marker : ℕ) (f : Frame) (time : ℕ)
    → at + 2 ≤ length mem → Placed mem at (event_element marker f time)

-- ---- reading

-- a read gives the data as far as the element holds them, and they go out with 0xCC past it
pub record BytesBack (mem : List ℕ) (at n : ℕ) (d : List ℕ) : Type 0 where
  pub read : read_bytes mem at n ≡ take (min (length d) (4 * n)) d
  pub sent : (count : ℕ) → sent_from mem at n count ≡ sent_bytes (4 * n) d count

-- what stands in the first two words of an arrival's element
abbrev pub arrival_header : Arrival → RxHeader
arrival_header a =
    record { frame = a.frame; anmf = anmf_of a.matched; index = index_of a.matched; time = a.time }

-- an arrival comes back: its frame, its match, its timestamp and its data
pub record RxBack (mem : List ℕ) (at n : ℕ) (a : Arrival) (d : List ℕ) : Type 0 where
  pub header : headed rx_header_in mem at ≡ arrival_header a
  pub bytes : BytesBack mem at n d

abbrev pub RxReadsBack : Type 0
RxReadsBack =
    (mem : List ℕ) (at n : ℕ) (a : Arrival) (d : List ℕ)
    → Holds mem at (rx_element a d n)
    → index_of a.matched < 128 → WellFormed a.frame (length d) → a.time < 2 ^ 16 → AreBytes d
    → RxBack mem at n a d

-- a request comes back: its frame, its marker, its wish and its data
pub record TxBack (mem : List ℕ) (at n : ℕ) (h : TxHeader) (d : List ℕ) : Type 0 where
  pub header : headed tx_header_in mem at ≡ h
  pub bytes : BytesBack mem at n d

abbrev pub TxReadsBack : Type 0
TxReadsBack =
    (mem : List ℕ) (at n : ℕ) (h : TxHeader) (d : List ℕ)
    → Holds mem at (tx_element h d n)
    → h.marker < 256 → WellFormed h.frame (length d) → AreBytes d
    → TxBack mem at n h d

-- an event comes back, of type 1
abbrev pub EventReadsBack : Type 0
EventReadsBack =
    (mem : List ℕ) (at marker : ℕ) (f : Frame) (time : ℕ)
    → Holds mem at (event_element marker f time)
    → marker < 256 → InFields f → time < 2 ^ 16
    → headed event_header_in mem at ≡ record { frame = f; marker = marker; kind = 1; time = time }

-- whatever the words are, the bytes as sent are those of a frame with the data that stand in them
abbrev pub SentAsHeld : Type 0
SentAsHeld =
    (mem : List ℕ) (at n count : ℕ)
    → sent_from mem at n count ≡ sent_bytes (4 * n) (run (byte_in mem (at + 2)) 0 (4 * n)) count

-- a read looks at the element's own words alone, wherever they stand
pub record ReadsAlike (mem other : List ℕ) (at to n : ℕ) : Type 0 where
  pub first : get_or mem at 0 ≡ get_or other to 0
  pub second : get_or mem (at + 1) 0 ≡ get_or other (to + 1) 0
  pub read : read_bytes mem at n ≡ read_bytes other to n
  pub sent : (count : ℕ) → sent_from mem at n count ≡ sent_from other to n count

abbrev pub OwnWords : Type 0
OwnWords =
    (mem other : List ℕ) (at to n : ℕ) → part at (2 + n) mem ≡ part to (2 + n) other → ReadsAlike mem other at to n
