-- What is promised of a frame as it is sent, of its length and of the element sizes: statements only.
use Rattle.std.specs.Prelude.{ℕ, ◌+◌, ◌-◌, ◌*◌, ◌≤◌, ◌<◌, ◌≡◌, Bool, true, false, List, ◌↔◌, ◌⊎◌, length, get_or}
use Rattle.frame.specs.Length.{data_length}
use Rattle.frame.specs.Sizes.{element_bytes, element_words}
use Rattle.frame.specs.Arbitration.{bits_of}
use Rattle.frame.specs.Sent.{as_sent, sent_bytes}
use Rattle.frame.specs.declared.Frame.{Frame}

-- ---- as sent

-- a frame goes out in FD: it is not remote, it has FDF, and FD is on
abbrev pub GoesInFd : Frame → Bool → Type 0
GoesInFd f fd = (f.rtr ≡ false) × (f.fdf ≡ true) × (fd ≡ true)

-- sent is the form of a frame as sent, by whether FD and the rate switch are on and the sender is error passive
pub record SentTells (f : Frame) (fd switching passive : Bool) (sent : Frame) : Type 0 where
  pub fdf : (sent.fdf ≡ true) ↔ GoesInFd f fd
  pub brs : (sent.brs ≡ true) ↔ (GoesInFd f fd × (f.brs ≡ true) × (switching ≡ true))
  pub esi : (sent.esi ≡ true) ↔ (GoesInFd f fd × ((f.esi ≡ true) ⊎ (passive ≡ true)))
  pub id : sent.id ≡ f.id
  pub xtd : sent.xtd ≡ f.xtd
  pub rtr : sent.rtr ≡ f.rtr
  pub dlc : sent.dlc ≡ f.dlc
  -- so the rank judges what the bus sees
  pub arbitration : bits_of sent ≡ bits_of f
  -- an FD frame has a dominant RRS in RTR's place: none is remote, so that the bit there is 0
  pub dominant : sent.fdf ≡ true → sent.rtr ≡ false

abbrev pub FormIsAsSent : Type 0
FormIsAsSent =
    (f : Frame) (fd switching passive : Bool) → SentTells f fd switching passive (as_sent f fd switching passive)

-- n bytes as sent of data that stand in an element of e bytes: the data below the element's size, 0xCC from there on
pub record BytesTell (e : ℕ) (d : List ℕ) (n : ℕ) (sent : List ℕ) : Type 0 where
  pub count : length sent ≡ n
  pub held : (i : ℕ) → i < n → i < e → get_or sent i 0 ≡ get_or d i 0
  pub past : (i : ℕ) → i < n → e ≤ i → get_or sent i 0 ≡ 0xCC

abbrev pub BytesAreAsSent : Type 0
BytesAreAsSent = (e : ℕ) (d : List ℕ) (n : ℕ) → BytesTell e d n (sent_bytes e d n)

-- ---- lengths and sizes

-- len is how many data bytes a frame of this DLC has
pub record LengthTells (rtr fdf : Bool) (dlc len : ℕ) : Type 0 where
  pub remote : rtr ≡ true → len ≡ 0
  pub short : rtr ≡ false → dlc ≤ 8 → len ≡ dlc
  pub classic : rtr ≡ false → fdf ≡ false → 8 ≤ dlc → len ≡ 8
  -- in FD 9 to 12 have 4 bytes more for each
  pub steps : rtr ≡ false → fdf ≡ true → 9 ≤ dlc → dlc ≤ 12 → len ≡ 8 + 4 * (dlc - 8)
  pub at13 : rtr ≡ false → fdf ≡ true → dlc ≡ 13 → len ≡ 32
  pub at14 : rtr ≡ false → fdf ≡ true → dlc ≡ 14 → len ≡ 48
  pub at15 : rtr ≡ false → fdf ≡ true → dlc ≡ 15 → len ≡ 64

abbrev pub LengthIsByDlc : Type 0
LengthIsByDlc = (rtr fdf : Bool) (dlc : ℕ) → LengthTells rtr fdf dlc (data_length rtr fdf dlc)

-- the data bytes and the words of an element of a size code: those of DLC 8 to 15 in FD, and two words of header
pub record SizeTells (code held taken : ℕ) : Type 0 where
  pub bytes : code < 8 → LengthTells false true (code + 8) held
  pub words : code < 8 → 4 * taken ≡ 8 + held

abbrev pub SizesAreByCode : Type 0
SizesAreByCode = (code : ℕ) → SizeTells code (element_bytes code) (element_words code)
