-- The fields of each register kind, each by one name, as document 01 has them, and a word put together of them.
use Rattle.std.specs.Prelude.{ℕ, ◌+◌, ◌-◌, ◌*◌, ◌^◌, ◌<◌, ◌≡◌, Bool, true, List, [], ◌∷◌, eqb}
use Rattle.words.specs.Choice.{pick}
use Rattle.words.specs.Fields.{bits, only_named}

-- a field by its highest and its lowest bit
abbrev pub Field : Type 0
Field = ℕ × ℕ

-- what stands in a field of a word
abbrev pub field : Field → ℕ → ℕ
field f w = bits f.0 f.1 w

-- a field of one bit that says yes or no
abbrev pub flag : Field → ℕ → Bool
flag f w = eqb (field f w) 1

-- yes or no as the number of such a field
abbrev pub bit_of : Bool → ℕ
bit_of b = pick b 1 0

-- numbers that can stand in these fields, one for each
abbrev pub Fit : List Field → List ℕ → Type 0
Fit [] [] = Unit {0}
Fit [] (n ∷ ns) = ⊥
Fit (f ∷ fs) [] = ⊥
Fit (f ∷ fs) (n ∷ ns) = (n < 2 ^ (f.0 + 1 - f.1)) × Fit fs ns

-- the word that has them there, and nothing else
abbrev pub placed : List Field → List ℕ → ℕ
placed [] ns = 0
placed (f ∷ fs) [] = 0
placed (f ∷ fs) (n ∷ ns) = n * 2 ^ f.1 + placed fs ns

-- they stand there in a word
abbrev pub Stand : List Field → List ℕ → ℕ → Type 0
Stand [] [] w = Unit {0}
Stand [] (n ∷ ns) w = ⊥
Stand (f ∷ fs) [] w = ⊥
Stand (f ∷ fs) (n ∷ ns) w = (field f w ≡ n) × Stand fs ns w

-- a word put together of the fields of its kind: each holds its number, and no other bit is set
pub record Built (kind : List Field) (numbers : List ℕ) (w : ℕ) : Type 0 where
  pub word : w ≡ placed kind numbers
  pub fields : Stand kind numbers w
  pub named : only_named kind w ≡ true

-- of every section: the word address of its first word
abbrev pub section_start : Field
section_start = (15, 2)

-- SIDFC: the 11-bit filters
abbrev pub sidfc_count : Field
sidfc_count = (23, 16)

abbrev pub sidfc : List Field
sidfc = sidfc_count ∷ section_start ∷ []

-- XIDFC: the 29-bit filters
abbrev pub xidfc_count : Field
xidfc_count = (22, 16)

abbrev pub xidfc : List Field
xidfc = xidfc_count ∷ section_start ∷ []

-- RXF0C and RXF1C: an Rx FIFO
abbrev pub rxfc_overwrite : Field
rxfc_overwrite = (31, 31)

abbrev pub rxfc_watermark : Field
rxfc_watermark = (30, 24)

abbrev pub rxfc_count : Field
rxfc_count = (22, 16)

abbrev pub rxfc : List Field
rxfc = rxfc_overwrite ∷ rxfc_watermark ∷ rxfc_count ∷ section_start ∷ []

-- RXBC: the Rx buffers, whose count is a number of its own
abbrev pub rxbc : List Field
rxbc = section_start ∷ []

-- RXESC: the size codes of Rx elements
abbrev pub rxesc_buffers : Field
rxesc_buffers = (10, 8)

abbrev pub rxesc_fifo1 : Field
rxesc_fifo1 = (6, 4)

abbrev pub rxesc_fifo0 : Field
rxesc_fifo0 = (2, 0)

abbrev pub rxesc : List Field
rxesc = rxesc_buffers ∷ rxesc_fifo1 ∷ rxesc_fifo0 ∷ []

-- TXEFC: the Tx events
abbrev pub txefc_watermark : Field
txefc_watermark = (29, 24)

abbrev pub txefc_count : Field
txefc_count = (21, 16)

abbrev pub txefc : List Field
txefc = txefc_watermark ∷ txefc_count ∷ section_start ∷ []

-- TXBC: the Tx buffers
abbrev pub txbc_queue : Field
txbc_queue = (30, 30)

abbrev pub txbc_shared : Field
txbc_shared = (29, 24)

abbrev pub txbc_dedicated : Field
txbc_dedicated = (21, 16)

abbrev pub txbc : List Field
txbc = txbc_queue ∷ txbc_shared ∷ txbc_dedicated ∷ section_start ∷ []

-- TXESC: the size code of Tx elements
abbrev pub txesc_size : Field
txesc_size = (2, 0)

abbrev pub txesc : List Field
txesc = txesc_size ∷ []

-- GFC: what becomes of frames that no filter matches, and of remote ones, by 11 and 29 bits
abbrev pub gfc_anfs : Field
gfc_anfs = (5, 4)

abbrev pub gfc_anfe : Field
gfc_anfe = (3, 2)

abbrev pub gfc_rrfs : Field
gfc_rrfs = (1, 1)

abbrev pub gfc_rrfe : Field
gfc_rrfe = (0, 0)

abbrev pub gfc : List Field
gfc = gfc_anfs ∷ gfc_anfe ∷ gfc_rrfs ∷ gfc_rrfe ∷ []

-- XIDAM: the mask of 29-bit identifiers
abbrev pub id_mask : Field
id_mask = (28, 0)

abbrev pub xidam : List Field
xidam = id_mask ∷ []
