-- What is promised of the names of the registers' fields: statements only.
use Rattle.std.specs.Prelude.{◌+◌, ◌≡◌, true, [], ◌∷◌, ◌↔◌}
use Rattle.words.specs.Bits.{bit}
use Rattle.words.specs.Fields.{bits}
use Rattle.registers.specs.Kinds
use Rattle.registers.specs.Fields
use Rattle.registers.specs.declared.Registers.{Registers}

-- each name of a field is of the bits that the paper's table gives it
pub record FieldsAre (g : Registers) : Type 0 where
  -- the memory's length, a number of its own
  pub memory_words : Fields.memory_words g ≡ g.memory
  -- SIDFC and XIDFC
  pub filters11 : Fields.filters11 g ≡ bits 23 16 g.sidfc.word
  pub filters11_start : Fields.filters11_start g ≡ bits 15 2 g.sidfc.word
  pub filters29 : Fields.filters29 g ≡ bits 22 16 g.xidfc.word
  pub filters29_start : Fields.filters29_start g ≡ bits 15 2 g.xidfc.word
  -- RXF0C and RXESC 2:0
  pub fifo0_size : Fields.fifo_size g 0 ≡ bits 22 16 g.rxf0c.word
  pub fifo0_start : Fields.fifo_start g 0 ≡ bits 15 2 g.rxf0c.word
  pub fifo0_mark : Fields.fifo_mark g 0 ≡ bits 30 24 g.rxf0c.word
  pub fifo0_overwrites : (Fields.overwrites g 0 ≡ true) ↔ (bit g.rxf0c.word 31 ≡ 1)
  pub fifo0_code : Fields.fifo_code g 0 ≡ bits 2 0 g.rxesc.word
  -- RXF1C and RXESC 6:4
  pub fifo1_size : Fields.fifo_size g 1 ≡ bits 22 16 g.rxf1c.word
  pub fifo1_start : Fields.fifo_start g 1 ≡ bits 15 2 g.rxf1c.word
  pub fifo1_mark : Fields.fifo_mark g 1 ≡ bits 30 24 g.rxf1c.word
  pub fifo1_overwrites : (Fields.overwrites g 1 ≡ true) ↔ (bit g.rxf1c.word 31 ≡ 1)
  pub fifo1_code : Fields.fifo_code g 1 ≡ bits 6 4 g.rxesc.word
  -- RXBC, with a count that is a number of its own, and RXESC 10:8
  pub buffers : Fields.buffers g ≡ g.buffers
  pub buffers_start : Fields.buffers_start g ≡ bits 15 2 g.rxbc.word
  pub buffer_code : Fields.buffer_code g ≡ bits 10 8 g.rxesc.word
  -- TXEFC
  pub event_size : Fields.event_size g ≡ bits 21 16 g.txefc.word
  pub event_start : Fields.event_start g ≡ bits 15 2 g.txefc.word
  pub event_mark : Fields.event_mark g ≡ bits 29 24 g.txefc.word
  -- TXBC and TXESC
  pub dedicated : Fields.dedicated g ≡ bits 21 16 g.txbc.word
  pub shared : Fields.shared g ≡ bits 29 24 g.txbc.word
  pub tx_count : Fields.tx_count g ≡ bits 21 16 g.txbc.word + bits 29 24 g.txbc.word
  pub queue : (Fields.is_queue g ≡ true) ↔ (bit g.txbc.word 30 ≡ 1)
  pub tx_start : Fields.tx_start g ≡ bits 15 2 g.txbc.word
  pub tx_code : Fields.tx_code g ≡ bits 2 0 g.txesc.word
  -- GFC and XIDAM
  pub anfs : Fields.anfs g ≡ bits 5 4 g.gfc.word
  pub anfe : Fields.anfe g ≡ bits 3 2 g.gfc.word
  pub rrfs : (Fields.rrfs g ≡ true) ↔ (bit g.gfc.word 1 ≡ 1)
  pub rrfe : (Fields.rrfe g ≡ true) ↔ (bit g.gfc.word 0 ≡ 1)
  pub xidam_mask : Fields.xidam_mask g ≡ bits 28 0 g.xidam.word

abbrev pub FieldsAreTheirBits : Type 0
FieldsAreTheirBits = (g : Registers) → FieldsAre g

-- the bits that are named of each kind of register, as highest and lowest bit; all others must be 0
pub record NamedBitsAreThose : Type 0 where
  pub sidfc : Kinds.sidfc ≡ (23, 16) ∷ (15, 2) ∷ []
  pub xidfc : Kinds.xidfc ≡ (22, 16) ∷ (15, 2) ∷ []
  pub rxfc : Kinds.rxfc ≡ (31, 31) ∷ (30, 24) ∷ (22, 16) ∷ (15, 2) ∷ []
  pub rxbc : Kinds.rxbc ≡ (15, 2) ∷ []
  pub rxesc : Kinds.rxesc ≡ (10, 8) ∷ (6, 4) ∷ (2, 0) ∷ []
  pub txefc : Kinds.txefc ≡ (29, 24) ∷ (21, 16) ∷ (15, 2) ∷ []
  pub txbc : Kinds.txbc ≡ (30, 30) ∷ (29, 24) ∷ (21, 16) ∷ (15, 2) ∷ []
  pub txesc : Kinds.txesc ≡ (2, 0) ∷ []
  pub gfc : Kinds.gfc ≡ (5, 4) ∷ (3, 2) ∷ (1, 1) ∷ (0, 0) ∷ []
  pub xidam : Kinds.xidam ≡ (28, 0) ∷ []
