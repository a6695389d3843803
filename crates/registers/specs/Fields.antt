-- The fields of the registers, each by one name.
use Rattle.std.specs.Prelude.{ℕ, ◌+◌, Bool, eqb}
use Rattle.words.specs.Choice.{pick}
use Rattle.registers.specs.Kinds.{field, flag, section_start, sidfc_count, xidfc_count}
use Rattle.registers.specs.Kinds.{rxfc_overwrite, rxfc_watermark, rxfc_count, rxesc_buffers, rxesc_fifo1, rxesc_fifo0}
use Rattle.registers.specs.Kinds.{txefc_watermark, txefc_count, txbc_queue, txbc_shared, txbc_dedicated, txesc_size}
use Rattle.registers.specs.Kinds.{gfc_anfs, gfc_anfe, gfc_rrfs, gfc_rrfe, id_mask}
use Rattle.registers.specs.declared.Registers.{Registers}

-- the memory's length in words, as given to the start
abbrev pub memory_words : Registers → ℕ
memory_words r = r.memory

-- ---- filters

-- of 11 bits: how many, and their first word
abbrev pub filters11 : Registers → ℕ
filters11 r = field sidfc_count r.sidfc.word

abbrev pub filters11_start : Registers → ℕ
filters11_start r = field section_start r.sidfc.word

-- of 29 bits
abbrev pub filters29 : Registers → ℕ
filters29 r = field xidfc_count r.xidfc.word

abbrev pub filters29_start : Registers → ℕ
filters29_start r = field section_start r.xidfc.word

-- what becomes of frames that no filter matches, of 11 and of 29 bits
abbrev pub anfs : Registers → ℕ
anfs r = field gfc_anfs r.gfc.word

abbrev pub anfe : Registers → ℕ
anfe r = field gfc_anfe r.gfc.word

-- whether remote frames are rejected, of 11 and of 29 bits
abbrev pub rrfs : Registers → Bool
rrfs r = flag gfc_rrfs r.gfc.word

abbrev pub rrfe : Registers → Bool
rrfe r = flag gfc_rrfe r.gfc.word

-- the mask of 29-bit identifiers
abbrev pub xidam_mask : Registers → ℕ
xidam_mask r = field id_mask r.xidam.word

-- ---- Rx FIFO 0 or 1

-- its register
unfoldable pub fifo_word : Registers → ℕ → ℕ
fifo_word r fifo = pick (eqb fifo 0) r.rxf0c.word r.rxf1c.word

abbrev pub fifo_start : Registers → ℕ → ℕ
fifo_start r fifo = field section_start (fifo_word r fifo)

abbrev pub fifo_size : Registers → ℕ → ℕ
fifo_size r fifo = field rxfc_count (fifo_word r fifo)

abbrev pub fifo_mark : Registers → ℕ → ℕ
fifo_mark r fifo = field rxfc_watermark (fifo_word r fifo)

-- full, it overwrites its oldest; else it blocks
abbrev pub overwrites : Registers → ℕ → Bool
overwrites r fifo = flag rxfc_overwrite (fifo_word r fifo)

-- the size code of its elements
unfoldable pub fifo_code : Registers → ℕ → ℕ
fifo_code r fifo = pick (eqb fifo 0) (field rxesc_fifo0 r.rxesc.word) (field rxesc_fifo1 r.rxesc.word)

-- ---- Rx buffers

abbrev pub buffers : Registers → ℕ
buffers r = r.buffers

abbrev pub buffers_start : Registers → ℕ
buffers_start r = field section_start r.rxbc.word

abbrev pub buffer_code : Registers → ℕ
buffer_code r = field rxesc_buffers r.rxesc.word

-- ---- Tx events

abbrev pub event_size : Registers → ℕ
event_size r = field txefc_count r.txefc.word

abbrev pub event_mark : Registers → ℕ
event_mark r = field txefc_watermark r.txefc.word

abbrev pub event_start : Registers → ℕ
event_start r = field section_start r.txefc.word

-- ---- Tx buffers: the dedicated ones first, then the shared ones, which are a queue or a FIFO

abbrev pub dedicated : Registers → ℕ
dedicated r = field txbc_dedicated r.txbc.word

abbrev pub shared : Registers → ℕ
shared r = field txbc_shared r.txbc.word

abbrev pub tx_count : Registers → ℕ
tx_count r = dedicated r + shared r

abbrev pub is_queue : Registers → Bool
is_queue r = flag txbc_queue r.txbc.word

abbrev pub tx_start : Registers → ℕ
tx_start r = field section_start r.txbc.word

abbrev pub tx_code : Registers → ℕ
tx_code r = field txesc_size r.txesc.word
