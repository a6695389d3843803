-- The seven sections that the registers lay out, in the order of document 01's table.
use Rattle.std.specs.Prelude.{ℕ, ◌*◌, Bool, ◌||◌, List, [], ◌∷◌, eqb, ltb}
use Rattle.words.specs.Choice.{pick}
use Rattle.frame.specs.Sizes.{element_words}
use Rattle.registers.specs.Fields.{filters11_start, filters11, filters29_start, filters29}
use Rattle.registers.specs.Fields.{fifo_start, fifo_size, fifo_code, buffers_start, buffers, buffer_code}
use Rattle.registers.specs.Fields.{event_start, event_size, tx_start, dedicated, shared, tx_count, tx_code}
use Rattle.registers.specs.declared.Registers.{Registers}
use Rattle.layout.specs.declared.sections.Section.{Section}

-- the most words that a memory may have
abbrev pub memory_most : ℕ
memory_most = 4352

-- no words; its start is reported as 0
abbrev pub none : Section
none = record { start = record { 0 = 0 }; words = 0 }

-- count elements of so many words each, from start on. Of count 0 the start is ignored
unfoldable pub section : ℕ → ℕ → ℕ → Section
section start count each = pick (eqb count 0) none (record { start = record { 0 = start }; words = count * each })

abbrev pub filters11_section : Registers → Section
filters11_section r = section (filters11_start r) (filters11 r) 1

abbrev pub filters29_section : Registers → Section
filters29_section r = section (filters29_start r) (filters29 r) 2

abbrev pub fifo_section : Registers → ℕ → Section
fifo_section r fifo = section (fifo_start r fifo) (fifo_size r fifo) (element_words (fifo_code r fifo))

abbrev pub buffer_section : Registers → Section
buffer_section r = section (buffers_start r) (buffers r) (element_words (buffer_code r))

abbrev pub event_section : Registers → Section
event_section r = section (event_start r) (event_size r) 2

-- the dedicated buffers first, then the shared ones
abbrev pub tx_section : Registers → Section
tx_section r = section (tx_start r) (tx_count r) (element_words (tx_code r))

-- 0 11-bit filters, 1 29-bit filters, 2 and 3 Rx FIFO 0 and 1, 4 Rx buffers, 5 Tx events, 6 Tx buffers
abbrev pub sections_of : Registers → List Section
sections_of r =
    filters11_section r
    ∷ filters29_section r
    ∷ fifo_section r 0
    ∷ fifo_section r 1
    ∷ buffer_section r
    ∷ event_section r
    ∷ tx_section r
    ∷ []

-- whether each section's count is over its most; of the Tx buffers, dedicated and shared each have one
abbrev pub over_most : Registers → List Bool
over_most r =
    ltb 128 (filters11 r)
    ∷ ltb 64 (filters29 r)
    ∷ ltb 64 (fifo_size r 0)
    ∷ ltb 64 (fifo_size r 1)
    ∷ ltb 64 (buffers r)
    ∷ ltb 32 (event_size r)
    ∷ (ltb 32 (dedicated r) || ltb 32 (shared r))
    ∷ []
