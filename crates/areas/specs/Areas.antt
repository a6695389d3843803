-- The areas of the memory where elements stand: so many elements of so many words each, in a section.
use Rattle.std.specs.Prelude.{ℕ, ◌-◌}
use Rattle.frame.specs.Sizes.{element_words}
use Rattle.places.specs.declared.Area.{Area}
use Rattle.registers.specs.Fields.{fifo_size, fifo_code, buffers, buffer_code, event_size, tx_count, tx_code}
use Rattle.registers.specs.declared.Registers.{Registers}
use Rattle.layout.specs.Sections.{fifo_section, buffer_section, event_section, tx_section}
use Rattle.layout.specs.declared.sections.Section.{Section}

abbrev pub area_in : Section → ℕ → ℕ → Area
area_in s count each = record { start = s.start; count = count; each = each }

-- FIFO 0 or 1
abbrev pub fifo_area : Registers → ℕ → Area
fifo_area r fifo = area_in (fifo_section r fifo) (fifo_size r fifo) (element_words (fifo_code r fifo))

abbrev pub buffer_area : Registers → Area
buffer_area r = area_in (buffer_section r) (buffers r) (element_words (buffer_code r))

abbrev pub event_area : Registers → Area
event_area r = area_in (event_section r) (event_size r) 2

-- dedicated and shared
abbrev pub tx_area : Registers → Area
tx_area r = area_in (tx_section r) (tx_count r) (element_words (tx_code r))

-- the data words of an area's elements: all but the two of the header
abbrev pub data_words : Area → ℕ
data_words a = a.each - 2
