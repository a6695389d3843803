-- What helpers ask of their callers. A reader of the promises need not read it.
use Rattle.std.specs.Prelude.{◌<◌, ◌≤◌}
use Rattle.shape.specs.Refusals.{Refusal}
use Rattle.element.specs.Fitting.{index_of}
use Rattle.receiving.specs.Receive.{Fate, stored, stored_buffer, lost_to, dropped}

-- sections are named by their numbers, 7 for none
abbrev pub NamesFit : Refusal → Type 0
NamesFit n = (n.section ≤ 7) × (n.other ≤ 7)

-- a filter element's number is one more than its index
abbrev pub FateFits : Fate → Type 0
FateFits (stored fifo place m) = index_of m < 128
FateFits (stored_buffer buffer i) = i < 128
FateFits (lost_to fifo m) = index_of m < 128
FateFits (dropped why m) = index_of m < 128
