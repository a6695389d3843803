-- A filter element, from the words that it stands in. Bits that are not named are ignored.
use Rattle.std.specs.Prelude.{ℕ}
use Rattle.words.specs.Fields.{bits}
use Rattle.filter.specs.declared.filters.FilterElement.{FilterElement}

-- 11-bit: S0 has type 31:30, action 29:27, ID1 26:16, ID2 10:0
abbrev pub element11 : ℕ → FilterElement
element11 s0 = record {
  filtertype = bits 31 30 s0;
  action = bits 29 27 s0;
  id1 = bits 26 16 s0;
  id2 = bits 10 0 s0;
}

-- 29-bit: F0 has action 31:29, ID1 28:0; F1 has type 31:30, ID2 28:0
abbrev pub element29 : ℕ → ℕ → FilterElement
element29 f0 f1 = record {
  filtertype = bits 31 30 f1;
  action = bits 31 29 f0;
  id1 = bits 28 0 f0;
  id2 = bits 28 0 f1;
}
