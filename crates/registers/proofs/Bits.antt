-- Each field's name is of its bits: by computation, and the flags by their test.
-- Assumes nothing.
use mathlib.Core.Path.{refl}
use borrow.Author.Tests.{eqb-true, eq-eqb}
use Rattle.registers.specs.Fields.{fifo_word, fifo_code}
use Rattle.registers.specs.Promises.{FieldsAreTheirBits, NamedBitsAreThose}

pub fields_are_their_bits : FieldsAreTheirBits
unfolding fifo_word fifo_code
fields_are_their_bits g = record {
  memory_words = refl;
  filters11 = refl;
  filters11_start = refl;
  filters29 = refl;
  filters29_start = refl;
  fifo0_size = refl;
  fifo0_start = refl;
  fifo0_mark = refl;
  fifo0_overwrites = (eqb-true _ 1, eq-eqb _ 1);
  fifo0_code = refl;
  fifo1_size = refl;
  fifo1_start = refl;
  fifo1_mark = refl;
  fifo1_overwrites = (eqb-true _ 1, eq-eqb _ 1);
  fifo1_code = refl;
  buffers = refl;
  buffers_start = refl;
  buffer_code = refl;
  event_size = refl;
  event_start = refl;
  event_mark = refl;
  dedicated = refl;
  shared = refl;
  tx_count = refl;
  queue = (eqb-true _ 1, eq-eqb _ 1);
  tx_start = refl;
  tx_code = refl;
  anfs = refl;
  anfe = refl;
  rrfs = (eqb-true _ 1, eq-eqb _ 1);
  rrfe = (eqb-true _ 1, eq-eqb _ 1);
  xidam_mask = refl;
}

pub named_bits_are_those : NamedBitsAreThose
named_bits_are_those = record {
  sidfc = refl;
  xidfc = refl;
  rxfc = refl;
  rxbc = refl;
  rxesc = refl;
  txefc = refl;
  txbc = refl;
  txesc = refl;
  gfc = refl;
  xidam = refl;
}
