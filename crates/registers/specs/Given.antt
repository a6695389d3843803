-- What a start is given: whether only named bits are set, registers from their words, and those after a reset.
use Rattle.std.specs.Prelude.{ℕ, Bool, false, ◌&&◌}
use Rattle.words.specs.Fields.{only_named}
use Rattle.registers.specs.Kinds.{sidfc, xidfc, rxfc, rxbc, rxesc, txefc, txbc, txesc, gfc, xidam}
use Rattle.registers.specs.declared.Registers.{Registers}

-- no register has a bit set that the document does not name
abbrev pub all_named : Registers → Bool
all_named r =
    only_named sidfc r.sidfc.word
    && only_named xidfc r.xidfc.word
    && only_named rxfc r.rxf0c.word
    && only_named rxfc r.rxf1c.word
    && only_named rxbc r.rxbc.word
    && only_named rxesc r.rxesc.word
    && only_named txefc r.txefc.word
    && only_named txbc r.txbc.word
    && only_named txesc r.txesc.word
    && only_named gfc r.gfc.word
    && only_named xidam r.xidam.word

-- the registers of these words, in the order of document 01's case A, the number of Rx buffers after them
abbrev pub registers_from : (ℕ → ℕ) → Bool → Bool → ℕ → Registers
registers_from word fdon rateon memory = record {
  sidfc = record { word = word 0 };
  xidfc = record { word = word 1 };
  rxf0c = record { word = word 2 };
  rxf1c = record { word = word 3 };
  rxbc = record { word = word 4 };
  rxesc = record { word = word 5 };
  txefc = record { word = word 6 };
  txbc = record { word = word 7 };
  txesc = record { word = word 8 };
  gfc = record { word = word 9 };
  xidam = record { word = word 10 };
  buffers = word 11;
  fdon = fdon;
  rateon = rateon;
  memory = memory;
}

-- the manual's reset words: all 0 but XIDAM. A reset gives no length of a memory
abbrev pub reset_registers : Registers
reset_registers = record {
  sidfc = record { word = 0 };
  xidfc = record { word = 0 };
  rxf0c = record { word = 0 };
  rxf1c = record { word = 0 };
  rxbc = record { word = 0 };
  rxesc = record { word = 0 };
  txefc = record { word = 0 };
  txbc = record { word = 0 };
  txesc = record { word = 0 };
  gfc = record { word = 0 };
  xidam = record { word = 0x1FFFFFFF };
  buffers = 0;
  fdon = false;
  rateon = false;
  memory = 0;
}
