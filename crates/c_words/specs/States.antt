-- A state, its registers and a record as words, and back.
use Rattle.std.specs.Prelude.{ℕ, ◌+◌, ◌*◌, ◌/◌, ◌%◌, ◌^◌, ◌≡◌, Bool, ◌&&◌, List, [], ◌∷◌}
use Rattle.ring.specs.declared.Ring.{Ring}
use Rattle.registers.specs.Given.{registers_from}
use Rattle.registers.specs.declared.Registers.{Registers}
use Rattle.engine.specs.declared.state.State.{State}
use Rattle.engine.specs.declared.state.Record.{Record}
use Rattle.c_words.specs.Words.{word, yes_no, says_yes, is_yes_no}

-- how many words the registers have, and how many a state has
abbrev pub register_words : ℕ
register_words = 15

abbrev pub state_words : ℕ
state_words = register_words + 13

-- the registers: the eleven and the number of Rx buffers; FD on, rate switch on; the memory's length
abbrev pub unpack_registers : List ℕ → Registers
unpack_registers ws = registers_from (word ws) (says_yes (word ws 12)) (says_yes (word ws 13)) (word ws 14)

-- 12 and 13 say yes or no
abbrev pub plain_registers : List ℕ → Bool
plain_registers ws = is_yes_no (word ws 12) && is_yes_no (word ws 13)

-- a ring: its oldest place and its fill
abbrev pub unpack_ring : List ℕ → ℕ → Ring
unpack_ring ws n = record { oldest = word ws n; fill = word ws (n + 1) }

-- word n after the registers
abbrev pub after_registers : List ℕ → ℕ → ℕ
after_registers ws n = word ws (register_words + n)

-- a state: the registers; FIFO 0, FIFO 1, events, shared; the new-data bits, 0 to 31 and 32 to 63; pending, sent,
-- cancelled
unfoldable pub unpack_state : List ℕ → State
unpack_state ws = record {
  regs = unpack_registers ws;
  fifo0 = unpack_ring ws register_words;
  fifo1 = unpack_ring ws (register_words + 2);
  events = unpack_ring ws (register_words + 4);
  shared = unpack_ring ws (register_words + 6);
  newdata = after_registers ws 8 + after_registers ws 9 * 2 ^ 32;
  pending = after_registers ws 10;
  sent = after_registers ws 11;
  cancelled = after_registers ws 12;
}

unfoldable pub pack_state : State → List ℕ
pack_state s =
    s.regs.sidfc.word
    ∷ s.regs.xidfc.word
    ∷ s.regs.rxf0c.word
    ∷ s.regs.rxf1c.word
    ∷ s.regs.rxbc.word
    ∷ s.regs.rxesc.word
    ∷ s.regs.txefc.word
    ∷ s.regs.txbc.word
    ∷ s.regs.txesc.word
    ∷ s.regs.gfc.word
    ∷ s.regs.xidam.word
    ∷ s.regs.buffers
    ∷ yes_no s.regs.fdon
    ∷ yes_no s.regs.rateon
    ∷ s.regs.memory
    ∷ s.fifo0.oldest
    ∷ s.fifo0.fill
    ∷ s.fifo1.oldest
    ∷ s.fifo1.fill
    ∷ s.events.oldest
    ∷ s.events.fill
    ∷ s.shared.oldest
    ∷ s.shared.fill
    ∷ s.newdata % 2 ^ 32
    ∷ s.newdata / 2 ^ 32
    ∷ s.pending
    ∷ s.sent
    ∷ s.cancelled
    ∷ []

-- the state that stands in these words packs to the same words
abbrev pub ComesBack : List ℕ → Type 0
ComesBack ws = pack_state (unpack_state ws) ≡ ws

-- a record is 2 words: flags and priority
abbrev pub unpack_record : List ℕ → Record
unpack_record ws = record { flags = word ws 0; priority = word ws 1 }

abbrev pub pack_record : Record → List ℕ
pack_record r = r.flags ∷ r.priority ∷ []
