-- States and records: the empty ones, and one with a part changed.
use Rattle.std.specs.Prelude.{ℕ, eqb, false}
use Rattle.words.specs.Choice.{pick}
use Rattle.ring.specs.Rings.{none_held}
use Rattle.ring.specs.declared.Ring.{Ring}
use Rattle.registers.specs.declared.Registers.{Registers}
use Rattle.engine.specs.declared.state.State.{State}
use Rattle.engine.specs.declared.state.Record.{Record}

-- what an accepted start gives
abbrev pub empty_state : Registers → State
empty_state regs = record {
  regs = regs;
  fifo0 = none_held;
  fifo1 = none_held;
  events = none_held;
  shared = none_held;
  newdata = 0;
  pending = 0;
  sent = 0;
  cancelled = 0;
}

abbrev pub no_flags : Record
no_flags = record { flags = 0; priority = 0 }

-- registers and a length of 0, but for a GFC that no start accepts
abbrev pub never_started : State
never_started =
    empty_state
    (record {
      sidfc = record { word = 0 };
      xidfc = record { word = 0 };
      rxf0c = record { word = 0 };
      rxf1c = record { word = 0 };
      rxbc = record { word = 0 };
      rxesc = record { word = 0 };
      txefc = record { word = 0 };
      txbc = record { word = 0 };
      txesc = record { word = 0 };
      gfc = record { word = 0xFFFFFFFF };
      xidam = record { word = 0 };
      buffers = 0;
      fdon = false;
      rateon = false;
      memory = 0;
    })

-- the ring of FIFO 0 or 1
unfoldable pub fifo_ring : State → ℕ → Ring
fifo_ring s fifo = pick (eqb fifo 0) s.fifo0 s.fifo1

-- a state with another ring in FIFO 0 or 1
unfoldable pub with_fifo : State → ℕ → Ring → State
with_fifo s fifo next = record {
  regs = s.regs;
  fifo0 = pick (eqb fifo 0) next s.fifo0;
  fifo1 = pick (eqb fifo 0) s.fifo1 next;
  events = s.events;
  shared = s.shared;
  newdata = s.newdata;
  pending = s.pending;
  sent = s.sent;
  cancelled = s.cancelled;
}

abbrev pub with_events : State → Ring → State
with_events s next = record {
  regs = s.regs;
  fifo0 = s.fifo0;
  fifo1 = s.fifo1;
  events = next;
  shared = s.shared;
  newdata = s.newdata;
  pending = s.pending;
  sent = s.sent;
  cancelled = s.cancelled;
}

abbrev pub with_new_data : State → ℕ → State
with_new_data s bits = record {
  regs = s.regs;
  fifo0 = s.fifo0;
  fifo1 = s.fifo1;
  events = s.events;
  shared = s.shared;
  newdata = bits;
  pending = s.pending;
  sent = s.sent;
  cancelled = s.cancelled;
}

-- the Tx buffers' bits, and the ring of the shared ones
abbrev pub with_tx : State → Ring → ℕ → ℕ → ℕ → State
with_tx s shared pending sent cancelled = record {
  regs = s.regs;
  fifo0 = s.fifo0;
  fifo1 = s.fifo1;
  events = s.events;
  shared = shared;
  newdata = s.newdata;
  pending = pending;
  sent = sent;
  cancelled = cancelled;
}

abbrev pub with_flags : Record → ℕ → Record
with_flags r flags = record { flags = flags; priority = r.priority }
