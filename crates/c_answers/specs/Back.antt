-- An answer read back from the words in which it was told.
use Rattle.std.specs.Prelude.{ℕ, ◌+◌, ◌-◌, Option, Some, None, List, eqb, drop}
use Rattle.words.specs.Choice.{pick}
use Rattle.element.specs.declared.RxRead.{RxRead}
use Rattle.element.specs.declared.EventHeader.{EventHeader}
use Rattle.receiving.specs.Receive.{Fate, stored, stored_buffer, lost_to, dropped}
use Rattle.choosing.specs.Choosing.{Next, none, send}
use Rattle.overview.specs.declared.Overview.{Overview}
use Rattle.overview.specs.declared.RingStatus.{RingStatus}
use Rattle.c_words.specs.Words.{word, says_yes}
use Rattle.c_words.specs.Frames.{unpack_frame}

-- call 2
abbrev pub matched_in : ℕ → Option ℕ
matched_in n = pick (eqb n 0) None (Some (n - 1))

abbrev pub fate_in : List ℕ → Fate
fate_in ws =
    pick (eqb (word ws 0) 1) (stored (word ws 1) (word ws 2) (matched_in (word ws 3)))
    (pick (eqb (word ws 0) 2) (stored_buffer (word ws 1) (word ws 3 - 1))
    (pick (eqb (word ws 0) 3) (lost_to (word ws 1) (matched_in (word ws 3)))
    (dropped (word ws 1) (matched_in (word ws 3)))))

-- calls 3 and 5
abbrev pub read_in : List ℕ → RxRead
read_in ws = record {
  header = record { frame = unpack_frame ws; anmf = says_yes (word ws 9); index = word ws 8; time = word ws 7 };
  count = word ws 10;
}

-- calls 7 and 8
abbrev pub buffer_in : List ℕ → ℕ
buffer_in ws = word ws 0

-- call 10
abbrev pub choice_in : List ℕ → Next
choice_in ws =
    pick (eqb (word ws 0) 32) none
    (send (record {
      buffer = word ws 0;
      marker = word ws 1;
      wish = says_yes (word ws 2);
      frame = unpack_frame (drop 3 ws);
      count = word ws 10;
    }))

-- call 12
abbrev pub event_in : List ℕ → EventHeader
event_in ws = record { frame = unpack_frame ws; marker = word ws 7; kind = word ws 8; time = word ws 9 }

-- call 15
abbrev pub ring_in : List ℕ → ℕ → RingStatus
ring_in ws n = record { fill = word ws n; oldest = word ws (n + 1); put = word ws (n + 2) }

abbrev pub overview_in : List ℕ → Overview
overview_in ws = record {
  fifo0 = ring_in ws 0;
  fifo1 = ring_in ws 3;
  events = ring_in ws 6;
  shared = ring_in ws 9;
  pending = word ws 12;
}
