-- A frame as it is sent: its header and its bytes.
use Rattle.std.specs.Prelude.{ℕ, Bool, not, ◌&&◌, ◌||◌, List, get_or, ltb}
use Rattle.words.specs.Choice.{pick}
use Rattle.words.specs.Runs.{run}
use Rattle.frame.specs.declared.Frame.{Frame}

-- it goes out in FD: not remote, and FD is asked for and on
abbrev pub sent_fd : Frame → Bool → Bool
sent_fd f fd = not f.rtr && f.fdf && fd

-- the header as sent
unfoldable pub as_sent : Frame → Bool → Bool → Bool → Frame
as_sent f fd switching passive = record {
  id = f.id;
  xtd = f.xtd;
  rtr = f.rtr;
  fdf = sent_fd f fd;
  brs = sent_fd f fd && f.brs && switching;
  esi = sent_fd f fd && (f.esi || passive);
  dlc = f.dlc;
}

-- n bytes as sent of data that stand in an element of e bytes: 0xCC past the element
unfoldable pub sent_bytes : ℕ → List ℕ → ℕ → List ℕ
sent_bytes e d n = run (λ i. pick (ltb i e) (get_or d i 0) 0xCC) 0 n
