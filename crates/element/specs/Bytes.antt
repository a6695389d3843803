-- The data bytes of the element that stands from word at on: those that a read gives, and those that go out.
use Rattle.std.specs.Prelude.{ℕ, ◌+◌, ◌*◌, min, List, ltb}
use Rattle.words.specs.Choice.{pick}
use Rattle.words.specs.Runs.{run}
use Rattle.words.specs.Bytes.{byte_in}
use Rattle.frame.specs.Length.{data_length}
use Rattle.frame.specs.declared.Frame.{Frame}
use Rattle.element.specs.Headers.{frame_in, rx_header_in, headed}
use Rattle.element.specs.declared.RxRead.{RxRead}

-- how many bytes a frame has
abbrev pub length_of : Frame → ℕ
length_of f = data_length f.rtr f.fdf f.dlc

-- a read gives as many bytes as the frame has and the element of n data words holds
unfoldable pub read_count : List ℕ → ℕ → ℕ → ℕ
read_count mem at n = min (length_of (headed frame_in mem at)) (4 * n)

unfoldable pub rx_read : List ℕ → ℕ → ℕ → RxRead
rx_read mem at n = record { header = headed rx_header_in mem at; count = read_count mem at n }

unfoldable pub read_bytes : List ℕ → ℕ → ℕ → List ℕ
read_bytes mem at n = run (byte_in mem (at + 2)) 0 (read_count mem at n)

-- byte i as sent: 0xCC past the element's n data words
unfoldable pub sent_byte : List ℕ → ℕ → ℕ → ℕ → ℕ
sent_byte mem at n i = pick (ltb i (4 * n)) (byte_in mem (at + 2) i) 0xCC

unfoldable pub sent_from : List ℕ → ℕ → ℕ → ℕ → List ℕ
sent_from mem at n count = run (sent_byte mem at n) 0 count
