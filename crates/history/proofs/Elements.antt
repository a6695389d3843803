-- An element reads as its own words do.
-- Assumes nothing.
use Prim.Native.Nat.{ℕ, ◌+◌, ◌*◌, min}
use mathlib.Core.Path.{◌≡◌, sym, ap, ap₂, ◌∙◌}
use mathlib.Core.List.{List}
use native.Mathlib.Omega.{arith}
use lib.ListN.{length}
use lib.Seq.{take_all}
use Rattle.words.specs.Runs.{part, splice}
use Rattle.words.proofs.Parts.{length_part}
use Rattle.element.specs.Bytes.{length_of, read_count, rx_read, read_bytes}
use Rattle.element.specs.Headers.{frame_in, rx_header_in, headed}
use Rattle.element.specs.Promises.{ReadsAlike}
use Rattle.element.specs.declared.RxRead.{RxRead}
use Rattle.element.proofs.OwnWords.{own_words}
use Rattle.places.specs.Areas.{place_in, words_at, HasPlace}
use Rattle.places.specs.declared.Area.{Area}
use Rattle.places.proofs.Rooms.{place_room}
use Rattle.areas.specs.Areas.{data_words}
use Rattle.shape.specs.Calls.{answers, effected}
use Rattle.shape.specs.Histories.{told}
use Rattle.engine.specs.Calls.{World}
use Rattle.taking.specs.Reading.{reads}

module _ (mem : List ℕ) (a : Area) (place : ℕ) (p : HasPlace a place (length mem)) (ws : List ℕ)
    (there : words_at a place mem ≡ ws) where
  size : length ws ≡ a.each
  size = ap length (sym there) ∙ length_part (place_in a place) a.each mem (place_room a place (length mem) p)

  alone : part (place_in a place) (2 + data_words a) mem ≡ part 0 (2 + data_words a) ws
  unfolding part
  alone =
      let n : 2 + data_words a ≡ a.each = omega (arith, p.room.header) in
      rw n (there ∙ sym (take_all a.each ws (omega (arith, size))))

  words_alike : ReadsAlike mem ws (place_in a place) 0 (data_words a)
  words_alike = own_words mem ws (place_in a place) 0 (data_words a) alone

  read_header : rx_read mem (place_in a place) (data_words a) ≡ rx_read ws 0 (data_words a)
  unfolding rx_read read_count
  read_header =
      ap₂ (λ (x y : ℕ). record { header = rx_header_in x y; count = min (length_of (frame_in x y)) (4 * data_words a) })
      words_alike.first words_alike.second

  pub headed_alone : {A : Type 0} (header : ℕ → ℕ → A) → headed header mem (place_in a place) ≡ headed header ws 0
  headed_alone header = ap₂ header words_alike.first words_alike.second

pub read_alone : (w : World) (a : Area) (place : ℕ) → HasPlace a place (length w.memory) → (ws : List ℕ)
    → words_at a place w.memory ≡ ws → (out : List ℕ)
    → told (effected (reads w a place out))
    ≡ record { says = answers (rx_read ws 0 (data_words a)); output = splice out 0 (read_bytes ws 0 (data_words a)) }
unfolding reads
read_alone w a place p ws there out =
    ap₂ (λ (h : RxRead) (bytes : List ℕ). record { says = answers h; output = splice out 0 bytes })
    (read_header w.memory a place p ws there) (words_alike w.memory a place p ws there).read
