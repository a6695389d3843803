-- A frame and a request as words, and back.
use Rattle.std.specs.Prelude.{ℕ, Bool, ◌&&◌, List, [], ◌∷◌}
use Rattle.frame.specs.declared.Frame.{Frame}
use Rattle.element.specs.declared.TxHeader.{TxHeader}
use Rattle.c_words.specs.Words.{word, yes_no, says_yes, is_yes_no}

-- 7 words: identifier, 29-bit, remote, FDF, BRS, ESI, DLC
abbrev pub unpack_frame : List ℕ → Frame
unpack_frame ws = record {
  id = word ws 0;
  xtd = says_yes (word ws 1);
  rtr = says_yes (word ws 2);
  fdf = says_yes (word ws 3);
  brs = says_yes (word ws 4);
  esi = says_yes (word ws 5);
  dlc = word ws 6;
}

-- 1 to 5 say yes or no
abbrev pub plain_frame : List ℕ → Bool
plain_frame ws =
    is_yes_no (word ws 1) && is_yes_no (word ws 2) && is_yes_no (word ws 3) && is_yes_no (word ws 4) && is_yes_no (word ws 5)

unfoldable pub pack_frame : Frame → List ℕ
pack_frame f =
    f.id ∷ yes_no f.xtd ∷ yes_no f.rtr ∷ yes_no f.fdf ∷ yes_no f.brs ∷ yes_no f.esi ∷ f.dlc ∷ []

-- what a request brings: a frame's words, the marker, and a word that says whether an event is wanted
abbrev pub unpack_request : List ℕ → ℕ → ℕ → TxHeader
unpack_request ws marker wish = record { frame = unpack_frame ws; marker = marker; wish = says_yes wish }
