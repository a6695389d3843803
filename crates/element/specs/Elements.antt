-- An element's words: the two of its header, and those of its data.
use Rattle.std.specs.Prelude.{ℕ, List, [], ◌∷◌}
use Rattle.words.specs.Runs.{run}
use Rattle.words.specs.Bytes.{word_of}
use Rattle.frame.specs.declared.Frame.{Frame}
use Rattle.element.specs.Word0.{word0}
use Rattle.element.specs.Word1.{rx_word1, tx_word1, event_word1}
use Rattle.element.specs.declared.Arrival.{Arrival}
use Rattle.element.specs.declared.TxHeader.{TxHeader}

-- of n data words: data beyond them are dropped, and bytes that the data do not have are 0
unfoldable pub element : ℕ → ℕ → List ℕ → ℕ → List ℕ
element first second d n = first ∷ second ∷ run (word_of d) 0 n

abbrev pub rx_element : Arrival → List ℕ → ℕ → List ℕ
rx_element a d n = element (word0 a.frame) (rx_word1 a) d n

abbrev pub tx_element : TxHeader → List ℕ → ℕ → List ℕ
tx_element h d n = element (word0 h.frame) (tx_word1 h) d n

-- an event has no data
abbrev pub event_element : ℕ → Frame → ℕ → List ℕ
event_element marker f time = word0 f ∷ event_word1 marker f time ∷ []
