-- The filter index that is told is one of 128.
use Rattle.c_receiving.proofs.Bounds.{fate_told}
use Rattle.c_receiving.proofs.receives.receive.Goals as goal

pub fate_words-requires : goal.fate_words-requires
fate_words-requires c = fate_told _ _ _ _ _ _ _ c.in_ok-after.ensures
