-- Demand 2, whole.
-- Assumes nothing.
use Rattle.handler.specs.Demand2.{TheManualDecides}
use Rattle.handler.proofs.Demand2Choice.{choice_told}
use Rattle.handler.proofs.Demand2Frames.{frames_told}
use Rattle.handler.proofs.Demand2Layouts.{layouts_told}
use Rattle.handler.proofs.Demand2Memory.{memory_told}

pub the_manual_decides : TheManualDecides
the_manual_decides w =
    record { layouts = layouts_told w; frames = frames_told w; memory = memory_told w; choice = choice_told w }
