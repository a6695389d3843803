-- The bytes of the words below k stand at the front of the output, and it is as long as before.
use Rattle.std.proofs.Common.{rules, refl}
use Rattle.words.proofs.Runs.{run_none}
use Rattle.words.proofs.Moves.{word_loaded}
use Rattle.words.proofs.bytes.put_words.Goals as goal

pub loop-k-init : goal.loop-k-init
loop-k-init c = (run_none _ _ _, refl)

pub loop-k-preserved : goal.loop-k-preserved
loop-k-preserved c = (search (word_loaded, rules), search rules)
