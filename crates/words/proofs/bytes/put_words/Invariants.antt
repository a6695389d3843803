-- The bytes of the words below k stand at the front of the output, and it is as long as before.
use Rattle.std.proofs.Common.{◌≡◌, ◌*◌, length}
use Rattle.words.specs.Bytes.{byte_in}
use Rattle.words.specs.Runs.{run, splice}
use Rattle.words.proofs.bytes.put_words.Given as goal

abbrev pub invariant-loop-k : goal.invariant-loop-k
invariant-loop-k l = (l.out ≡ splice l.initial.out 0 (run (byte_in l.words 0) 0 (4 * l.k))) × (length l.out ≡ length l.initial.out)
