-- The bytes below i are those of the words.
use Rattle.std.proofs.Common.{◌≡◌, ℕ, ◌<◌, get_or}
use Rattle.words.specs.Bytes.{byte_in}
use Rattle.words.proofs.bytes.fill_bytes.Given as goal

abbrev pub invariant-loop-i : goal.invariant-loop-i
invariant-loop-i l = (j : ℕ) → j < l.i → get_or l.out j 0 ≡ byte_in l.words 0 j
