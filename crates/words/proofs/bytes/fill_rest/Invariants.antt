-- The words below k are those of the data from word first of it on.
use Rattle.std.proofs.Common.{◌≡◌, ℕ, ◌<◌, ◌+◌, get_or}
use Rattle.words.specs.Bytes.{word_of}
use Rattle.words.proofs.bytes.fill_rest.Given as goal

abbrev pub invariant-loop-k : goal.invariant-loop-k
invariant-loop-k l = (i : ℕ) → i < l.k → get_or l.words i 0 ≡ word_of l.bytes (l.first + i)
