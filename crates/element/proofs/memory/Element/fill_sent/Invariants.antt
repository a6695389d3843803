-- The bytes so far are those as sent.
use Rattle.std.proofs.Common.{◌≡◌, ◌+◌, ◌<◌, ℕ, get_or}
use Rattle.element.specs.Bytes.{sent_byte}
use Rattle.element.proofs.memory.Element.fill_sent.Given as goal

abbrev pub invariant-loop-i : goal.invariant-loop-i
invariant-loop-i l =
    (k : ℕ) → k < l.i → get_or l.out k 0 ≡ sent_byte l.mem l.self.at.0 l.self.words (l.first + k)
