-- The first i lines are read, and their numbers are the words; what follows them is left.
use Rattle.std.proofs.Common.{◌≡◌, ◌*◌, length, drop}
use Rattle.std.specs.Iterator.Adapters.{enumerate_count, enumerate_source}
use Rattle.std.specs.Slice.Iter.{chunks_exact_rest, chunks_exact_size}
use Rattle.printout.proofs.Lines.{Lines}
use Rattle.printout.proofs.reading.registers.Given as goal

abbrev pub invariant-loop-i : goal.invariant-loop-i
invariant-loop-i l =
    Lines l.input l.words (enumerate_count l.i-iterator)
    × (length l.words ≡ 12)
    × (chunks_exact_size (enumerate_source l.i-iterator) ≡ 9)
    × (chunks_exact_rest (enumerate_source l.i-iterator) ≡ drop (9 * enumerate_count l.i-iterator) l.input)
