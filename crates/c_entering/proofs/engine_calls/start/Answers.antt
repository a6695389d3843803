-- The sections that are named are of the seven.
use Rattle.std.proofs.Common.{rules}
use Rattle.c_entering.proofs.Names.{names_told}
use Rattle.c_entering.proofs.engine_calls.start.Goals as goal

pub named_words-requires : goal.named_words-requires
named_words-requires c = search (names_told, rules)
