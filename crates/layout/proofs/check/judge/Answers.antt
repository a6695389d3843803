-- An accepted layout is legal, so that its sections can be laid out.
use borrow.Author.Rules.{rules}
use Rattle.layout.proofs.Accepted.{legal_buffers}
use Rattle.layout.proofs.check.judge.Goals as goal

pub sections-requires : goal.sections-requires
sections-requires c = search (legal_buffers, rules)
