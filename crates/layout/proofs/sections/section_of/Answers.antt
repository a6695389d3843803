-- A law for a count of 0 and one for more.
use Rattle.layout.proofs.Says.{section_none, section_some}
use borrow.Author.Rules.{rules}
use Rattle.layout.proofs.sections.section_of.Goals as goal

pub returns-then-count-eq0 : goal.returns-then-count-eq0
returns-then-count-eq0 c = search (section_none, rules)

pub returns-else-count-eq0 : goal.returns-else-count-eq0
returns-else-count-eq0 c = search (section_some, rules)
