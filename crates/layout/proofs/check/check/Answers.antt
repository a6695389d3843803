-- One law for each return: a number is given where the tests before it have passed.
use borrow.Author.Rules.{rules}
use borrow.Author.Tests.{not-true, not-false}
use Rattle.layout.proofs.Says.{few_buffers, says_10, says_11, says_12, says_13, says_14, says_15}
use Rattle.layout.proofs.check.check.Goals as goal

pub returns-then-wrong_memory : goal.returns-then-wrong_memory
returns-then-wrong_memory c = search (says_10, rules)

pub returns-then-not-only_named : goal.returns-then-not-only_named
returns-then-not-only_named c = search (says_11, not-true, rules)

pub returns-in-Some : goal.returns-in-Some
returns-in-Some c = search (says_12, not-false, rules)

pub returns-then-tx_count-gt-MOST : goal.returns-then-tx_count-gt-MOST
returns-then-tx_count-gt-MOST c = search (says_13, not-false, rules)

pub sections-s-requires : goal.sections-s-requires
sections-s-requires c = search (few_buffers, not-false, rules)

pub returns-in-Some-first_past : goal.returns-in-Some-first_past
returns-in-Some-first_past c = search (says_14, rules)

pub returns : goal.returns
returns c = search (says_15, not-false, rules)
