-- The slot that the keeper gives is one of the list.
use borrow.Author.Rules.{rules}
use Rattle.reporting.proofs.Events.{event_fits}
use Rattle.reporting.proofs.event.keep_event.Goals as goal

pub write_event-requires : goal.write_event-requires
write_event-requires c = search (event_fits, rules)
