-- The sent element has a place.
use borrow.Author.Rules.{rules}
use Rattle.reporting.proofs.Events.{sent_place}
use Rattle.reporting.proofs.event.tell_event.Goals as goal

pub header_at-h-requires : goal.header_at-h-requires
header_at-h-requires c = search (sent_place, rules)
