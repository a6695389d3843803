-- The ring fits, and the slot is one of the FIFO's places.
use Rattle.std.proofs.Common.{rules}
use Rattle.receiving.proofs.Takes.{ring_ready, put_ready, note_ready}
use Rattle.receiving.proofs.receive.into_fifo.Goals as goal

pub keep_in-kept-requires : goal.keep_in-kept-requires
keep_in-kept-requires c = search (ring_ready, rules)

pub put-requires : goal.put-requires
put-requires c = search (put_ready, rules)

pub note_slot-requires : goal.note_slot-requires
note_slot-requires c = search (note_ready, rules)
