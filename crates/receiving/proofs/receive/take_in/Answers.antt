-- The filters give no destination out of bounds.
use Rattle.std.proofs.Common.{rules}
use Rattle.receiving.proofs.Takes.{lists_ready, fifo_ready, to_buffer_ready}
use Rattle.receiving.proofs.receive.take_in.Goals as goal

pub destination_of-requires : goal.destination_of-requires
destination_of-requires c = search (lists_ready, rules)

pub into_fifo-requires : goal.into_fifo-requires
into_fifo-requires c = fifo_ready _ _ _ c.requires _ _ _ c.in-Fifo.ensures _ (search rules) (search rules)

pub into_buffer-requires : goal.into_buffer-requires
into_buffer-requires c = to_buffer_ready _ _ _ c.requires _ _ c.in-Buffer.ensures _ (search rules) (search rules)
