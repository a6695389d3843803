-- A sound state has the buffer's words.
use Rattle.std.proofs.Common.{rules}
use Rattle.receiving.proofs.Takes.{buffer_ready}
use Rattle.receiving.proofs.receive.into_buffer.Goals as goal

pub store_at-requires : goal.store_at-requires
store_at-requires c = search (buffer_ready, rules)
