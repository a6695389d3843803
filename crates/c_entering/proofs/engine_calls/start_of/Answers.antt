-- What is taken from the words is what stands there.
use Rattle.c_entering.proofs.Starts.{start_taken}
use Rattle.c_entering.proofs.engine_calls.start_of.Goals as goal

pub returns : goal.returns
returns c =
    start_taken _ _ _ _ _ _ _ _ c.take_any_state-s.ensures c.take_record-r.ensures c.take_registers.ensures c.start.ensures
