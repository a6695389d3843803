-- One more byte.
use Rattle.std.proofs.Common.{rules, arith, below_more, length, ◌<◌, ◌≢◌, get_or-set_other, get_or-set_same}
use Rattle.words.specs.Bytes.{byte_in}
use Rattle.words.proofs.bytes.fill_bytes.Goals as goal

pub loop-i-preserved : goal.loop-i-preserved
unfolding byte_in
loop-i-preserved c =
    below_more _ _
    (λ k h. let ne : k ≢ c.loop-i.i = omega arith in rw get_or-set_other (c.loop-i.invariant k h))
    (let lt : c.loop-i.i < length c.loop-i.out = omega arith in rw get_or-set_same (search rules))
