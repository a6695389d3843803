-- No two answers of the code mean the same.
-- Assumes nothing.
use Prim.Native.Nat.{ℕ}
use mathlib.Core.Path.{◌≡◌, refl, sym, ap, ◌∙◌}
use lib.Dec.{eqb}
use Rattle.words.specs.Choice.{pick}
use Rattle.filter.specs.Destination.{Goes, to_fifo, to_buffer, discarded, reason, meaning}
use Rattle.filter.specs.Promises.{OneAnswer}
use Rattle.filter.specs.declared.Reason.{Reason}
use Rattle.filter.specs.declared.Reason.TheVariants.{Remote, Reject, NoMatch, PriorityOnly, Debug, Misfiled}
use Rattle.filter.specs.declared.Reason.TheVariants.{Locked}
use Rattle.filter.specs.declared.Destination.{Destination}
use Rattle.filter.specs.declared.Destination.TheVariants.{Fifo, Buffer, Discarded}

-- the reason of a number, and the answer that has a meaning
abbrev pub reason_of : ℕ → Reason
reason_of n =
    pick (eqb n 0) Remote
    (pick (eqb n 1) Reject
    (pick (eqb n 2) NoMatch
    (pick (eqb n 3) PriorityOnly
    (pick (eqb n 4) Debug
    (pick (eqb n 5) Misfiled Locked)))))

abbrev answer : Goes → Destination
answer (to_fifo k priority m) = Fifo k priority m
answer (to_buffer b i) = Buffer b i
answer (discarded why m) = Discarded (reason_of why) m

pub reason_back : (r : Reason) → reason_of (reason r) ≡ r
reason_back Remote = refl
reason_back Reject = refl
reason_back NoMatch = refl
reason_back PriorityOnly = refl
reason_back Debug = refl
reason_back Misfiled = refl
reason_back Locked = refl

back : (d : Destination) → answer (meaning d) ≡ d
back (Fifo k priority m) = refl
back (Buffer b i) = refl
back (Discarded why m) = ap (λ (r : Reason). Discarded r m) (reason_back why)

pub one_answer : OneAnswer
one_answer a b e = sym (back a) ∙ ap answer e ∙ back b
