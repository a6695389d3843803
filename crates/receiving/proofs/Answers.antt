-- What the code answers can be made again of what it means: no two answers mean the same.
-- Assumes nothing.
use Rattle.std.proofs.Common.{Result, Ok, Err}
use mathlib.Core.Path.{◌≡◌, refl, ap}
use Rattle.shape.specs.Calls.{Says, refuses, answers}
use Rattle.filter.specs.declared.Reason.{Reason}
use Rattle.filter.proofs.Answers.{reason_of, reason_back}
use Rattle.engine.specs.Answers.{saying, left}
use Rattle.engine.specs.declared.refusals.Refusal.{Refusal}
use Rattle.engine.specs.declared.state.State.{State}
use Rattle.engine.specs.declared.state.Record.{Record}
use Rattle.engine.proofs.Replies.{refusal_of, refusal_back}
use Rattle.receiving.specs.Receive.{Fate, stored, stored_buffer, lost_to, dropped, fate_of}
use Rattle.receiving.specs.declared.receive.AfterReceive.{AfterReceive}
use Rattle.receiving.specs.declared.receive.Received.{Received}
use Rattle.receiving.specs.declared.receive.Received.TheVariants.{Stored, StoredBuffer, Lost, Discarded}

abbrev of_fate : Fate → Received
of_fate (stored fifo place m) = Stored fifo place m
of_fate (stored_buffer buffer i) = StoredBuffer buffer i
of_fate (lost_to fifo m) = Lost fifo m
of_fate (dropped why m) = Discarded (reason_of why) m

fate_back : (a : Received) → of_fate (fate_of a) ≡ a
fate_back (Stored fifo place m) = refl
fate_back (StoredBuffer buffer i) = refl
fate_back (Lost fifo m) = refl
fate_back (Discarded why m) = ap (λ (r : Reason). Discarded r m) (reason_back why)

-- of what it says, and of what it leaves
abbrev pub received_of : Says Fate → State → Record → Result AfterReceive Refusal
received_of (answers fate) s r = Ok (record { answer = of_fate fate; state = s; recorded = r })
received_of (refuses n) s r = Err (refusal_of n.number)

pub received_back : (s : State) (r : Record) (a : Result AfterReceive Refusal)
    → received_of (saying (λ x. fate_of x.answer) a) (left (λ x. x.state) s a) (left (λ x. x.recorded) r a) ≡ a
received_back s r (Ok a) =
    ap (λ (x : Received). Ok (record { answer = x; state = a.state; recorded = a.recorded })) (fate_back a.answer)
received_back s r (Err n) = ap Err (refusal_back n)
