-- Call 10, ask the choice: the best candidate in arbitration, and its frame as it is sent.
use Rattle.std.specs.Prelude.{ℕ, ◌+◌, Option, Some, None, Bool, ◌&&◌, List, [], ◌∷◌, ◌++◌, eqb, ltb, length}
use Rattle.words.specs.Choice.{pick}
use Rattle.words.specs.Best.{Best, nobody, somebody, best_below}
use Rattle.words.specs.Runs.{splice}
use Rattle.frame.specs.Arbitration.{rank_of}
use Rattle.frame.specs.Sent.{as_sent}
use Rattle.frame.specs.declared.Frame.{Frame}
use Rattle.registers.specs.Fields.{dedicated, tx_count, is_queue}
use Rattle.registers.specs.declared.Registers.{Registers}
use Rattle.element.specs.Bytes.{length_of, sent_from}
use Rattle.places.specs.Areas.{place_in}
use Rattle.areas.specs.Areas.{tx_area, data_words}
use Rattle.shape.specs.Calls.{effect, call}
use Rattle.shape.specs.Refusals.{Refusals}
use Rattle.engine.specs.Buffers.{is_pending}
use Rattle.engine.specs.Calls.{World, Outcome, Effect, ◌when◌, is_unfit, output_refusals}
use Rattle.engine.specs.declared.state.State.{State}
use Rattle.choosing.specs.Buffers.{header_of}
use Rattle.choosing.specs.declared.asking.Chosen.{Chosen}

-- ---- which buffer

-- a dedicated or a queue buffer stands while it is pending; of a shared FIFO only the oldest does
unfoldable pub is_candidate : State → ℕ → Bool
is_candidate s buffer =
    pick (ltb buffer (dedicated s.regs)) (is_pending s buffer)
    (pick (is_queue s.regs) (is_pending s buffer)
    (ltb 0 s.shared.fill && eqb buffer (dedicated s.regs + s.shared.oldest)))

-- a buffer's rank, from its element's words
abbrev pub rank_at : State → List ℕ → ℕ → ℕ
rank_at s mem buffer = rank_of (header_of s mem buffer).frame

-- the smallest rank, and on a tie the lower buffer number
unfoldable pub choice : State → List ℕ → Best
choice s mem = best_below (is_candidate s) (rank_at s mem) (tx_count s.regs)

-- ---- what is told of it

-- a frame as it is sent, by the registers and the error-passive input
abbrev pub form_sent : Registers → Frame → Bool → Frame
form_sent g f passive = as_sent f g.fdon g.rateon passive

abbrev pub sent_frame : State → List ℕ → Bool → ℕ → Frame
sent_frame s mem passive buffer = form_sent s.regs (header_of s mem buffer).frame passive

abbrev pub chosen_of : State → List ℕ → Bool → ℕ → Chosen
chosen_of s mem passive buffer =
    let h = header_of s mem buffer in
    let f = sent_frame s mem passive buffer in
    record { buffer = buffer; marker = h.marker; wish = h.wish; frame = f; count = length_of f }

-- its bytes as they are sent
abbrev pub bytes_of : State → List ℕ → Bool → ℕ → List ℕ
bytes_of s mem passive buffer =
    let a = tx_area s.regs in
    sent_from mem (place_in a buffer) (data_words a) (length_of (sent_frame s mem passive buffer))

-- nothing to send, or the frame to send
pub data Next : Type 0 where
  none : Next
  send : Chosen → Next

abbrev pub next_of : State → List ℕ → Bool → Best → Next
next_of s mem passive nobody = none
next_of s mem passive (somebody buffer) = send (chosen_of s mem passive buffer)

-- the bytes to send go to the front of the output, and the rest stays
abbrev pub output_of : State → List ℕ → Bool → List ℕ → Best → List ℕ
output_of s mem passive out nobody = out
output_of s mem passive out (somebody buffer) = splice out 0 (bytes_of s mem passive buffer)

-- what the code answers
abbrev pub next : Option Chosen → Next
next None = none
next (Some c) = send c

-- ---- the call

-- what is against it, but for 30
unfoldable pub choice_refusals : World → Refusals
choice_refusals w = 20 when is_unfit w ∷ []

unfoldable pub chooses : World → Bool → List ℕ → Effect Next
chooses w passive out =
    let s = w.state in
    let best = choice s w.memory in
    effect (next_of s w.memory passive best) w (output_of s w.memory passive out best)

-- call 10
abbrev pub ask_choice : World → Bool → List ℕ → Outcome Next
ask_choice w passive out = call w out (choice_refusals w ++ output_refusals (length out)) (chooses w passive out)
