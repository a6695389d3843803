-- Every way that a receive can go: what is shown of each is shown of the effect, and of the call.
-- Assumes nothing.
use Rattle.std.proofs.Common.{Option, Some}
use Prim.Native.Nat.{ℕ, ◌≤◌, ◌<◌}
use mathlib.Core.Path.{◌≡◌}
use mathlib.Core.Bool.{Bool}
use mathlib.Core.List.{List, []}
use lib.ListN.{length}
use Rattle.words.specs.Bits.{bit}
use Rattle.shape.specs.Calls.{refuses, outcome, effected}
use Rattle.shape.specs.Refusals.{Refusal}
use Rattle.shape.proofs.Calls.{call_cases}
use Rattle.frame.specs.declared.Frame.{Frame}
use Rattle.element.specs.Fitting.{index_of}
use Rattle.filter.specs.Destination.{Goes, to_fifo, to_buffer, discarded, destination}
use Rattle.filter.specs.Promises.{Within}
use Rattle.filter.proofs.Bounds.{destination_is_within}
use Rattle.engine.specs.Calls.{World, Outcome, Effect}
use Rattle.receiving.specs.Receive.{Fate, arrival, receive_refusals, into_fifo, into_buffer, into_nothing}
use Rattle.receiving.specs.Receive.{goes_to, receives, receive}
use Rattle.receiving.proofs.Judgements.{ReceiveOpen, receive_open}
use Rattle.receiving.proofs.Lists.{legal_lists, index_small}

-- where a frame goes is within bounds
pub goes_within : (w : World) (f : Frame) (bytes : ℕ) → ReceiveOpen w f bytes
    → Within w.state.regs w.state.newdata (destination w.state.regs w.memory f w.state.newdata)
goes_within w f bytes o =
    destination_is_within w.state.regs w.memory f w.state.newdata
    (legal_lists w.state.regs (length w.memory) o.sound.legal).few

module _ (w : World) (f : Frame) (d : List ℕ) (time : ℕ) where
  module _ (passed : ReceiveOpen w f (length d)) (P : Effect Fate → Type 0)
      (fifo : (k : ℕ) (priority : Bool) (m : Option ℕ) → k ≤ 1 → index_of m < 128
      → P (into_fifo w k priority (arrival f time m) d))
      (buffer : (b i : ℕ) → b < w.state.regs.buffers → bit w.state.newdata b ≡ 0 → i < 128
      → P (into_buffer w b (arrival f time (Some i)) d))
      (nowhere : (why : ℕ) (m : Option ℕ) → index_of m < 128 → P (into_nothing w why (arrival f time m))) where
    going : (g : Goes) → Within w.state.regs w.state.newdata g → P (goes_to w f d time g)
    going (to_fifo k priority m) x = fifo k priority m x.0 (index_small m x.1)
    going (to_buffer b i) x = buffer b i x.0 x.1 x.2
    going (discarded why m) x = nowhere why m (index_small m x.1)

    pub receives_cases : P (receives w f d time)
    receives_cases =
        going (destination w.state.regs w.memory f w.state.newdata) (goes_within w f (length d) passed)

  pub receive_cases : (P : Outcome Fate → Type 0) → ((n : Refusal) → P (outcome (refuses n) w []))
      → (ReceiveOpen w f (length d) → P (effected (receives w f d time))) → P (receive w f d time)
  receive_cases P turned through =
      call_cases w [] (receive_refusals w f (length d)) (receives w f d time) P turned
      (λ e. through (receive_open w f (length d) e))
