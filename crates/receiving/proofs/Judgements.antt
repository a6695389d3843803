-- What is known of a frame where nothing is against it.
-- Assumes nothing.
use Prim.Native.Nat.{ℕ}
use mathlib.Core.Path.{◌≡◌, sym}
use mathlib.Core.Bool.{false, not, ◌&&◌}
use mathlib.Core.List.{List}
use lib.ListN.{length}
use Rattle.words.specs.Rules.{allowed, first}
use Rattle.words.proofs.Rulings.{all_three}
use Rattle.layout.specs.Verdict.{plain}
use Rattle.frame.specs.Malformed.{malformed}
use Rattle.frame.specs.declared.Frame.{Frame}
use Rattle.element.proofs.Fitness.{frame_fits}
use Rattle.engine.specs.Calls.{World, world, is_unfit}
use Rattle.engine.specs.Fitness.{Sound}
use Rattle.engine.specs.declared.state.State.{State}
use Rattle.engine.specs.declared.state.Record.{Record}
use Rattle.engine.proofs.Sounds.{sound_of}
use Rattle.receiving.specs.Needs.{Ready}
use Rattle.receiving.specs.Receive.{receive_refusals}

pub record ReceiveOpen (w : World) (f : Frame) (bytes : ℕ) : Type 0 where
  pub fit : is_unfit w ≡ false
  pub formed : malformed f bytes ≡ false
  pub form : (f.fdf && not w.state.regs.fdon) ≡ false
  pub sound : Sound w.state (length w.memory)

pub receive_open : (w : World) (f : Frame) (bytes : ℕ) → first (receive_refusals w f bytes) ≡ allowed
    → ReceiveOpen w f bytes
unfolding receive_refusals
receive_open w f bytes e =
    let off = f.fdf && not w.state.regs.fdon in
    let p = all_three (is_unfit w) (malformed f bytes) off (plain 20) (plain 21) (plain 22) e in
    record {
      fit = p.0;
      formed = p.1;
      form = p.2;
      sound = sound_of w.state w.recorded (length w.memory) p.0;
    }

-- the same, where nothing was found
pub receive_ready : (s : State) (r : Record) (mem : List ℕ) (f : Frame) (len : ℕ)
    → allowed ≡ first (receive_refusals (world s r mem) f len) → Ready s f (length mem)
receive_ready s r mem f len e =
    let o = receive_open (world s r mem) f len (sym e) in
    record { sound = o.sound; fields = frame_fits f len o.formed }
