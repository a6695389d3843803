-- An accepted start gives a fit state, empty in every part.
-- Assumes nothing.
use Prim.Native.Nat.{ℕ, ◌+◌, ◌%◌, ◌^◌}
use mathlib.Core.Path.{◌≡◌, refl, sym, ap, subst, ◌∙◌}
use mathlib.Core.Bool.{false}
use native.Mathlib.Nat.{zero-div}
use native.Mathlib.Omega.{arith}
use lib.Dec.{eqb}
use lib.ListN.{length}
use lib.Pow.{pow_pos}
use Rattle.words.specs.Bits.{bit}
use Rattle.words.specs.Rules.{allowed, first}
use Rattle.shape.specs.Calls.{done}
use Rattle.shape.proofs.Calls.{call_cases, call_answers}
use Rattle.ring.specs.Rings.{none_held}
use Rattle.ring.proofs.Fitness.{fit_none}
use Rattle.ring.proofs.Holding.{empty_not_held}
use Rattle.registers.specs.Fields.{fifo_size, event_size, dedicated}
use Rattle.registers.specs.declared.Registers.{Registers}
use Rattle.layout.specs.Verdict.{rules, verdict}
use Rattle.layout.proofs.Accepted.{accepted_is_legal}
use Rattle.engine.specs.Calls.{Outcome, is_unfit}
use Rattle.engine.specs.Fitness.{shared_ring_size, unfit, Sound}
use Rattle.engine.specs.States.{empty_state, no_flags}
use Rattle.engine.proofs.Cases.{shared_most}
use Rattle.engine.proofs.Sounds.{fit_of}
use Rattle.starting.specs.Promises.{StartIsFit, Fresh, StartIsFresh}
use Rattle.starting.specs.Starting.{unreported, starts}

no_bit : (k : ℕ) → bit 0 k ≡ 0
no_bit k = ap (λ (x : ℕ). x % 2) (zero-div (2 ^ k))

empty_sound : (regs : Registers) (words : ℕ) → verdict regs words ≡ allowed → Sound (empty_state regs) words
empty_sound regs words e = record {
  legal = (accepted_is_legal regs words).0 e;
  fifo0 = fit_none (fifo_size regs 0) (omega arith);
  fifo1 = fit_none (fifo_size regs 1) (omega arith);
  events = fit_none (event_size regs) (omega arith);
  shared = fit_none (shared_ring_size regs) (omega (arith, shared_most regs));
  pending = pow_pos _;
  sent = pow_pos _;
  cancelled = pow_pos _;
  newdata = pow_pos _;
  held_bits =
      λ p h. ap (λ (x : ℕ). eqb x 1) (no_bit (dedicated regs + p))
      ∙ sym (empty_not_held none_held (shared_ring_size regs) p refl);
}

pub empty_is_fit : (regs : Registers) (words : ℕ) → verdict regs words ≡ allowed
    → unfit (empty_state regs) no_flags words ≡ false
empty_is_fit regs words e = fit_of (empty_state regs) no_flags words (empty_sound regs words e) (λ k f. no_bit k)

-- the verdict is the first of the layout's rules
pub start_ruled : (g : Registers) (words : ℕ) → first (rules g words) ≡ verdict g words
unfolding verdict
start_ruled g words = refl

pub start_is_fit : StartIsFit
start_is_fit w g =
    call_cases w unreported (rules g (length w.memory)) (starts w g)
    (λ (o : Outcome (Unit {0})). o.says ≡ done → is_unfit o.world ≡ false)
    (λ n e. let z : ◌≡◌ {A = ℕ} 0 1 = cc in absurd (omega arith))
    (λ e said. fit_of (starts w g).world.state (starts w g).world.recorded (length w.memory)
    (empty_sound g (length w.memory) (sym (start_ruled g (length w.memory)) ∙ e)) (λ k f. no_bit k))

pub start_is_fresh : StartIsFresh
start_is_fresh w g e =
    let rows = rules g (length w.memory) in
    subst (λ (o : Outcome (Unit {0})). Fresh g w.memory o.world)
    (sym (call_answers w unreported rows (starts w g) tt e).1)
    (record {
      registers = refl;
      fifo0 = record { oldest = refl; fill = refl };
      fifo1 = record { oldest = refl; fill = refl };
      events = record { oldest = refl; fill = refl };
      shared = record { oldest = refl; fill = refl };
      newdata = refl;
      pending = refl;
      sent = refl;
      cancelled = refl;
      flags = refl;
      priority = refl;
      unwritten = refl;
    })
