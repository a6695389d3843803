-- A sound record stays sound under the steps on it, and so does what a ring of elements keeps.
-- Assumes nothing.
use Prim.Native.Nat.{ℕ, ◌+◌, ◌≤◌}
use mathlib.Core.Path.{◌≡◌, refl, sym, ap, ◌∙◌}
use mathlib.Core.Bool.{Bool, true, false, ◌&&◌, ◌||◌}
use borrow.Author.Tests.{le-leb}
use native.Mathlib.Omega.{arith}
use lib.Dec.{eqb, leb}
use Rattle.words.specs.Choice.{pick}
use Rattle.words.specs.Fields.{in_field}
use Rattle.words.proofs.BitLaws.{set_other}
use Rattle.ring.specs.Rings.{Fit}
use Rattle.ring.specs.declared.Ring.{Ring}
use Rattle.ring.proofs.Fitness.{fit_pushed, fit_overwritten}
use Rattle.engine.specs.Fitness.{flag_fields, FlagsSound}
use Rattle.engine.specs.Flags.{raised, raised_if, with_priority, filling}
use Rattle.engine.specs.Keeping.{keep_rule}
use Rattle.engine.specs.declared.keeping.Keeper.{Keeper}
use Rattle.engine.specs.declared.keeping.Kept.{Kept}
use Rattle.engine.specs.declared.state.Record.{Record}
use Rattle.engine.proofs.Keeps.{keep_cases}

-- ---- the flags

-- the flags 0 to 15 exist
pub flag_named : (n : ℕ) → n ≤ 15 → in_field flag_fields n ≡ true
flag_named n h = simp (le-leb n 15 h, le-leb 0 n (omega arith)) (or_true (leb 19 n && leb n 19))
  where
    or_true : (a : Bool) → (a || (true || false)) ≡ true
    or_true true = refl
    or_true false = refl

pub raised_sound : (r : Record) (flag : ℕ) → in_field flag_fields flag ≡ true → FlagsSound r → FlagsSound (raised r flag)
unfolding raised
raised_sound r flag e h k n =
    set_other r.flags flag k
    (λ z. let y : true ≡ false = sym e ∙ sym (ap (in_field flag_fields) z) ∙ n in
    let x : ◌≡◌ {A = ℕ} 0 1 = cc in
    omega arith)
    ∙ h k n

-- one of two records
pub either_sound : (b : Bool) (r q : Record) → FlagsSound r → FlagsSound q → FlagsSound (pick b r q)
either_sound true r q h k = h
either_sound false r q h k = k

pub raised_if_sound : (r : Record) (b : Bool) (flag : ℕ) → in_field flag_fields flag ≡ true → FlagsSound r
    → FlagsSound (raised_if r b flag)
raised_if_sound r b flag e h = either_sound b (raised r flag) r (raised_sound r flag e h) h

pub filling_sound : (r : Record) (first fill mark size : ℕ) → first ≤ 12 → FlagsSound r
    → FlagsSound (filling r first fill mark size)
unfolding filling
filling_sound r first fill mark size l h =
    let named : (n : ℕ) → n ≤ 2 → in_field flag_fields (first + n) ≡ true = λ n k. flag_named (first + n) (omega arith) in
    raised_if_sound _ (eqb fill size) (first + 2) (named 2 (omega arith))
    (raised_if_sound _ (eqb fill mark) (first + 1) (named 1 (omega arith))
    (raised_sound r first (flag_named first (omega arith)) h))

pub priority_sound : (r : Record) (word : ℕ) → FlagsSound r → FlagsSound (with_priority r word)
unfolding with_priority
priority_sound r word h = h

-- ---- what a ring keeps

module _ (k : Keeper) (q : Ring) (r : Record) where
  pub kept_fit : Fit q k.size → Fit (keep_rule k q r).ring k.size
  kept_fit h =
      keep_cases k q r (λ (c : Kept). Fit c.ring k.size)
      (λ l. fit_pushed q k.size h l) h (λ l. fit_overwritten q k.size h l)

  pub kept_flags_sound : k.first ≤ 12 → FlagsSound r → FlagsSound (keep_rule k q r).recorded
  kept_flags_sound l h =
      keep_cases k q r (λ (c : Kept). FlagsSound c.recorded)
      (λ x. filling_sound r k.first (q.fill + 1) k.mark k.size l h)
      (raised_sound r (k.first + 3) (flag_named (k.first + 3) (omega arith)) h)
      (λ x. raised_sound r k.first (flag_named k.first (omega arith)) h)
