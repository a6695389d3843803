-- Flags that are raised: one, those of a ring, those of two lists together. FIFO 0, FIFO 1 and events alike.
-- Assumes nothing.
use Rattle.std.specs.Option.{is_some, is_none}
use Rattle.std.proofs.Math.Bool.{or-false}
use Prim.Native.Nat.{ℕ, ◌+◌}
use mathlib.Core.Path.{◌≡◌, refl, sym, ap, ◌∙◌}
use mathlib.Core.Bool.{Bool, true, false, ◌&&◌, ◌||◌}
use mathlib.Core.List.{[], ◌∷◌, ◌++◌}
use borrow.Author.Tests.{lt-ltb, le-ltb}
use native.Mathlib.Omega.{arith}
use lib.Dec.{eqb}
use Rattle.words.specs.Bits.{is_set, with_bit}
use Rattle.words.proofs.BitLaws.{set_same, set_other}
use Rattle.ring.specs.declared.Ring.{Ring}
use Rattle.engine.specs.Flags.{raised, raised_if, filling}
use Rattle.engine.specs.Keeping.{keep_rule}
use Rattle.engine.specs.declared.keeping.Keeper.{Keeper}
use Rattle.engine.specs.declared.keeping.Kept.{Kept}
use Rattle.engine.specs.declared.state.Record.{Record}
use Rattle.engine.proofs.Keeps.{keep_cases}
use Rattle.handler.specs.Records.{Raises, raises, ring_raises}

-- a flag that no call clears
pub kept : (a c : Bool) → (a || c) ≡ (a && true || c)
kept a c = grind arith

-- ---- one flag

set_flag : (w flag n : ℕ) → is_set (with_bit w flag) n ≡ (is_set w n || eqb n flag)
set_flag w flag n = grind (arith, set_same w flag, set_other w flag n)

pub raised_up : (r : Record) (flag n : ℕ) → is_set (raised r flag).flags n ≡ (is_set r.flags n || eqb n flag)
unfolding raised
raised_up r flag n = set_flag r.flags flag n

pub raised_if_up : (r : Record) (on : Bool) (flag n : ℕ)
    → is_set (raised_if r on flag).flags n ≡ (is_set r.flags n || (on && eqb n flag))
raised_if_up r true flag n = raised_up r flag n
raised_if_up r false flag n = sym (or-false (is_set r.flags n))

-- ---- lists of flags

pub raises_both : (a b : Raises) (n : ℕ) → raises (a ++ b) n ≡ (raises a n || raises b n)
raises_both [] b n = refl
raises_both (f ∷ fs) b n = grind (arith, raises_both fs b n)

-- ---- a ring

-- one that is as it was, with nothing new or lost
pub quiet : (first mark size fill n : ℕ) → raises (ring_raises first mark size fill fill false false) n ≡ false
quiet first mark size fill n = let e = le-ltb fill fill (omega arith) in simp e

four : (r a b c : Bool) → (((r || a) || b) || c) ≡ (r || (a || (b || (c || false))))
four r a b c = grind (arith)

module _ (k : Keeper) (q : Ring) (r : Record) (n : ℕ) where
  abbrev Told : Kept → Type 0
  Told x =
      is_set x.recorded.flags n
      ≡ (is_set r.flags n
      || raises
      (ring_raises k.first k.mark k.size q.fill x.ring.fill (is_some x.slot) (is_none x.slot)) n)

  filling_up : (first fill mark size : ℕ)
      → is_set (filling r first fill mark size).flags n
      ≡ (((is_set r.flags n || eqb n first) || (eqb fill mark && eqb n (first + 1)))
      || (eqb fill size && eqb n (first + 2)))
  unfolding filling
  filling_up first fill mark size =
      raised_if_up _ (eqb fill size) (first + 2) n
      ∙ ap (λ (x : Bool). x || (eqb fill size && eqb n (first + 2)))
      (raised_if_up _ (eqb fill mark) (first + 1) n
      ∙ ap (λ (x : Bool). x || (eqb fill mark && eqb n (first + 1))) (raised_up r first n))

  -- a ring whose fill stays raises one flag
  alone : (flag : ℕ) → (is_set r.flags n || eqb n flag) ≡ (is_set r.flags n || (eqb n flag || false))
  alone flag = ap (λ (x : Bool). is_set r.flags n || x) (sym (or-false (eqb n flag)))

  pub ring_told : Told (keep_rule k q r)
  ring_told =
      let rose = lt-ltb q.fill (q.fill + 1) (omega arith) in
      let stayed = le-ltb q.fill q.fill (omega arith) in
      keep_cases k q r Told
      (λ h.
      filling_up k.first (q.fill + 1) k.mark k.size
      ∙ four (is_set r.flags n) (eqb n k.first) _ _
      ∙ simp rose)
      (raised_up r (k.first + 3) n ∙ simp stayed (alone (k.first + 3)))
      (λ h. raised_up r k.first n ∙ simp stayed (alone k.first))
