-- What is shown of all cases of keeping.
-- Assumes nothing.
use Rattle.std.proofs.Common.{Some, None}
use Prim.Native.Nat.{ℕ, ◌+◌, ◌<◌}
use mathlib.Core.Path.{◌≡◌, refl}
use borrow.Author.Tests.{lt-ltb, le-ltb}
use Rattle.ring.specs.Rings.{put_place, pushed, overwritten}
use Rattle.ring.specs.declared.Ring.{Ring}
use Rattle.places.specs.Slots.{take_rule}
use Rattle.places.specs.declared.Taken.{Taken}
use Rattle.places.proofs.Takes.{take_cases, taken_within}
use Rattle.engine.specs.Flags.{raised, filling}
use Rattle.engine.specs.Keeping.{kept_flags, keep_rule}
use Rattle.engine.specs.Needs.{CanKeep}
use Rattle.engine.specs.declared.keeping.Keeper.{Keeper}
use Rattle.engine.specs.declared.keeping.Kept.{Kept}
use Rattle.engine.specs.declared.state.Record.{Record}

-- it is lost, with its flag, and nothing else changes
abbrev pub losing : Keeper → Ring → Record → Kept
losing k q r = record { slot = None; ring = q; recorded = raised r (k.first + 3) }

-- what is shown of every case is shown of what is kept
module _ (k : Keeper) (q : Ring) (r : Record) (P : Kept → Type 0)
    (put : q.fill < k.size
    → P (record {
      slot = Some (put_place q k.size);
      ring = pushed q;
      recorded = filling r k.first (q.fill + 1) k.mark k.size;
    }))
    (lost : P (losing k q r))
    (over : 0 < k.size
    → P (record { slot = Some q.oldest; ring = overwritten q k.size; recorded = raised r k.first })) where
  pub keep_cases : P (keep_rule k q r)
  unfolding keep_rule kept_flags
  keep_cases =
      take_cases k.size k.overwrites q
      (λ (t : Taken). P (record { slot = t.slot; ring = t.ring; recorded = kept_flags k q.fill t.slot r }))
      (λ h. rw (lt-ltb q.fill k.size h) (put h))
      (λ h z. rw (le-ltb q.fill k.size h) lost)
      (λ h s z. rw (le-ltb q.fill k.size h) (over s))

-- slot and ring are those of the rule without flags
pub kept_slot : (k : Keeper) (q : Ring) (r : Record) → (keep_rule k q r).slot ≡ (take_rule k.size k.overwrites q).slot
unfolding keep_rule
kept_slot k q r = refl

pub kept_ring : (k : Keeper) (q : Ring) (r : Record) → (keep_rule k q r).ring ≡ (take_rule k.size k.overwrites q).ring
unfolding keep_rule
kept_ring k q r = refl

-- a slot's place is one of the ring's
pub kept_within : (k : Keeper) (q : Ring) (r : Record) → CanKeep k q → (p : ℕ) → (keep_rule k q r).slot ≡ Some p
    → p < k.size
unfolding keep_rule
kept_within k q r h p e = taken_within k.size k.overwrites q h.ring p e
