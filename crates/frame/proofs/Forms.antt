-- Not malformed is well formed.
-- Assumes nothing.
use Prim.Native.Nat.{ℕ, ◌≤◌}
use mathlib.Core.Path.{◌≡◌, refl, ap}
use mathlib.Core.Bool.{Bool, true, false, not, ◌&&◌, ◌||◌}
use lib.Dec.{ltb, eqb}
use Rattle.std.proofs.lemmas.Bool.{ltb-false, eqb-true, le-ltb, eq-eqb, not-false, or_parts, or_from, or_left, or_right}
use Rattle.frame.specs.Identifier.{most_id}
use Rattle.frame.specs.Length.{data_length}
use Rattle.frame.specs.Malformed.{malformed, WellFormed}
use Rattle.frame.specs.declared.Frame.{Frame}

-- a test that excludes another
excludes : (a b : Bool) → (a && b) ≡ false → a ≡ true → b ≡ false
excludes true b e h = e
excludes false b e h = cc

excluded : (a b : Bool) → (a ≡ true → b ≡ false) → (a && b) ≡ false
excluded true b h = h refl
excluded false b h = refl

-- the first two grounds say that the identifier is within its kind
in_kind : (xtd : Bool) (id : ℕ) → (not xtd && ltb 0x7FF id) ≡ false → (xtd && ltb 0x1FFFFFFF id) ≡ false
    → id ≤ most_id xtd
in_kind true id p q = ltb-false 0x1FFFFFFF id q
in_kind false id p q = ltb-false 0x7FF id p

short_kept : (xtd : Bool) (id : ℕ) → id ≤ most_id xtd → (not xtd && ltb 0x7FF id) ≡ false
short_kept true id h = refl
short_kept false id h = le-ltb 0x7FF id h

long_kept : (xtd : Bool) (id : ℕ) → id ≤ most_id xtd → (xtd && ltb 0x1FFFFFFF id) ≡ false
long_kept true id h = le-ltb 0x1FFFFFFF id h
long_kept false id h = refl

-- BRS or ESI only in FD
only_fd : (brs esi fdf : Bool) → (brs ≡ true → fdf ≡ true) → (esi ≡ true → fdf ≡ true)
    → ((brs || esi) && not fdf) ≡ false
only_fd true esi fdf h k = ap not (h refl)
only_fd false true fdf h k = ap not (k refl)
only_fd false false fdf h k = refl

module _ (f : Frame) (len : ℕ) where
  pub well_formed : malformed f len ≡ false → WellFormed f len
  unfolding malformed
  well_formed e =
      let rest = or_parts _ _ e in
      let flags = or_parts _ _ rest.0 in
      let remote = or_parts _ _ flags.0 in
      let dlc = or_parts _ _ remote.0 in
      let id = or_parts _ _ dlc.0 in
      record {
        id = record { within = in_kind f.xtd f.id id.0 id.1 };
        dlc = ltb-false 15 f.dlc dlc.1;
        remote = excludes f.fdf f.rtr remote.1;
        switch =
            λ h. not-false f.fdf
            (excludes (f.brs || f.esi) (not f.fdf) flags.1 (or_left f.brs f.esi h));
        passive =
            λ h. not-false f.fdf
            (excludes (f.brs || f.esi) (not f.fdf) flags.1 (or_right f.brs f.esi h));
        length =
            eqb-true len (data_length f.rtr f.fdf f.dlc)
            (not-false (eqb len (data_length f.rtr f.fdf f.dlc)) rest.1);
      }

  pub not_malformed : WellFormed f len → malformed f len ≡ false
  unfolding malformed
  not_malformed w =
      or_from _ _
      (or_from _ _
      (or_from _ _
      (or_from _ _
      (or_from _ _ (short_kept f.xtd f.id w.id.within) (long_kept f.xtd f.id w.id.within))
      (le-ltb 15 f.dlc w.dlc))
      (excluded f.fdf f.rtr w.remote))
      (only_fd f.brs f.esi f.fdf w.switch w.passive))
      (ap not (eq-eqb len (data_length f.rtr f.fdf f.dlc) w.length))
