-- Two memories with the same words in some sections: after the same store they still have, and so after the same call.
-- Assumes nothing.
use Prim.Native.Nat.{ℕ, ◌+◌, ◌-◌, ◌≤◌}
use mathlib.Core.Path.{◌≡◌, refl, sym, ap, ◌∙◌, subst}
use mathlib.Core.Bool.{Bool, true, false}
use mathlib.Core.List.{List}
use borrow.Author.Tests.{ltb-true, ltb-false}
use native.Mathlib.Omega.{arith}
use lib.Dec.{ltb}
use lib.ListN.{length, get_or}
use Rattle.words.specs.Ranges.{Range}
use Rattle.words.specs.Rules.{Ruling, allowed, refused, first, settle}
use Rattle.words.specs.Runs.{splice}
use Rattle.words.proofs.Runs.{splice_length, splice_inside, splice_before, splice_after}
use Rattle.shape.specs.Calls.{refuses, outcome, effected, call}
use Rattle.shape.specs.Refusals.{Refusals}
use Rattle.shape.specs.Refusals.{Refusal as Told}
use Rattle.registers.specs.declared.Registers.{Registers}
use Rattle.areas.specs.Own.{SameSections}
use Rattle.engine.specs.Calls.{World, with_memory, Outcome, Effect, Alike}

-- ---- a store in both

module _ (l m : List ℕ) (at : ℕ) (ws : List ℕ) (a : at + length ws ≤ length l) (b : at + length ws ≤ length m) where
  -- a word that was the same is the same
  splice_alike : (k : ℕ) → get_or m k 0 ≡ get_or l k 0 → get_or (splice m at ws) k 0 ≡ get_or (splice l at ws) k 0
  splice_alike k e = go (ltb k at) refl (ltb k (at + length ws)) refl
    where
      go : (x : Bool) → ltb k at ≡ x → (y : Bool) → ltb k (at + length ws) ≡ y
          → get_or (splice m at ws) k 0 ≡ get_or (splice l at ws) k 0
      go true x y z =
          let h = ltb-true k at x in
          splice_before m at ws b k h ∙ e ∙ sym (splice_before l at ws a k h)
      go false x true y =
          let h = ltb-true k (at + length ws) y in
          let at-k : k ≡ at + (k - at) = omega (arith, ltb-false k at x) in
          ap (λ (n : ℕ). get_or (splice m at ws) n 0) at-k
          ∙ splice_inside m at ws b (k - at) (omega arith)
          ∙ sym (splice_inside l at ws a (k - at) (omega arith))
          ∙ ap (λ (n : ℕ). get_or (splice l at ws) n 0) (sym at-k)
      go false x false y =
          let h = ltb-false k (at + length ws) y in
          splice_after m at ws b k h ∙ e ∙ sym (splice_after l at ws a k h)

pub store_alike : (g : Registers) (sections : Range) (mem other : List ℕ) → SameSections g sections mem other
    → (at : ℕ) (ws : List ℕ) → at + length ws ≤ length mem
    → SameSections g sections (splice mem at ws) (splice other at ws)
store_alike g sections mem other same at ws here =
    let there : at + length ws ≤ length other = omega (arith, same.size) in
    record {
      size = splice_length other at ws there ∙ same.size ∙ sym (splice_length mem at ws here);
      words = λ i k h w. splice_alike mem other at ws here there k (same.words i k h w);
    }

-- ---- a call on both

module _ {A : Type 0} (sections : Range) (w : World) (other out : List ℕ)
    (same : SameSections w.state.regs sections w.memory other) where
  pub call_alike : (rows more : Refusals) (d e : Effect A) → first more ≡ first rows
      → (first rows ≡ allowed → Alike sections (effected d) (effected e))
      → Alike sections (call w out rows d) (call (with_memory w other) out more e)
  unfolding call
  call_alike rows more d e p through =
      subst (λ (v : Ruling Told). Alike sections (settle (first rows) (effected d) (left w)) (there v)) (sym p)
      (go (first rows) refl)
    where
      left : World → Told → Outcome A
      left v n = outcome (refuses n) v out

      there : Ruling Told → Outcome A
      there v = settle v (effected e) (left (with_memory w other))

      go : (v : Ruling Told) → first rows ≡ v → Alike sections (settle v (effected d) (left w)) (there v)
      go allowed q = through q
      go (refused n) q = record { says = refl; state = refl; recorded = refl; memory = same; output = refl }
