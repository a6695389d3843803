-- Two stores, and those of the data, store an element.
-- Assumes nothing.
use Prim.Native.Nat.{ℕ, ◌+◌, ◌≤◌}
use mathlib.Core.Path.{◌≡◌, ap, ap₂, ◌∙◌}
use mathlib.Core.List.{List, [], ◌∷◌}
use native.Mathlib.Omega.{arith}
use lib.ListN.{length, set, length-set}
use Rattle.words.specs.Runs.{run, splice}
use Rattle.words.specs.Bytes.{word_of}
use Rattle.words.proofs.Runs.{length_run, splice_none, splice_cons}
use Rattle.frame.specs.declared.Frame.{Frame}
use Rattle.element.specs.Needs.{HasElement}
use Rattle.element.specs.Word0.{word0}
use Rattle.element.specs.Word1.{event_word1}
use Rattle.element.specs.Elements.{element, event_element}

pub element_length : (first second : ℕ) (d : List ℕ) (n : ℕ) → length (element first second d n) ≡ 2 + n
unfolding element
element_length first second d n = omega (arith, length_run (word_of d) 0 n)

-- two stores in front of what is replaced
two_stored : (l : List ℕ) (at a b : ℕ) (ws : List ℕ) → at + 2 + length ws ≤ length l
    → splice (set (set l at a) (at + 1) b) (at + 2) ws ≡ splice l at (a ∷ b ∷ ws)
two_stored l at a b ws h =
    let e : at + 2 ≡ at + 1 + 1 = omega arith in
    ap (λ (k : ℕ). splice (set (set l at a) (at + 1) b) k ws) e
    ∙ splice_cons (set l at a) (at + 1) b ws (omega (arith, length-set l at a))
    ∙ splice_cons l at a (b ∷ ws) (omega arith)

pub element_stored : (l last : List ℕ) (at first second : ℕ) (d : List ℕ) (n : ℕ) → HasElement l at n
    → last ≡ splice (set (set l at first) (at + 1) second) (at + 2) (run (word_of d) 0 n)
    → last ≡ splice l at (element first second d n)
unfolding element
element_stored l last at first second d n h s =
    s ∙ two_stored l at first second (run (word_of d) 0 n) (omega (arith, length_run (word_of d) 0 n, h.inside))

pub event_stored : (l : List ℕ) (at a b marker : ℕ) (f : Frame) (time : ℕ) → at + 2 ≤ length l → a ≡ word0 f
    → b ≡ event_word1 marker f time
    → set (set l at a) (at + 1) b ≡ splice l at (event_element marker f time)
event_stored l at a b marker f time h p q =
    splice_none (set (set l at a) (at + 1) b) (at + 2)
    ∙ two_stored l at a b [] (omega arith)
    ∙ ap₂ (λ (x y : ℕ). splice l at (x ∷ y ∷ [])) p q
