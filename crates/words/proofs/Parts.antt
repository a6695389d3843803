-- A list with a part replaced: the replaced part is what was put there, and a part beside it is as it was.
-- Assumes nothing.
use mathlib.Core.Path.{◌≡◌, sym, ◌∙◌}
use mathlib.Core.List.{List}
use Prim.Native.Nat.{ℕ, ◌+◌, ◌≤◌, ◌<◌}
use native.Mathlib.Omega.{arith}
use lib.ListN.{length, get_or, length-take, length-drop}
use lib.Seq.{ext_get_or, get_or-take, get_or-drop}
use Rattle.words.specs.Runs.{part, splice}
use Rattle.words.proofs.Runs.{splice_length, splice_inside, splice_before, splice_after}

pub length_part : (at n : ℕ) (l : List ℕ) → at + n ≤ length l → length (part at n l) ≡ n
unfolding part
length_part at n l h = simp (length-take, length-drop) (omega arith)

pub get_d_part : (at n : ℕ) (l : List ℕ) (i : ℕ) → i < n → get_or (part at n l) i 0 ≡ get_or l (at + i) 0
unfolding part
get_d_part at n l i h = rw (get_or-take, get_or-drop)

-- two lists that agree word by word on a part have the same part there
pub part_same : (at n : ℕ) (l m : List ℕ) → at + n ≤ length l → at + n ≤ length m
    → ((i : ℕ) → i < n → get_or l (at + i) 0 ≡ get_or m (at + i) 0) → part at n l ≡ part at n m
part_same at n l m h k same =
    ext_get_or 0 (part at n l) (part at n m) (length_part at n l h ∙ sym (length_part at n m k))
    (λ i b.
    let c : i < n = omega (arith, length_part at n l h) in
    get_d_part at n l i c ∙ same i c ∙ sym (get_d_part at n m i c))

module _ (l : List ℕ) (at : ℕ) (ws : List ℕ) (h : at + length ws ≤ length l) where
  pub part_put : part at (length ws) (splice l at ws) ≡ ws
  part_put =
      let long : at + length ws ≤ length (splice l at ws) = omega (arith, splice_length l at ws h) in
      ext_get_or 0 (part at (length ws) (splice l at ws)) ws (length_part at (length ws) (splice l at ws) long)
      (λ i b. let c : i < length ws = omega (arith, length_part at (length ws) (splice l at ws) long) in
      get_d_part at (length ws) (splice l at ws) i c ∙ splice_inside l at ws h i c)

  pub part_below : (b n : ℕ) → b + n ≤ at → part b n (splice l at ws) ≡ part b n l
  part_below b n k =
      part_same b n (splice l at ws) l (omega (arith, splice_length l at ws h)) (omega arith)
      (λ i c. splice_before l at ws h (b + i) (omega arith))

  pub part_above : (b n : ℕ) → at + length ws ≤ b → b + n ≤ length l → part b n (splice l at ws) ≡ part b n l
  part_above b n k m =
      part_same b n (splice l at ws) l (omega (arith, splice_length l at ws h)) m
      (λ i c. splice_after l at ws h (b + i) (omega arith))
