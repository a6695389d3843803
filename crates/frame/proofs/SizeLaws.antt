-- The bounds of the element sizes, and that an element is its two header words and its data words.
-- Assumes nothing.
use Prim.Native.Nat.{ℕ, ◌+◌, ◌*◌, ◌≤◌, ◌<◌}
use mathlib.Core.Path.{◌≡◌}
use mathlib.Core.List.{[], ◌∷◌}
use lib.Dec.{leb, eqb, leb→le, eqb→eq}
use Rattle.words.proofs.Tables.{every, every_at}
use Rattle.frame.specs.Sizes.{element_bytes, element_words}

pub words_least : (code : ℕ) → code < 8 → 4 ≤ element_words code
unfolding every
words_least code h =
    leb→le 4 (element_words code) (every_at (λ i x. leb 4 x) (4 ∷ 5 ∷ 6 ∷ 7 ∷ 8 ∷ 10 ∷ 14 ∷ 18 ∷ []) tt code h)

pub words_most : (code : ℕ) → code < 8 → element_words code ≤ 18
unfolding every
words_most code h =
    leb→le (element_words code) 18 (every_at (λ i x. leb x 18) (4 ∷ 5 ∷ 6 ∷ 7 ∷ 8 ∷ 10 ∷ 14 ∷ 18 ∷ []) tt code h)

pub words_of_bytes : (code : ℕ) → code < 8 → element_bytes code + 8 ≡ 4 * element_words code
unfolding every
words_of_bytes code h =
    eqb→eq (element_bytes code + 8) (4 * element_words code)
    (every_at (λ i x. eqb (element_bytes i + 8) (4 * x)) (4 ∷ 5 ∷ 6 ∷ 7 ∷ 8 ∷ 10 ∷ 14 ∷ 18 ∷ []) tt code h)
