-- A table's rule, from a test that is computed over the whole table.
-- Assumes nothing.
use Prim.Native.Nat.{ℕ, zero, suc, ◌+◌, ◌<◌}
use mathlib.Core.Path.{◌≡◌, subst}
use mathlib.Core.Bool.{Bool, true, ◌&&◌}
use mathlib.Core.List.{List, [], ◌∷◌}
use native.Mathlib.Nat.{zero-add}
use native.Mathlib.Omega.{arith}
use lib.Dec.{T}
use lib.ListN.{length, get_or}
use Rattle.words.proofs.Choices.{and_left, and_right}

-- the test holds of every entry and its place, counted from i
unfoldable pub every : (ℕ → ℕ → Bool) → ℕ → List ℕ → Bool
every p i [] = true
every p i (x ∷ xs) = p i x && every p (suc i) xs

every_from : (p : ℕ → ℕ → Bool) (i : ℕ) (xs : List ℕ) → T (every p i xs) → (k : ℕ) → k < length xs
    → T (p (i + k) (get_or xs k 0))
unfolding every
every_from p i [] t k h = absurd (omega arith)
every_from p i (x ∷ xs) t zero h =
    let e : i ≡ i + zero = omega arith in
    subst (λ (n : ℕ). T (p n x)) e (and_left (p i x) (every p (suc i) xs) t)
every_from p i (x ∷ xs) t (suc k) h =
    let e : suc i + k ≡ i + suc k = omega arith in
    subst (λ (n : ℕ). T (p n (get_or xs k 0))) e
    (every_from p (suc i) xs (and_right (p i x) (every p (suc i) xs) t) k (omega arith))

pub every_at : (p : ℕ → ℕ → Bool) (xs : List ℕ) → T (every p 0 xs) → (k : ℕ) → k < length xs → T (p k (get_or xs k 0))
every_at p xs t k h = subst (λ (n : ℕ). T (p n (get_or xs k 0))) (zero-add k) (every_from p 0 xs t k h)
