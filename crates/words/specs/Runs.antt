-- A run of values, a part of a list, and a list with a part replaced.
use Rattle.std.specs.Prelude.{ℕ, zero, suc, ◌+◌, List, [], ◌∷◌, ◌++◌, length, take, drop}

-- f k, f (k + 1), .. : n of them
unfoldable pub run : (ℕ → ℕ) → ℕ → ℕ → List ℕ
run f k zero = []
run f k (suc n) = f k ∷ run f (suc k) n

-- the n elements from place at on
unfoldable pub part : ℕ → ℕ → List ℕ → List ℕ
part at n l = take n (drop at l)

-- l with the elements from place at on replaced by those of ws
unfoldable pub splice : List ℕ → ℕ → List ℕ → List ℕ
splice l at ws = take at l ++ ws ++ drop (at + length ws) l
