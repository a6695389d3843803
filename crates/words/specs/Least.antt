-- The lowest number that passes a test.
use Rattle.std.specs.Prelude.{ℕ, zero, suc, Bool}
use Rattle.words.specs.Choice.{pick}

-- the lowest of i, i + 1, .. (n of them) that passes, or i + n where none does
unfoldable pub least_from : (ℕ → Bool) → ℕ → ℕ → ℕ
least_from p i zero = i
least_from p i (suc n) = pick (p i) i (least_from p (suc i) n)
