-- The best of some candidates: the one of the smallest rank, and of several such the one of the lowest number.
use Rattle.std.specs.Prelude.{ℕ, zero, suc, ◌<◌, ◌≤◌, ◌≡◌, Bool, true, false, ◌⊎◌, ltb}
use Rattle.words.specs.Choice.{pick}

pub data Best : Type 0 where
  nobody : Best
  somebody : ℕ → Best

-- number n against the best of the lower numbers: only a smaller rank is better
abbrev pub better : (ℕ → ℕ) → Best → ℕ → Best
better rank nobody n = somebody n
better rank (somebody m) n = pick (ltb (rank n) (rank m)) (somebody n) (somebody m)

-- the best candidate below n
unfoldable pub best_below : (ℕ → Bool) → (ℕ → ℕ) → ℕ → Best
best_below candidate rank zero = nobody
best_below candidate rank (suc n) =
    pick (candidate n) (better rank (best_below candidate rank n) n) (best_below candidate rank n)

-- b is as good as k: of a smaller rank, or of the same and no higher number
abbrev pub AsGood : (ℕ → ℕ) → ℕ → ℕ → Type 0
AsGood rank b k = (rank b < rank k) ⊎ ((rank b ≡ rank k) × (b ≤ k))

-- what holds of the best candidate below n
pub record Wins (candidate : ℕ → Bool) (rank : ℕ → ℕ) (n b : ℕ) : Type 0 where
  pub below : b < n
  pub one : candidate b ≡ true
  pub best : (k : ℕ) → k < n → candidate k ≡ true → AsGood rank b k

-- no number below n is a candidate
abbrev pub NoneBelow : (ℕ → Bool) → ℕ → Type 0
NoneBelow candidate n = (k : ℕ) → k < n → candidate k ≡ false
