-- Lists: how many pass a test, those that do and the others, what is true of each, and members with numbers.
use Rattle.std.specs.Prelude.{ℕ, suc, ◌+◌, ◌≤◌, ◌≡◌, Bool, not, List, [], ◌∷◌, eqb}
use Rattle.words.specs.Choice.{pick}

module _ {A : Type 0} where
  -- how many pass the test q
  unfoldable pub tally : (A → Bool) → List A → ℕ
  tally q [] = 0
  tally q (x ∷ xs) = pick (q x) 1 0 + tally q xs

  -- those that pass, and those that do not
  unfoldable pub those : (A → Bool) → List A → List A
  those q [] = []
  those q (x ∷ xs) = pick (q x) (x ∷ those q xs) (those q xs)

  abbrev pub others : (A → Bool) → List A → List A
  others q xs = those (λ x. not (q x)) xs

  -- P is true of each
  abbrev pub Each : (A → Type 0) → List A → Type 0
  Each P [] = Unit {0}
  Each P (x ∷ xs) = P x × Each P xs

module _ {A : Type 0} (number : A → ℕ) where
  abbrev pub is_number : ℕ → A → Bool
  is_number n x = eqb (number x) n

  -- the numbers count up by one from lo
  abbrev pub Numbered : ℕ → List A → Type 0
  Numbered lo [] = Unit {0}
  Numbered lo (x ∷ xs) = (number x ≡ lo) × Numbered (suc lo) xs

  -- the numbers rise from lo on, and end below hi
  abbrev pub Rising : ℕ → List A → ℕ → Type 0
  Rising lo [] hi = lo ≤ hi
  Rising lo (x ∷ xs) hi = (lo ≤ number x) × Rising (suc (number x)) xs hi
