-- Refusals: a number with the sections that it names, and what may be against a call, in the order of the numbers.
use Rattle.std.specs.Prelude.{ℕ, ◌<◌, ◌≡◌, List, length, get_or}
use Rattle.words.specs.Rules.{Ruling, allowed, refused}

-- what a refused call says
pub record Refusal : Type 0 where
  pub number : ℕ
  pub section : ℕ
  pub other : ℕ

abbrev pub names : ℕ → ℕ → ℕ → Refusal
names n a b = record { number = n; section = a; other = b }

-- the rows of a call: each allows it, or refuses it so
abbrev pub Refusals : Type 0
Refusals = List (Ruling Refusal)

-- some row refuses so, and none before it refuses
pub record First (rows : Refusals) (a : Refusal) : Type 0 where
  pub place : ℕ
  pub inside : place < length rows
  pub here : get_or rows place allowed ≡ refused a
  pub before : (j : ℕ) → j < place → get_or rows j allowed ≡ allowed

-- none refuses
abbrev pub NoneRefuses : Refusals → Type 0
NoneRefuses rows = (k : ℕ) → k < length rows → get_or rows k allowed ≡ allowed
