-- Words of a lent buffer, and words that say yes or no.
use Rattle.std.specs.Prelude.{ℕ, Bool, List, eqb, ltb, get_or}
use Rattle.words.specs.Choice.{pick}

-- word n, 0 past the end
abbrev pub word : List ℕ → ℕ → ℕ
word ws n = get_or ws n 0

-- yes and no as a word, and back: 1 is yes
abbrev pub yes_no : Bool → ℕ
yes_no b = pick b 1 0

abbrev pub says_yes : ℕ → Bool
says_yes w = eqb w 1

-- a word that says yes or no: 0 or 1
abbrev pub is_yes_no : ℕ → Bool
is_yes_no w = ltb w 2
