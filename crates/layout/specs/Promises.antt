-- What is promised of the verdict (demand 2, layouts): statements only.
use Rattle.std.specs.Prelude.{ℕ, ◌+◌, ◌≤◌, ◌<◌, ◌≡◌, ◌↔◌, ◌⊎◌, Result}
use Rattle.words.specs.Rules.{allowed, refused}
use Rattle.shape.specs.Refusals.{Refusal, names}
use Rattle.registers.specs.Fields.{memory_words, dedicated, shared}
use Rattle.registers.specs.declared.Registers.{Registers}
use Rattle.layout.specs.Verdict.{meaning, verdict}
use Rattle.layout.specs.Legal.{RightMemory, WrongMemory, Named, TooMany, WithinMost, Counted, Has, Legal}
use Rattle.layout.specs.declared.check.LayoutRefusal.{LayoutRefusal}

-- a start is accepted exactly where its layout is legal
abbrev pub AcceptedIsLegal : Type 0
AcceptedIsLegal = (r : Registers) (words : ℕ) → (verdict r words ≡ allowed) ↔ Legal r words

-- a section has a word that is not below the given length, and none before it has
pub record FirstPast (r : Registers) (i : ℕ) : Type 0 where
  pub section : i < 7
  pub here : (k : ℕ) × (memory_words r ≤ k) × Has r i k
  pub before : (j k : ℕ) → j < i → Has r j k → k < memory_words r

-- a pair shares a word; no pair with a lower first section does, nor one with a lower second
pub record FirstPair (r : Registers) (i j : ℕ) : Type 0 where
  pub order : i < j
  pub section : j < 7
  pub here : (k : ℕ) × Has r i k × Has r j k
  pub lower : (a b k : ℕ) → a < i → a < b → b < 7 → Has r a k → Has r b k → ⊥
  pub higher : (b k : ℕ) → i < b → b < j → Has r i k → Has r b k → ⊥

-- a section has a count over its most, and none before it has
pub record FirstTooMany (r : Registers) (i : ℕ) : Type 0 where
  pub here : TooMany r i
  pub before : (j : ℕ) → j < i → TooMany r j → ⊥

-- every word of every section is below the given length
abbrev pub AllInside : Registers → Type 0
AllInside r = (i k : ℕ) → i < 7 → Has r i k → k < memory_words r

-- no two sections share a word
abbrev pub AllApart : Registers → Type 0
AllApart r = (i j k : ℕ) → i < j → j < 7 → Has r i k → Has r j k → ⊥

-- when each refusal is given, exactly, and which sections it names (7 for none): the lowest number that applies
pub record Refuses (Gives : Refusal → Type 0) (r : Registers) (words : ℕ) : Type 0 where
  -- 10: the memory is wrong
  pub memory : Gives (names 10 7 7) ↔ WrongMemory r words
  -- 11: it is right, and some bit that is not named is set
  pub bits : Gives (names 11 7 7) ↔ (RightMemory r words × (Named r → ⊥))
  -- 12: neither, and i is the first section with a count over its most
  pub count : (i : ℕ)
      → Gives (names 12 i 7) ↔ (RightMemory r words × Named r × FirstTooMany r i)
  -- 13: none of these, and the Tx buffers together are over 32
  pub together : Gives (names 13 7 7)
      ↔ (RightMemory r words × Named r × WithinMost r × (32 < dedicated r + shared r))
  -- 14: none of these, and i is the first section with a word past the given length
  pub past : (i : ℕ)
      → Gives (names 14 i 7)
      ↔ (RightMemory r words × Named r × Counted r × FirstPast r i)
  -- 15: none of these, and i and j are the first pair that shares a word
  pub pair : (i j : ℕ)
      → Gives (names 15 i j)
      ↔ (RightMemory r words × Named r × Counted r × AllInside r × FirstPair r i j)
  -- and no other refusal
  pub only : (a : Refusal) → Gives a
      → (a ≡ names 10 7 7)
      ⊎ (a ≡ names 11 7 7)
      ⊎ ((i : ℕ) × (a ≡ names 12 i 7))
      ⊎ (a ≡ names 13 7 7)
      ⊎ ((i : ℕ) × (a ≡ names 14 i 7))
      ⊎ ((i : ℕ) × (j : ℕ) × (a ≡ names 15 i j))

abbrev pub VerdictsAreExact : Type 0
VerdictsAreExact =
    (r : Registers) (words : ℕ) → Refuses (λ a. verdict r words ≡ refused a) r words

-- no two answers of the code mean the same, so no second answer meets the contract
abbrev pub OneAnswer : Type 0
OneAnswer = (a b : Result (Unit {0}) LayoutRefusal) → meaning a ≡ meaning b → a ≡ b
