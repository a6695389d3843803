-- Rules in the order of their numbers: the first that refuses decides, so the lowest number is given.
use Rattle.std.specs.Prelude.{Bool, true, false, List, [], ◌∷◌}
use Rattle.words.specs.Choice.{pick}

infixr 25 ◌or_else◌
-- nothing against it, or refused, with what the refusal says
pub data Ruling (A : Type 0) : Type 0 where
  allowed : Ruling A
  refused : A → Ruling A

-- refused so where the test holds
abbrev pub refuse_if : {A : Type 0} → Bool → A → Ruling A
refuse_if t a = pick t (refused a) allowed

abbrev pub is_allowed : {A : Type 0} → Ruling A → Bool
is_allowed allowed = true
is_allowed (refused a) = false

-- the first of two that refuses
abbrev pub ◌or_else◌ : {A : Type 0} → Ruling A → Ruling A → Ruling A
allowed or_else q = q
(refused a) or_else q = refused a

-- the first of several that refuses
abbrev pub first : {A : Type 0} → List (Ruling A) → Ruling A
first [] = allowed
first (r ∷ rs) = r or_else first rs

-- one thing where nothing is against it, and another made of what the refusal says
abbrev pub settle : {A B : Type 0} → Ruling A → B → (A → B) → B
settle allowed b f = b
settle (refused a) b f = f a
