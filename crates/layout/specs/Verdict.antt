-- Which layouts a start refuses: numbers 10 to 15, with the two sections that each names (7 for none).
use Rattle.std.specs.Prelude.{ℕ, ◌+◌, ◌-◌, min, max, Bool, false, not, ◌||◌, List, [], ◌∷◌, eqb, ltb, get_or, Result, Ok, Err}
use Rattle.words.specs.Least.{least_from}
use Rattle.words.specs.Rules.{Ruling, allowed, refused, refuse_if, first, settle}
use Rattle.shape.specs.Refusals.{Refusal, names, Refusals}
use Rattle.registers.specs.Fields.{memory_words, tx_count}
use Rattle.registers.specs.Given.{all_named}
use Rattle.registers.specs.declared.Registers.{Registers}
use Rattle.layout.specs.Sections.{memory_most, none, over_most, sections_of}
use Rattle.layout.specs.declared.sections.Section.{Section}
use Rattle.layout.specs.declared.check.Naming.{Naming}
use Rattle.layout.specs.declared.check.LayoutRefusal.{LayoutRefusal}
use Rattle.layout.specs.declared.check.LayoutRefusal.TheVariants.{WrongMemory, UnnamedBit, CountOver}
use Rattle.layout.specs.declared.check.LayoutRefusal.TheVariants.{TxOver, PastMemory, Overlap}

-- a refusal by its number alone: it names no section
abbrev pub plain : ℕ → Refusal
plain n = names n 7 7

-- what each refusal of the code says in the paper's numbers
abbrev pub refusal_of : LayoutRefusal → Refusal
refusal_of WrongMemory = plain 10
refusal_of UnnamedBit = plain 11
refusal_of (CountOver i) = names 12 i 7
refusal_of TxOver = plain 13
refusal_of (PastMemory i) = names 14 i 7
refusal_of (Overlap i j) = names 15 i j

-- what an answer of the code means: nothing against the layout, or refused
abbrev pub meaning : {A : Type 0} → Result A LayoutRefusal → Ruling Refusal
meaning (Ok a) = allowed
meaning (Err e) = refused (refusal_of e)

-- a verdict as numbers alone: an accepted start has 0 and names no section
abbrev pub numbers : Ruling Refusal → Refusal
numbers v = settle v (plain 0) (λ a. a)

abbrev pub as_refusal : Naming → Refusal
as_refusal n = names n.number n.section n.other

-- the first of the seven sections that has a fault is named, if one has
abbrev pub first_with : ℕ → (ℕ → Bool) → Ruling Refusal
first_with n fault = refuse_if (ltb (least_from fault 0 7) 7) (names n (least_from fault 0 7) 7)

-- 10: the given length is 0, or over the most, or not the memory's
abbrev pub wrong_memory : ℕ → ℕ → Bool
wrong_memory given words = eqb given 0 || ltb memory_most given || not (eqb words given)

abbrev pub memory_rule : Registers → ℕ → Ruling Refusal
memory_rule r words = refuse_if (wrong_memory (memory_words r) words) (plain 10)

-- 11: some register has a bit set outside its named fields
abbrev pub bits_rule : Registers → Ruling Refusal
bits_rule r = refuse_if (not (all_named r)) (plain 11)

-- 12: a count is over its most; names the first section
abbrev pub over : Registers → ℕ → Bool
over r i = get_or (over_most r) i false

abbrev pub count_rule : Registers → Ruling Refusal
count_rule r = first_with 12 (over r)

-- 13: dedicated + shared over 32
abbrev pub tx_rule : Registers → Ruling Refusal
tx_rule r = refuse_if (ltb 32 (tx_count r)) (plain 13)

-- 14: the first section whose end is beyond the given length
abbrev pub end : Section → ℕ
end s = s.start.0 + s.words

abbrev pub past : ℕ → List Section → ℕ → Bool
past words ss i = ltb words (end (get_or ss i none))

abbrev pub end_rule : ℕ → List Section → Ruling Refusal
end_rule words ss = first_with 14 (past words ss)

-- 15: two sections share a word: the later start is before the earlier end
abbrev pub shares : Section → Section → Bool
shares a b = ltb (max a.start.0 b.start.0) (min (end a) (end b))

-- the first section after section i that shares a word with it, 7 where none does
unfoldable pub partner : List Section → ℕ → ℕ
partner ss i = least_from (λ j. shares (get_or ss i none) (get_or ss j none)) (i + 1) (7 - (i + 1))

abbrev pub has_partner : List Section → ℕ → Bool
has_partner ss i = ltb (partner ss i) 7

-- pairs go by the lower section, then the higher
abbrev pub pair_rule : List Section → Ruling Refusal
pair_rule ss =
    let i = least_from (has_partner ss) 0 7 in
    refuse_if (ltb i 7) (names 15 i (partner ss i))

-- the rules in the order of their numbers, for a memory of so many words
abbrev pub rules : Registers → ℕ → Refusals
rules r words =
    memory_rule r words
    ∷ bits_rule r
    ∷ count_rule r
    ∷ tx_rule r
    ∷ end_rule (memory_words r) (sections_of r)
    ∷ pair_rule (sections_of r)
    ∷ []

-- the lowest number that applies
unfoldable pub verdict : Registers → ℕ → Ruling Refusal
verdict r words = first (rules r words)
