-- The history of a run of calls, and a book kept from the history.
use Rattle.std.specs.Prelude.{ℕ, List, [], ◌∷◌}
use Rattle.shape.specs.Calls.{Says, refuses, answers, Outcome}

-- what the caller sees of an outcome: what the call says, and the lent output after it
pub record Told (A : Type 0) : Type 0 where
  pub says : Says A
  pub output : List ℕ

abbrev pub told : {W A : Type 0} → Outcome W A → Told A
told o = record { says = o.says; output = o.output }

module _ {W Call : Type 0} {Answer : Call → Type 0} (step : W → (c : Call) → Outcome W (Answer c)) where
  -- each call with what it told
  abbrev pub trace : W → List Call → List ((c : Call) × Told (Answer c))
  trace w [] = []
  trace w (c ∷ cs) = (c, told (step w c)) ∷ trace (step w c).world cs

  abbrev pub after : W → List Call → W
  after w [] = w
  after w (c ∷ cs) = after (step w c).world cs

module _ {Book Call : Type 0} {Answer : Call → Type 0} (note : Book → (c : Call) → Says (Answer c) → Book) where
  -- the book sees calls and answers, and never the world
  abbrev pub book : Book → List ((c : Call) × Told (Answer c)) → Book
  book b [] = b
  book b (t ∷ ts) = book (note b t.0 t.1.says) ts

  -- the history that the calls alone give, where all that is told is known from the book
  abbrev pub foretold : ((b : Book) (c : Call) → Told (Answer c)) → Book → List Call
      → List ((c : Call) × Told (Answer c))
  foretold expect b [] = []
  foretold expect b (c ∷ cs) = (c, expect b c) ∷ foretold expect (note b c (expect b c).says) cs

-- a call that answers may add to a book; a refused one adds nothing
abbrev pub noted : {Book A : Type 0} → Book → (A → Book) → Says A → Book
noted b next (answers a) = next a
noted b next (refuses n) = b
