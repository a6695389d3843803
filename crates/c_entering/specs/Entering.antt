-- What is lent to a call from C, what is found against one before it begins, and a call's outcome in words.
use Rattle.std.specs.Prelude.{ℕ, Bool, not, ◌&&◌, List, [], ◌∷◌, eqb, length, Result, Ok, Err}
use Rattle.words.specs.Rules.{Ruling, allowed, refused, refuse_if, first, settle}
use Rattle.words.specs.Runs.{splice}
use Rattle.shape.specs.Calls.{Says, refuses, answers}
use Rattle.engine.specs.Calls.{World, world, Outcome}
use Rattle.c_words.specs.States.{state_words, plain_registers, unpack_state, pack_state, unpack_record, pack_record}
use Rattle.c_answers.specs.Answers.{code_of}
use Rattle.c_answers.specs.declared.numbers.CRefusal.{CRefusal}

-- ---- what is lent, and what a call leaves

-- the words and bytes that a call may be lent to change; what a call does not take is []
pub record Lent : Type 0 where
  pub state : List ℕ
  pub recorded : List ℕ
  pub memory : List ℕ
  pub answer : List ℕ
  pub output : List ℕ

abbrev pub lent : List ℕ → List ℕ → List ℕ → List ℕ → List ℕ → Lent
lent state recorded memory answer output = record {
  state = state;
  recorded = recorded;
  memory = memory;
  answer = answer;
  output = output;
}

-- all that a call from C settles: the number that it returns, and what was lent, after it
pub record Returned : Type 0 where
  pub number : ℕ
  pub lent : Lent

abbrev pub returned : ℕ → Lent → Returned
returned n l = record { number = n; lent = l }

-- ---- 100 and 101

-- a lent buffer has a length
abbrev pub has : List ℕ → ℕ → Bool
has ws n = eqb (length ws) n

-- 100: a lent buffer that has a length of its own has another; 101: a word that says yes or no is neither
abbrev pub entry_ruling : Bool → Bool → Ruling ℕ
entry_ruling lengths words = first (refuse_if (not lengths) 100 ∷ refuse_if (not words) 101 ∷ [])

-- what the code finds against a call from C
abbrev pub entered : {A : Type 0} → Result A CRefusal → Ruling ℕ
entered (Ok a) = allowed
entered (Err e) = refused (code_of e)

-- both leave all as it was; where neither is so, the call decides
abbrev pub entering : Lent → Bool → Bool → Returned → Returned
entering l lengths words r = settle (entry_ruling lengths words) r (λ n. returned n l)

-- the state and the record have their lengths
abbrev pub sized : List ℕ → List ℕ → Bool
sized state recorded = has state state_words && has recorded 2

-- of a call on a state: the box and the call's own buffers have their lengths; the state's and the call's own words
-- say yes or no
abbrev pub crossing : Lent → Bool → Bool → Returned → Returned
crossing l lengths words r =
    entering l (sized l.state l.recorded && lengths) (plain_registers l.state && words) r

-- ---- a call's outcome in words

-- the world that stands in the words lent
abbrev pub world_of : Lent → World
world_of l = world (unpack_state l.state) (unpack_record l.recorded) l.memory

-- a world and an output left in words, and words told at the front of the answer
abbrev pub leaving : Lent → World → List ℕ → List ℕ → Lent
leaving l w words out =
    lent (pack_state w.state) (pack_record w.recorded) w.memory (splice l.answer 0 words) out

-- a refusal returns its number, and leaves all that was lent; an answer returns 0, and is told
abbrev pub said_in : {A : Type 0} → Lent → (A → List ℕ) → World → List ℕ → Says A → Returned
said_in l words w out (refuses n) = returned n.number l
said_in l words w out (answers a) = returned 0 (leaving l w (words a) out)

abbrev pub in_words : {A : Type 0} → Lent → (A → List ℕ) → Outcome A → Returned
in_words l words o = said_in l words o.world o.output o.says
