-- No two answers of the code mean the same: each is found again from what it means.
-- Assumes nothing.
use Rattle.std.proofs.Common.{Option, Some, None, Result, Ok, Err}
use mathlib.Core.Path.{◌≡◌, refl, ap}
use Rattle.shape.specs.Calls.{Says, refuses, answers}
use Rattle.engine.specs.Answers.{saying}
use Rattle.engine.specs.declared.refusals.Refusal.{Refusal}
use Rattle.engine.proofs.Replies.{refusal_of, refusal_back}
use Rattle.choosing.specs.Choosing.{Next, none, send, next}
use Rattle.choosing.specs.declared.asking.Chosen.{Chosen}

abbrev pub choice_of : Says Next → Result (Option Chosen) Refusal
choice_of (answers none) = Ok None
choice_of (answers (send c)) = Ok (Some c)
choice_of (refuses n) = Err (refusal_of n.number)

pub choice_back : (a : Result (Option Chosen) Refusal) → choice_of (saying next a) ≡ a
choice_back (Ok None) = refl
choice_back (Ok (Some c)) = refl
choice_back (Err n) = ap Err (refusal_back n)
