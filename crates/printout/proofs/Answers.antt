-- Every input is answered.
-- Assumes nothing.
use mathlib.Core.Path.{◌≡◌, refl}
use mathlib.Core.Bool.{Bool, true, false}
use mathlib.Core.List.{List}
use lib.ListN.{take}
use Rattle.std.specs.Prelude.{codes}
use Rattle.words.specs.Choice.{pick}
use Rattle.words.specs.Rules.{Ruling, allowed, refused}
use Rattle.shape.specs.Refusals.{Refusal}
use Rattle.layout.specs.Sections.{sections_of}
use Rattle.layout.specs.Verdict.{verdict}
use Rattle.layout.specs.declared.sections.Section.{Section}
use Rattle.printout.specs.Input.{readable, bench_words, registers_of}
use Rattle.printout.specs.Printed.{unread, told, printed}
use Rattle.printout.specs.Promises.{AlwaysAnswers}

answers : (t : Bool) (v : Ruling Refusal) (ss : List Section) → take 7 (pick t (told v ss) unread) ≡ codes "layout "
answers true allowed ss = refl
answers true (refused n) ss = refl
answers false v ss = refl

pub always_answers : AlwaysAnswers
unfolding printed
always_answers s = answers (readable s) (verdict (registers_of s) bench_words) (sections_of (registers_of s))
