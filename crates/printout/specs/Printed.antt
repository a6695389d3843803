-- What the bench program prints, for every input.
use Rattle.std.specs.Prelude.{ℕ, zero, suc, List, [], ◌++◌, get_or, codes, decimal}
use Rattle.words.specs.Choice.{pick}
use Rattle.words.specs.Rules.{Ruling, settle}
use Rattle.shape.specs.Refusals.{Refusal}
use Rattle.registers.specs.declared.Registers.{Registers}
use Rattle.layout.specs.Sections.{none, sections_of}
use Rattle.layout.specs.Verdict.{refusal_of, verdict}
use Rattle.layout.specs.declared.sections.Section.{Section}
use Rattle.printout.specs.declared.Answer.{Answer}
use Rattle.printout.specs.declared.Answer.TheVariants.{Unread, Refused, Accepted}
use Rattle.printout.specs.Input.{readable, bench_words, registers_of}

-- three numbers on a line
abbrev pub row : ℕ → ℕ → ℕ → List ℕ
row a b c = decimal a ++ codes " " ++ decimal b ++ codes " " ++ decimal c ++ codes "\n"

abbrev pub unread : List ℕ
unread = codes "layout unread\n"

-- a refusal: its number, and the two sections that it names
abbrev pub refusal : Refusal → List ℕ
refusal n = codes "layout refused " ++ row n.number n.section n.other

-- the first n sections, a row each: its number, its first word and how many it has
unfoldable pub rows : List Section → ℕ → List ℕ
rows ss zero = []
rows ss (suc n) = rows ss n ++ row n (get_or ss n none).start.0 (get_or ss n none).words

-- the seven sections
abbrev pub ok : List Section → List ℕ
ok ss = codes "layout ok\n" ++ rows ss 7

-- what each answer of the code prints
abbrev pub content : Answer → List ℕ
content Unread = unread
content (Refused e) = refusal (refusal_of e)
content (Accepted ss) = ok ss

-- a verdict, with the sections where it accepts
abbrev pub told : Ruling Refusal → List Section → List ℕ
told v ss = settle v (ok ss) refusal

-- what a start on the bench's memory says of the registers
abbrev pub report : Registers → List ℕ
report r = told (verdict r bench_words) (sections_of r)

unfoldable pub printed : List ℕ → List ℕ
printed s = pick (readable s) (report (registers_of s)) unread
