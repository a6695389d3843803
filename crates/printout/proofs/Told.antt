-- What is printed of an input, by what the registers give.
-- Assumes nothing.
use Rattle.std.proofs.Common.{◌≡◌, ℕ, Bool, true, false, List, refl, sym, ap, ◌∙◌}
use Rattle.words.proofs.Choices.{pick_first}
use Rattle.words.specs.Choice.{pick}
use Rattle.words.specs.Rules.{Ruling, allowed, refused}
use Rattle.shape.specs.Refusals.{Refusal}
use Rattle.registers.specs.declared.Registers.{Registers}
use Rattle.layout.specs.Sections.{sections_of}
use Rattle.layout.specs.Verdict.{verdict}
use Rattle.layout.specs.declared.sections.Section.{Section}
use Rattle.printout.specs.Input.{readable, bench_words, registers_of}
use Rattle.printout.specs.Printed.{unread, ok, refusal, told, report, printed}

module _ (s : List ℕ) where
  pub not_read : (readable s ≡ true → ⊥) → unread ≡ printed s
  unfolding printed
  not_read n = go (readable s) refl
    where
      go : (t : Bool) → readable s ≡ t → unread ≡ pick t (report (registers_of s)) unread
      go true e = absurd (n e)
      go false e = refl

  module _ (y : readable s ≡ true) (r : Registers) (e : r ≡ registers_of s) where
    told_of : (v : Ruling Refusal) → v ≡ verdict r bench_words → told v (sections_of r) ≡ printed s
    unfolding printed
    told_of v f =
        ap (λ (u : Ruling Refusal). told u (sections_of r)) f
        ∙ ap report e
        ∙ sym (pick_first (report (registers_of s)) unread y)

    pub read_ok : allowed ≡ verdict r bench_words → (ss : List Section) → ss ≡ sections_of r → ok ss ≡ printed s
    read_ok f ss g = ap ok g ∙ told_of allowed f

    pub read_refused : (a : Refusal) → refused a ≡ verdict r bench_words → refusal a ≡ printed s
    read_refused a f = told_of (refused a) f
