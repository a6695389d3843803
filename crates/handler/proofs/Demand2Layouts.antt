-- Demand 2, layouts: what a start accepts, reports and names.
-- Assumes nothing.
use Prim.Native.Nat.{ℕ, zero, suc, ◌+◌, ◌*◌, ◌<◌}
use mathlib.Core.Path.{◌≡◌, refl, sym, ap, ◌∙◌}
use mathlib.Core.List.{List, [], ◌∷◌}
use mathlib.Core.Logic.{◌⊎◌, inl, inr}
use native.Mathlib.Omega.{arith}
use lib.ListN.{length, get_or}
use Rattle.words.specs.Rules.{refused, first}
use Rattle.shape.specs.Calls.{done, refuses}
use Rattle.shape.specs.Refusals.{Refusal, Refusals}
use Rattle.shape.proofs.Calls.{call_done, call_refused, call_says, call_answers}
use Rattle.registers.specs.declared.Registers.{Registers}
use Rattle.layout.specs.Promises.{Refuses}
use Rattle.layout.specs.Sections.{none, sections_of}
use Rattle.layout.specs.Verdict.{rules, verdict}
use Rattle.layout.specs.declared.sections.Section.{Section}
use Rattle.layout.proofs.Accepted.{accepted_is_legal, verdict_rules}
use Rattle.layout.proofs.Exact.{verdicts_are_exact}
use Rattle.layout.proofs.Table.{has_within, within_has, empty_or_some}
use Rattle.engine.specs.Calls.{World, Outcome}
use Rattle.starting.specs.Starting.{flat, unreported, starts}
use Rattle.handler.specs.Calls.{start, step}
use Rattle.handler.specs.Demand2.{Reported, Starts}

-- ---- what is reported

section_reported : (g : Registers) (i : ℕ) → i < 7 → let s = get_or (sections_of g) i none in
    Reported g i s.start.0 s.words
section_reported g i h = record {
  words = λ k. (
    λ e. within_has g i k (record { from = e.0; below = e.1 }),
    λ x. let e = has_within g i k x in (e.from, e.below),
  );
  absent = λ e. go (empty_or_some g i h) e;
}
  where
    go : (get_or (sections_of g) i none ≡ none) ⊎ (0 < (get_or (sections_of g) i none).words)
        → (get_or (sections_of g) i none).words ≡ 0 → (get_or (sections_of g) i none).start.0 ≡ 0
    go (inl z) e = ap (λ (s : Section). s.start.0) z
    go (inr l) e = absurd (omega arith)

-- the two words of section i in the output
flat_start : (ss : List Section) (i : ℕ) → get_or (flat ss) (2 * i) 0 ≡ (get_or ss i none).start.0
flat_start [] i = refl
flat_start (s ∷ ss) zero = refl
flat_start (s ∷ ss) (suc i) =
    let e : 2 * suc i ≡ suc (suc (2 * i)) = omega arith in
    ap (λ (n : ℕ). get_or (flat (s ∷ ss)) n 0) e ∙ flat_start ss i

flat_words : (ss : List Section) (i : ℕ) → get_or (flat ss) (2 * i + 1) 0 ≡ (get_or ss i none).words
flat_words [] i = refl
flat_words (s ∷ ss) zero = refl
flat_words (s ∷ ss) (suc i) =
    let e : 2 * suc i + 1 ≡ suc (suc (2 * i + 1)) = omega arith in
    ap (λ (n : ℕ). get_or (flat (s ∷ ss)) n 0) e ∙ flat_words ss i

-- ---- the call

module _ (w : World) (g : Registers) where
  abbrev rows : Refusals
  rows = rules g (length w.memory)

  turned : (a : Refusal) → (step w (start g)).says ≡ refuses a → verdict g (length w.memory) ≡ refused a
  turned a e =
      verdict_rules g (length w.memory) ∙ call_says w unreported rows (starts w g) (first rows) refl a e

  turns : (a : Refusal) → verdict g (length w.memory) ≡ refused a → (step w (start g)).says ≡ refuses a
  turns a e =
      ap (λ (o : Outcome (Unit {0})). o.says)
      (call_refused w unreported rows (starts w g) a (sym (verdict_rules g (length w.memory)) ∙ e))

  exact : Refuses (λ a. verdict g (length w.memory) ≡ refused a) g (length w.memory)
  exact = verdicts_are_exact g (length w.memory)

  output_is : (step w (start g)).says ≡ done → (step w (start g)).output ≡ flat (sections_of g)
  output_is e = ap (λ (o : Outcome (Unit {0})). o.output) (call_answers w unreported rows (starts w g) tt e).1

  pub layouts_told : Starts w g
  layouts_told = record {
    accepted = (
      λ e. (accepted_is_legal g (length w.memory)).0
          (verdict_rules g (length w.memory) ∙ (call_answers w unreported rows (starts w g) tt e).0),
      λ l. ap (λ (o : Outcome (Unit {0})). o.says)
          (call_done w unreported rows (starts w g)
          (sym (verdict_rules g (length w.memory))
          ∙ (accepted_is_legal g (length w.memory)).1 l)),
    );
    sections = λ e i h.
        rw (output_is e, flat_start (sections_of g) i, flat_words (sections_of g) i) (section_reported g i h);
    refused = record {
      memory = (λ e. exact.memory.0 (turned _ e), λ h. turns _ (exact.memory.1 h));
      bits = (λ e. exact.bits.0 (turned _ e), λ h. turns _ (exact.bits.1 h));
      count = λ i. (λ e. (exact.count i).0 (turned _ e), λ h. turns _ ((exact.count i).1 h));
      together = (λ e. exact.together.0 (turned _ e), λ h. turns _ (exact.together.1 h));
      past = λ i. (λ e. (exact.past i).0 (turned _ e), λ h. turns _ ((exact.past i).1 h));
      pair = λ i j. (λ e. (exact.pair i j).0 (turned _ e), λ h. turns _ ((exact.pair i j).1 h));
      only = λ a e. exact.only a (turned a e);
    };
  }
