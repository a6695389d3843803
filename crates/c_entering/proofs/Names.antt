-- The sections that a start names are told in a word: a number to 7.
-- Assumes nothing.
use Rattle.std.proofs.Common.{ℕ, ◌+◌, ◌-◌, ◌≤◌, ◌≡◌, refl, sym, subst, Bool, true, false, not, List, ltb, get_or, length}
use Rattle.std.proofs.Common.{arith, ltb-true}
use Rattle.words.specs.Least.{least_from}
use Rattle.words.specs.Rules.{Ruling, allowed, refused, refuse_if, first, ◌or_else◌}
use Rattle.words.proofs.Lowest.{least_within}
use Rattle.shape.specs.Calls.{Says, refuses, answers, outcome}
use Rattle.shape.specs.Refusals.{Refusal, names, Refusals}
use Rattle.registers.specs.Fields.{memory_words, tx_count}
use Rattle.registers.specs.Given.{all_named}
use Rattle.registers.specs.declared.Registers.{Registers}
use Rattle.layout.specs.Sections.{none, sections_of}
use Rattle.layout.specs.Verdict.{plain, wrong_memory, memory_rule, bits_rule, count_rule, tx_rule, end_rule, over, past}
use Rattle.layout.specs.Verdict.{shares, partner, has_partner, pair_rule, first_with, rules}
use Rattle.layout.specs.declared.sections.Section.{Section}
use Rattle.engine.specs.Calls.{World, Outcome}
use Rattle.starting.specs.Starting.{unreported, starts, start}
use Rattle.shape.proofs.Calls.{call_refused, call_done}
use Rattle.c_answers.specs.Needs.{NamesFit}

abbrev Fits : Ruling Refusal → Type 0
Fits allowed = Unit {0}
Fits (refused n) = NamesFit n

abbrev Named : Says (Unit {0}) → Type 0
Named (refuses n) = NamesFit n
Named (answers u) = Unit {0}

either : (r q : Ruling Refusal) → Fits r → Fits q → Fits (r or_else q)
either allowed q x y = y
either (refused n) q x y = x

when : (t : Bool) (n : Refusal) → (t ≡ true → (n.section ≤ 7) × (n.other ≤ 7)) → Fits (refuse_if t n)
when true n h = h refl
when false n h = tt

first_fits : (n : ℕ) (fault : ℕ → Bool) → Fits (first_with n fault)
first_fits n fault =
    when (ltb (least_from fault 0 7) 7) (names n (least_from fault 0 7) 7)
    (λ t. (omega (arith, ltb-true (least_from fault 0 7) 7 t), omega arith))

pair_fits : (ss : List Section) → Fits (pair_rule ss)
unfolding partner
pair_fits ss =
    let i = least_from (has_partner ss) 0 7 in
    let shared : ℕ → Bool = λ j. shares (get_or ss i none) (get_or ss j none) in
    when (ltb i 7) (names 15 i (partner ss i))
    (λ t. (omega (arith, ltb-true i 7 t), omega (arith, ltb-true i 7 t, least_within shared (i + 1) (7 - (i + 1)))))

names_fit : (g : Registers) (words : ℕ) → Fits (first (rules g words))
names_fit g words =
    either (memory_rule g words) _
    (when (wrong_memory (memory_words g) words) (plain 10) (λ t. (omega arith, omega arith)))
    (either (bits_rule g) _ (when (not (all_named g)) (plain 11) (λ t. (omega arith, omega arith)))
    (either (count_rule g) _ (first_fits 12 (over g))
    (either (tx_rule g) _ (when (ltb 32 (tx_count g)) (plain 13) (λ t. (omega arith, omega arith)))
    (either (end_rule (memory_words g) (sections_of g)) _ (first_fits 14 (past (memory_words g) (sections_of g)))
    (either (pair_rule (sections_of g)) allowed (pair_fits (sections_of g)) tt)))))

module _ (w : World) (g : Registers) where
  abbrev rows : Refusals
  rows = rules g (length w.memory)

  start_names : (v : Ruling Refusal) → first rows ≡ v → Fits v → Named (start w g).says
  start_names allowed e h =
      subst (λ (o : Outcome (Unit {0})). Named o.says) (sym (call_done w unreported rows (starts w g) e)) tt
  start_names (refused n) e h =
      subst (λ (o : Outcome (Unit {0})). Named o.says) (sym (call_refused w unreported rows (starts w g) n e)) h

  pub names_told : (n : Refusal) (after : World) (sections : List ℕ) → outcome (refuses n) after sections ≡ start w g
      → NamesFit n
  names_told n after sections e =
      subst (λ (o : Outcome (Unit {0})). Named o.says) (sym e)
      (start_names (first rows) refl (names_fit g (length w.memory)))
