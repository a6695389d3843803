-- A refusal has a number, and names sections in a start alone: of each row of the table.
-- Assumes nothing.
use Rattle.std.proofs.Common.{ℕ, ◌<◌, ◌≡◌, refl, sym, ap, ◌∙◌, Bool, true, false, true≢false, ◌&&◌, List, [], ◌∷◌}
use Rattle.std.proofs.Common.{arith, ltb-true, eqb, ltb}
use Rattle.words.specs.Rules.{Ruling, allowed, refused, first}
use Rattle.words.proofs.Choices.{and_both}
use Rattle.words.proofs.Rulings.{refused_by}
use Rattle.shape.specs.Calls.{refuses}
use Rattle.shape.specs.Refusals.{Refusal, Refusals}
use Rattle.shape.proofs.Calls.{is_first}
use Rattle.layout.specs.Verdict.{plain}
use Rattle.engine.specs.Calls.{World}
use Rattle.books.specs.Lists.{Each}
use Rattle.handler.specs.Calls.{Call, Given, given, step}
use Rattle.handler.specs.Rows.{is_among, naming, row, all_but_start, rows}
use Rattle.handler.proofs.Exact.{refusals_are_exact}

-- what is known of a refusal of a call of this number
pub record Known (call : ℕ) (a : Refusal) : Type 0 where
  pub some : a.number ≡ 0 → ⊥
  pub small : a.number < 100
  pub alone : eqb call 1 ≡ false → a ≡ plain a.number

abbrev Row : ℕ → Ruling Refusal → Type 0
Row call r = (a : Refusal) → r ≡ refused a → Known call a

between : (n : ℕ) → ltb 0 n && ltb n 100 ≡ true → (0 < n) × (n < 100)
between n z = let b = and_both (ltb 0 n) (ltb n 100) z in (ltb-true 0 n b.0, ltb-true n 100 b.1)

-- a row of a number alone, and one of a start that names sections
numbered : (g : Given) (n : ℕ) (calls : List ℕ) (t : Bool) → ltb 0 n && ltb n 100 ≡ true
    → Row g.call (row g n calls t)
numbered g n calls t z a e =
    let same = (refused_by (is_among g.call calls && t) (plain n) a e).1 in
    record {
      some = λ q. omega (arith, (between n z).0, ap (λ (x : Refusal). x.number) same);
      small = omega (arith, (between n z).1, ap (λ (x : Refusal). x.number) same);
      alone = λ f. sym same ∙ ap (λ (x : Refusal). plain x.number) same;
    }

named : (g : Given) (c : Refusal) (t : Bool) → ltb 0 c.number && ltb c.number 100 ≡ true
    → Row g.call (naming g c (1 ∷ []) t)
named g c t z a e =
    let on = is_among g.call (1 ∷ []) in
    let by = refused_by (on && t) c a e in
    record {
      some = λ q. omega (arith, (between c.number z).0, ap (λ (x : Refusal). x.number) by.1);
      small = omega (arith, (between c.number z).1, ap (λ (x : Refusal). x.number) by.1);
      alone = λ f.
          let off : on ≡ false = rw f in
          absurd (true≢false (sym (and_both on t by.0).0 ∙ off));
    }

first_known : (call : ℕ) (rs : Refusals) → Each (Row call) rs → Row call (first rs)
first_known call [] h a e = absurd cc
first_known call (allowed ∷ rs) h a e = first_known call rs h.1 a e
first_known call (refused c ∷ rs) h a e = h.0 a e

rows_known : (w : World) (c : Call) → Each (Row (given c).call) (rows w c)
unfolding rows
rows_known w c = (numbered (given c) 10 (1 ∷ []) _ refl, (numbered (given c) 11 (1 ∷ []) _ refl, (named (given c) _ _ refl, (numbered (given c) 13 (1 ∷ []) _ refl, (named (given c) _ _ refl, (named (given c) _ _ refl, (numbered (given c) 20 all_but_start _ refl, (numbered (given c) 21 (2 ∷ 7 ∷ 8 ∷ []) _ refl, (numbered (given c) 22 (2 ∷ []) _ refl, (numbered (given c) 23 (3 ∷ 4 ∷ []) _ refl, (numbered (given c) 23 (5 ∷ 6 ∷ []) _ refl, (numbered (given c) 23 (7 ∷ []) _ refl, (numbered (given c) 23 (9 ∷ 11 ∷ []) _ refl, (numbered (given c) 23 (12 ∷ 13 ∷ []) _ refl, (numbered (given c) 24 (7 ∷ []) _ refl, (numbered (given c) 25 (8 ∷ []) _ refl, (numbered (given c) 26 (9 ∷ []) _ refl, (numbered (given c) 27 (9 ∷ []) _ refl, (numbered (given c) 28 (11 ∷ []) _ refl, (numbered (given c) 29 (3 ∷ 4 ∷ []) _ refl, (numbered (given c) 29 (5 ∷ 6 ∷ []) _ refl, (numbered (given c) 29 (12 ∷ 13 ∷ []) _ refl, (numbered (given c) 30 (3 ∷ 5 ∷ 10 ∷ []) _ refl, tt)))))))))))))))))))))))

pub refusals_known : (w : World) (c : Call) (a : Refusal) → (step w c).says ≡ refuses a → Known (given c).call a
refusals_known w c a e =
    first_known (given c).call (rows w c) (rows_known w c) a
    (is_first (rows w c) a (((refusals_are_exact w c).refused a).0 e))
