-- No call of a run answers 20: of the table's rows, that number is the row of an unfit world alone.
-- Assumes nothing.
use Prim.Native.Nat.{ℕ}
use mathlib.Core.Path.{◌≡◌, refl, sym, ap, ◌∙◌}
use mathlib.Core.Bool.{Bool, false, true≢false, ◌&&◌, and-false}
use mathlib.Core.List.{List, [], ◌∷◌}
use native.Mathlib.Omega.{arith}
use borrow.Author.Tests.{eqb-false}
use lib.Dec.{eqb}
use Rattle.words.specs.Rules.{Ruling, allowed, refused, first}
use Rattle.words.proofs.Rulings.{refused_by}
use Rattle.shape.specs.Refusals.{Refusal, Refusals}
use Rattle.shape.proofs.Calls.{is_first}
use Rattle.layout.specs.Verdict.{plain}
use Rattle.engine.specs.Calls.{World, is_unfit}
use Rattle.books.specs.Lists.{Each}
use Rattle.handler.specs.Calls.{Call, Given, given}
use Rattle.handler.specs.Rows.{is_among, naming, row, all_but_start, rows}
use Rattle.handler.proofs.Exact.{refusals_are_exact}
use Rattle.history.specs.Demand3.{Run, now, Never20}
use Rattle.history.proofs.Runs.{standing}

-- a row that does not refuse with 20
abbrev NotTwenty : Ruling Refusal → Type 0
NotTwenty r = (a : Refusal) → r ≡ refused a → a.number ≡ 20 → ⊥

-- one of another number, or that does not apply
other_named : (g : Given) (c : Refusal) (calls : List ℕ) (t : Bool) → eqb c.number 20 ≡ false
    → NotTwenty (naming g c calls t)
other_named g c calls t n a e q =
    eqb-false c.number 20 n
    (ap (λ (x : Refusal). x.number) (refused_by (is_among g.call calls && t) c a e).1 ∙ q)

other : (g : Given) (n : ℕ) (calls : List ℕ) (t : Bool) → eqb n 20 ≡ false → NotTwenty (row g n calls t)
other g n calls t = other_named g (plain n) calls t

off : (g : Given) (n : ℕ) (calls : List ℕ) (t : Bool) → t ≡ false → NotTwenty (row g n calls t)
off g n calls t z a e q =
    let on = is_among g.call calls in
    true≢false
    (sym (refused_by (on && t) (plain n) a e).0 ∙ ap (λ (x : Bool). on && x) z ∙ and-false on)

none_gives : (rs : Refusals) → Each NotTwenty rs → NotTwenty (first rs)
none_gives [] h a e q = let z : ◌≡◌ {A = ℕ} 0 1 = cc in omega arith
none_gives (allowed ∷ rs) h a e q = none_gives rs h.1 a e q
none_gives (refused c ∷ rs) h a e q = h.0 a e q

rows_none : (w : World) (c : Call) → is_unfit w ≡ false → Each NotTwenty (rows w c)
unfolding rows
rows_none w c fit = (
  other (given c) 10 (1 ∷ []) _ refl,
  (
    other (given c) 11 (1 ∷ []) _ refl,
    (
      other_named (given c) _ (1 ∷ []) _ refl,
      (
        other (given c) 13 (1 ∷ []) _ refl,
        (
          other_named (given c) _ (1 ∷ []) _ refl,
          (
            other_named (given c) _ (1 ∷ []) _ refl,
            (
              off (given c) 20 all_but_start (is_unfit w) fit,
              (
                other (given c) 21 (2 ∷ 7 ∷ 8 ∷ []) _ refl,
                (
                  other (given c) 22 (2 ∷ []) _ refl,
                  (
                    other (given c) 23 (3 ∷ 4 ∷ []) _ refl,
                    (
                      other (given c) 23 (5 ∷ 6 ∷ []) _ refl,
                      (
                        other (given c) 23 (7 ∷ []) _ refl,
                        (
                          other (given c) 23 (9 ∷ 11 ∷ []) _ refl,
                          (
                            other (given c) 23 (12 ∷ 13 ∷ []) _ refl,
                            (
                              other (given c) 24 (7 ∷ []) _ refl,
                              (
                                other (given c) 25 (8 ∷ []) _ refl,
                                (
                                  other (given c) 26 (9 ∷ []) _ refl,
                                  (
                                    other (given c) 27 (9 ∷ []) _ refl,
                                    (
                                      other (given c) 28 (11 ∷ []) _ refl,
                                      (
                                        other (given c) 29 (3 ∷ 4 ∷ []) _ refl,
                                        (
                                          other (given c) 29 (5 ∷ 6 ∷ []) _ refl,
                                          (
                                            other (given c) 29 (12 ∷ 13 ∷ []) _ refl,
                                            (
                                              other (given c) 30 (3 ∷ 5 ∷ 10 ∷ []) _ refl,
                                              tt,
                                            ),
                                          ),
                                        ),
                                      ),
                                    ),
                                  ),
                                ),
                              ),
                            ),
                          ),
                        ),
                      ),
                    ),
                  ),
                ),
              ),
            ),
          ),
        ),
      ),
    ),
  ),
)

pub never_20 : (r : Run) → Never20 r
never_20 r c a e q =
    let w = now r in
    none_gives (rows w c) (rows_none w c (standing r).fit) a
    (is_first (rows w c) a (((refusals_are_exact w c).refused a).0 e)) q
