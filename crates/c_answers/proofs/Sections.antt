-- Seven sections looked at one by one.
-- Assumes nothing.
use Rattle.std.proofs.Common.{ℕ, suc, ◌<◌, ◌≡◌, List, [], ◌∷◌, length, get_or, drop, ap, arith, drop-cons, drop_of_length-le}
use Rattle.layout.specs.Sections.{none}
use Rattle.layout.specs.declared.sections.Section.{Section}
use Rattle.starting.specs.Starting.{flat}

abbrev at : List Section → ℕ → Section
at ss i = get_or ss i none

pub seven : (ss : List Section) → length ss ≡ 7
    → flat ss ≡ flat (at ss 0 ∷ at ss 1 ∷ at ss 2 ∷ at ss 3 ∷ at ss 4 ∷ at ss 5 ∷ at ss 6 ∷ [])
seven ss e =
    let next : (i : ℕ) → i < 7 → drop i ss ≡ at ss i ∷ drop (suc i) ss = λ i h. drop-cons ss i none (omega arith) in
    let whole : ss ≡ at ss 0 ∷ at ss 1 ∷ at ss 2 ∷ at ss 3 ∷ at ss 4 ∷ at ss 5 ∷ at ss 6 ∷ [] =
    cc (
      next 0 (omega arith),
      next 1 (omega arith),
      next 2 (omega arith),
      next 3 (omega arith),
      next 4 (omega arith),
      next 5 (omega arith),
      next 6 (omega arith),
      drop_of_length-le ss {i = 7} (omega arith),
    ) in
    ap flat whole
