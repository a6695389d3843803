-- The cases of unfitness, one law each, and the turns of the loop over the shared FIFO's places.
-- Assumes nothing.
use Rattle.std.proofs.Common.{zero-add, Option}
use Rattle.std.specs.Fn.{Called}
use Rattle.std.specs.Iterator.{FoldsItems}
use Rattle.std.specs.List.{list_any, range_with_len}
use Rattle.std.proofs.lemmas.Fn.{fold_over}
use Rattle.std.proofs.lemmas.Iterator.{YieldsList}
use Rattle.words.specs.Choice.{pick}
use Prim.Native.Nat.{ℕ, zero, suc, ◌+◌, ◌/◌, ◌^◌, ◌≤◌, ◌<◌}
use mathlib.Core.Path.{◌≡◌, refl, sym, ap, ◌∙◌}
use mathlib.Core.Bool.{Bool, true, false, not, beq, ◌&&◌, ◌||◌}
use mathlib.Core.List.{List, [], ◌∷◌, ◌++◌}
use Rattle.std.proofs.Math.Bool.{or-false}
use Rattle.std.proofs.lemmas.List.Folds.{list_any-append}
use borrow.Author.Tests.{eq-eqb, lt-ltb, le-ltb}
use native.Mathlib.Nat.{div-eq_of_lt, lt_of_lt_of_le}
use native.Mathlib.Omega.{arith}
use denote.Param.Members.{Mut}
use lib.Dec.{ltb}
use lib.Pow.{pow_mono}
use Rattle.words.specs.Least.{least_from}
use Rattle.engine.specs.Fitness.{shared_ring_size, past, differs}
use Rattle.engine.specs.Fitness.{shared_unfit}
use Rattle.engine.specs.declared.state.State.{State}

-- a word of 64 bits has none at 64 or above
pub none_past : (w n : ℕ) → w < 2 ^ 64 → 64 ≤ n → past w n ≡ false
none_past w n h l = ap not (eq-eqb (w / 2 ^ n) 0 (div-eq_of_lt (lt_of_lt_of_le h (pow_mono l))))

-- one bit against another
pub unlike : (h b : Bool) → not (beq h b) ≡ (h && not b || not h && b)
unlike true true = refl
unlike true false = refl
unlike false true = refl
unlike false false = refl

-- one more number is tested
any_more : (p : ℕ → Bool) (ys : List ℕ) (a : Bool) (x : ℕ) (b : Bool) → a ≡ list_any p ys → b ≡ (a || p x)
    → b ≡ list_any p (ys ++ (x ∷ []))
any_more p ys a x b e l =
    l
    ∙ ap (λ (t : Bool). t || p x) e
    ∙ ap (λ (t : Bool). list_any p ys || t) (sym (or-false (p x)))
    ∙ sym (list_any-append p ys (x ∷ []))

-- a fold that tests each number says whether one passes
pub any_folded : {S F : Type 0} {steps : S → Option ℕ → S → Type 0} {g : Mut F (Bool × (ℕ × Unit {0})) Bool} {s : S}
    {all : List ℕ} (p : ℕ → Bool) (f : F)
    → ((a : Bool) (x : ℕ) (b : Bool) (q : F) → Called g f (a, (x, tt)) b q → (b ≡ (a || p x)) × (q ≡ f))
    → YieldsList steps (λ x. x) s all → (r : Bool) → FoldsItems steps g s f false r → r ≡ list_any p all
any_folded {S} {F} {steps} {g} {s} {all} p f so road r ran =
    fold_over steps (λ x. x) g (λ ys b. b ≡ list_any p ys) f
    (λ ys a x b q j k. let u = so a x b q k in (any_more p ys a x b j u.0, u.1))
    s all false r road.runs refl ran

-- some number passes exactly where the lowest that does is one of them
any_least : (p : ℕ → Bool) (i n : ℕ) → list_any p (range_with_len i n) ≡ ltb (least_from p i n) (i + n)
unfolding least_from
any_least p i zero = sym (le-ltb i (i + 0) (omega arith))
any_least p i (suc n) = go (p i) (any_least p (i + 1) n)
  where
    go : (b : Bool) → list_any p (range_with_len (i + 1) n) ≡ ltb (least_from p (i + 1) n) (i + 1 + n)
        → (b || list_any p (range_with_len (i + 1) n)) ≡ ltb (pick b i (least_from p (suc i) n)) (i + suc n)
    go true e = sym (lt-ltb i (i + suc n) (omega arith))
    go false e =
        let a : suc i ≡ i + 1 = omega arith in
        let b : i + suc n ≡ i + 1 + n = omega arith in
        rw (a, b) e

pub any_differs : (s : State) (n : ℕ) → n ≡ shared_ring_size s.regs
    → list_any (differs s) (range_with_len 0 n) ≡ shared_unfit s
unfolding shared_unfit
any_differs s n e =
    any_least (differs s) 0 n
    ∙ ap (ltb (least_from (differs s) 0 n)) (zero-add n)
    ∙ ap (λ (m : ℕ). ltb (least_from (differs s) 0 m) m) e
