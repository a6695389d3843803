-- Which refusal a call gives, and what it leaves.
-- Assumes nothing.
use Prim.Native.Nat.{ℕ}
use mathlib.Core.Path.{◌≡◌, refl, sym, ap, ◌∙◌}
use mathlib.Core.List.{List, [], ◌∷◌, ◌++◌}
use Rattle.words.specs.Rules.{Ruling, allowed, refused, ◌or_else◌, first, settle}
use Rattle.words.proofs.Rulings.{both_allowed, first_refused, refused_first, all_allowed, allowed_all, settled}
use Rattle.shape.specs.Refusals.{Refusal, Refusals, First}
use Rattle.shape.specs.Calls.{Says, refuses, answers, Outcome, outcome, Effect, effected, call}
use Rattle.shape.specs.Promises.{CallsAreShaped, OutcomesTellAll}

-- ---- rows

-- rows, and more rows
pub rows_then : (xs ys : Refusals) → first (xs ++ ys) ≡ (first xs or_else first ys)
rows_then [] ys = refl
rows_then (x ∷ xs) ys = ap (λ (q : Ruling Refusal). x or_else q) (rows_then xs ys) ∙ grouped x (first xs) (first ys)
  where
    grouped : (r q t : Ruling Refusal) → (r or_else (q or_else t)) ≡ ((r or_else q) or_else t)
    grouped allowed q t = refl
    grouped (refused n) q t = refl

pub rows_both : (xs ys : Refusals) → first (xs ++ ys) ≡ allowed → (first xs ≡ allowed) × (first ys ≡ allowed)
rows_both xs ys e = both_allowed (first xs) (first ys) (sym (rows_then xs ys) ∙ e)

-- the first of them
pub first_is : (rows : Refusals) (a : Refusal) → first rows ≡ refused a → First rows a
first_is rows a e =
    let d = first_refused rows a e in record { place = d.0; inside = d.1.0; here = d.1.1; before = d.1.2 }

pub is_first : (rows : Refusals) (a : Refusal) → First rows a → first rows ≡ refused a
is_first rows a f = refused_first rows f.place a (f.inside, f.here, f.before)

-- ---- a call

module _ {W A : Type 0} (w : W) (out : List ℕ) (rows : Refusals) (e : Effect W A) where
  pub call_refused : (n : Refusal) → first rows ≡ refused n → call w out rows e ≡ outcome (refuses n) w out
  unfolding call
  call_refused n p = ap (λ (v : Ruling Refusal). settle v (effected e) (λ k. outcome (refuses k) w out)) p

  pub call_done : first rows ≡ allowed → call w out rows e ≡ effected e
  unfolding call
  call_done p = ap (λ (v : Ruling Refusal). settle v (effected e) (λ k. outcome (refuses k) w out)) p

  -- what is shown of a refusal and of the effect is shown of the call
  pub call_cases : (P : Outcome W A → Type 0) → ((n : Refusal) → P (outcome (refuses n) w out))
      → (first rows ≡ allowed → P (effected e)) → P (call w out rows e)
  unfolding call
  call_cases P turned through = settled P (first rows) (effected e) (λ n. outcome (refuses n) w out) turned through

  -- what it says is what its rows come to
  pub call_says : (v : Ruling Refusal) → first rows ≡ v → (n : Refusal) → (call w out rows e).says ≡ refuses n
      → v ≡ refused n
  call_says allowed p n q =
      let z : ◌≡◌ {A = Says A} (answers e.answer) (refuses n) =
      sym (ap (λ (o : Outcome W A). o.says) (call_done p)) ∙ q in
      cc
  call_says (refused k) p n q =
      let z : ◌≡◌ {A = Says A} (refuses k) (refuses n) =
      sym (ap (λ (o : Outcome W A). o.says) (call_refused k p)) ∙ q in
      let same : k ≡ n = cc in
      ap refused same

  pub call_does : (v : Ruling Refusal) → first rows ≡ v → (a : A) → (call w out rows e).says ≡ answers a → v ≡ allowed
  call_does allowed p a q = refl
  call_does (refused k) p a q =
      let z : ◌≡◌ {A = Says A} (refuses k) (answers a) =
      sym (ap (λ (o : Outcome W A). o.says) (call_refused k p)) ∙ q in
      cc

  -- an answer is the effect's
  pub call_answers : (a : A) → (call w out rows e).says ≡ answers a
      → (first rows ≡ allowed) × (call w out rows e ≡ effected e)
  call_answers a q = let p = call_does (first rows) refl a q in (p, call_done p)

pub calls_are_shaped : CallsAreShaped
calls_are_shaped W A w out rows e = record {
  refused = λ n. (
    λ q. first_is rows n (call_says w out rows e (first rows) refl n q),
    λ f. ap (λ (o : Outcome W A). o.says) (call_refused w out rows e n (is_first rows n f)),
  );
  stays = λ n q. call_refused w out rows e n (call_says w out rows e (first rows) refl n q);
  accepted = (
    λ q k h. all_allowed rows (call_does w out rows e (first rows) refl q.0 q.1) k,
    λ f. (e.answer, ap (λ (o : Outcome W A). o.says) (call_done w out rows e (allowed_all rows f))),
  );
  done = λ f. call_done w out rows e (allowed_all rows f);
}

pub outcomes_tell_all : OutcomesTellAll
outcomes_tell_all W A x y v w l m e =
    (ap (λ (o : Outcome W A). o.says) e, ap (λ (o : Outcome W A). o.world) e, ap (λ (o : Outcome W A). o.output) e)

-- what can be made again of what it means: no two of them mean the same
pub made_again : {L O : Type 0} (means : L → O) (back : O → L) → ((l : L) → back (means l) ≡ l) → (a b : L)
    → means a ≡ means b → a ≡ b
made_again means back same a b e = sym (same a) ∙ ap back e ∙ same b
