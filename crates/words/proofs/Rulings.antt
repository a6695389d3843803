-- What a row of rules comes to: allowed exactly where each is, and refused exactly by the first that refuses.
-- Assumes nothing.
use Prim.Native.Nat.{ℕ, zero, suc, ◌<◌}
use mathlib.Core.Path.{◌≡◌, refl, ap, ◌∙◌}
use mathlib.Core.Bool.{Bool, true, false}
use mathlib.Core.List.{List, [], ◌∷◌}
use native.Mathlib.Omega.{arith}
use lib.ListN.{length, get_or}
use Rattle.words.specs.Rules.{Ruling, allowed, refused, is_allowed, refuse_if, ◌or_else◌, first, settle}

module _ {A : Type 0} where
  -- two rules
  pub passed : {r : Ruling A} (q : Ruling A) → r ≡ allowed → (r or_else q) ≡ q
  passed q e = ap (λ (r : Ruling A). r or_else q) e

  pub halted : {r : Ruling A} {a : A} (q : Ruling A) → r ≡ refused a → (r or_else q) ≡ refused a
  halted q e = ap (λ (r : Ruling A). r or_else q) e

  pub both_allowed : (r q : Ruling A) → (r or_else q) ≡ allowed → (r ≡ allowed) × (q ≡ allowed)
  both_allowed allowed q e = (refl, e)
  both_allowed (refused a) q e = (e, cc)

  -- a ruling as it is tested
  pub allowed_is : (r : Ruling A) → is_allowed r ≡ true → r ≡ allowed
  allowed_is allowed e = refl
  allowed_is (refused a) e = cc

  pub settle_allowed : {B : Type 0} (r : Ruling A) (b : B) (f : A → B) → is_allowed r ≡ true → settle r b f ≡ b
  settle_allowed allowed b f e = refl
  settle_allowed (refused a) b f e = cc

  -- where it is refused, and what is made of a refusal does not look at it
  pub settle_refused : {B : Type 0} (r : Ruling A) (b c : B) → is_allowed r ≡ false → settle r b (λ a. c) ≡ c
  settle_refused allowed b c e = cc
  settle_refused (refused a) b c e = refl

  -- one rule
  pub held_off : (t : Bool) (a : A) → refuse_if t a ≡ allowed → t ≡ false
  held_off true a e = cc
  held_off false a e = refl

  pub refused_by : (t : Bool) (a b : A) → refuse_if t a ≡ refused b → (t ≡ true) × (a ≡ b)
  refused_by true a b e = (refl, cc)
  refused_by false a b e = (cc, cc)

  pub let_pass : {t : Bool} (a : A) → t ≡ false → refuse_if t a ≡ allowed
  let_pass a e = ap (λ (t : Bool). refuse_if t a) e

  pub turned_down : {t : Bool} (a : A) → t ≡ true → refuse_if t a ≡ refused a
  turned_down a e = ap (λ (t : Bool). refuse_if t a) e

  -- one, two and three rules that all allow
  pub one_rule : (x : Bool) (a : A) → first (refuse_if x a ∷ []) ≡ allowed → x ≡ false
  one_rule x a e = held_off x a (both_allowed (refuse_if x a) (first []) e).0

  pub all_two : (x y : Bool) (a b : A) → first (refuse_if x a ∷ refuse_if y b ∷ []) ≡ allowed → (x ≡ false) × (y ≡ false)
  all_two x y a b e =
      let p = both_allowed (refuse_if x a) (first (refuse_if y b ∷ [])) e in
      (held_off x a p.0, one_rule y b p.1)

  pub all_three : (x y z : Bool) (a b c : A) → first (refuse_if x a ∷ refuse_if y b ∷ refuse_if z c ∷ []) ≡ allowed
      → (x ≡ false) × (y ≡ false) × (z ≡ false)
  all_three x y z a b c e =
      let p = both_allowed (refuse_if x a) (first (refuse_if y b ∷ refuse_if z c ∷ [])) e in
      let q = all_two y z b c p.1 in
      (held_off x a p.0, q.0, q.1)

  -- two rules found first, and a third after them
  pub two_refuse : (r q t : Ruling A) {a : A} → (r or_else (q or_else allowed)) ≡ refused a
      → (r or_else (q or_else t)) ≡ refused a
  two_refuse allowed allowed t e = cc
  two_refuse allowed (refused b) t e = e
  two_refuse (refused b) q t e = e

  pub two_allow : (r q t : Ruling A) → (r or_else (q or_else allowed)) ≡ allowed → (r or_else (q or_else t)) ≡ t
  two_allow allowed allowed t e = refl
  two_allow allowed (refused b) t e = cc
  two_allow (refused b) q t e = cc

  -- what is shown of both ways is shown of what is settled
  pub settled : {B : Type 0} (P : B → Type 0) (v : Ruling A) (b : B) (f : A → B) → ((a : A) → P (f a))
      → (v ≡ allowed → P b) → P (settle v b f)
  settled P allowed b f p q = q refl
  settled P (refused a) b f p q = p a

  pub stops : {B : Type 0} {rule : Ruling A} (b : B) (f : A → B) {a : A} → rule ≡ refused a → settle rule b f ≡ f a
  stops b f e = ap (λ (r : Ruling A). settle r b f) e

  -- any number of rules: rule k refuses so and each before it allows, exactly where that is the answer
  abbrev pub Decides : List (Ruling A) → ℕ → A → Type 0
  Decides rs k a = (k < length rs) × (get_or rs k allowed ≡ refused a) × ((j : ℕ) → j < k → get_or rs j allowed ≡ allowed)

  pub refused_first : (rs : List (Ruling A)) (k : ℕ) (a : A) → Decides rs k a → first rs ≡ refused a
  refused_first [] k a d = absurd (omega (arith, d.0))
  refused_first (r ∷ rs) zero a d = halted (first rs) d.1
  refused_first (r ∷ rs) (suc k) a d =
      passed (first rs) (d.2 0 (omega arith))
      ∙ refused_first rs k a (omega (arith, d.0), d.1, λ j h. d.2 (suc j) (omega arith))

  pub first_refused : (rs : List (Ruling A)) (a : A) → first rs ≡ refused a → (k : ℕ) × Decides rs k a
  first_refused [] a e = let z : ◌≡◌ {A = ℕ} 0 1 = cc in absurd (omega arith)
  first_refused (allowed ∷ rs) a e =
      let i = first_refused rs a e in
      (suc i.0, (omega (arith, i.1.0), i.1.1, later i.0 i.1.2))
    where
      later : (k : ℕ) → ((j : ℕ) → j < k → get_or rs j allowed ≡ allowed) → (j : ℕ) → j < suc k
          → get_or (allowed ∷ rs) j allowed ≡ allowed
      later k h zero l = refl
      later k h (suc j) l = h j (omega arith)
  first_refused (refused b ∷ rs) a e = (zero, (omega arith, e, λ j h. absurd (omega arith)))

  pub all_allowed : (rs : List (Ruling A)) → first rs ≡ allowed → (k : ℕ) → get_or rs k allowed ≡ allowed
  all_allowed [] e k = refl
  all_allowed (r ∷ rs) e zero = (both_allowed r (first rs) e).0
  all_allowed (r ∷ rs) e (suc k) = all_allowed rs (both_allowed r (first rs) e).1 k

  pub allowed_all : (rs : List (Ruling A)) → ((k : ℕ) → k < length rs → get_or rs k allowed ≡ allowed)
      → first rs ≡ allowed
  allowed_all [] h = refl
  allowed_all (r ∷ rs) h = passed (first rs) (h 0 (omega arith)) ∙ allowed_all rs (λ k l. h (suc k) (omega arith))
