-- Lists of bits: their order at the first difference is that of their values.
-- Assumes nothing.
use Prim.Native.Nat.{ℕ, zero, suc, ◌+◌, ◌-◌, ◌*◌, ◌/◌, ◌%◌, ◌^◌, ◌≤◌, ◌<◌}
use mathlib.Core.Path.{◌≡◌, refl, sym, ap, ap₂, ◌∙◌, subst}
use mathlib.Core.Logic.{◌↔◌}
use mathlib.Core.List.{List, [], ◌∷◌, ◌++◌}
use native.Mathlib.Nat.{pow-suc, mod-one, add-mul, mul_assoc, add_assoc}
use native.Mathlib.Numerals.{one-add}
use native.Mathlib.Omega.{arith}
use lib.Pow.{pow_pos, pow-add, mod-pow-add, shr-shr}
use lib.ListN.{length}
use Rattle.words.specs.Bits.{bit}
use Rattle.words.specs.Runs.{run}
use Rattle.frame.specs.Arbitration.{Wins, here, later}

-- ---- lists of 0 and 1

pub data Binary : List ℕ → Type 0 where
  none : Binary []
  more : {x : ℕ} {l : List ℕ} → x < 2 → Binary l → Binary (x ∷ l)

pub binary_append : {a b : List ℕ} → Binary a → Binary b → Binary (a ++ b)
binary_append none q = q
binary_append (more h p) q = more h (binary_append p q)

pub binary_run : (f : ℕ → ℕ) → ((i : ℕ) → f i < 2) → (k n : ℕ) → Binary (run f k n)
unfolding run
binary_run f h k zero = none
binary_run f h k (suc n) = more (h k) (binary_run f h (suc k) n)

-- ---- the value of a list at a width, the first bit the highest

unfoldable pub value : ℕ → List ℕ → ℕ
value w [] = 0
value zero (x ∷ l) = 0
value (suc w) (x ∷ l) = x * 2 ^ w + value w l

value_lt : (w : ℕ) {l : List ℕ} → Binary l → value w l < 2 ^ w
unfolding value
value_lt w none = pow_pos w
value_lt zero (more h p) = omega arith
value_lt (suc w) (more {x = zero} h p) = omega (arith, value_lt w p, pow-suc 2 w)
value_lt (suc w) (more {x = suc zero} h p) = omega (arith, value_lt w p, pow-suc 2 w)
value_lt (suc w) (more {x = suc (suc x)} h p) = absurd (omega arith)

-- a digit in front
digit : (b p q m v : ℕ) → b * (p * q) + (m * q + v) ≡ (b * p + m) * q + v
digit b p q m v = simp (add-mul, mul_assoc, add_assoc)

-- the bits of a number down to bit low, and what follows them
pub value_run : (x h k n low w t : ℕ) (rest : List ℕ) → h + 1 ≡ k + n + low → t ≡ n + w
    → value t (run (λ i. bit x (h - i)) k n ++ rest) ≡ x / 2 ^ low % 2 ^ n * 2 ^ w + value w rest
unfolding value run
value_run x h k zero low w t rest e d =
    let same : t ≡ w = omega arith in
    ap (λ (u : ℕ). value u rest) same ∙ rw mod-one (omega arith)
value_run x h k (suc n) low w zero rest e d = absurd (omega arith)
value_run x h k (suc n) low w (suc t) rest e d =
    let place : h - k ≡ low + n = omega arith in
    let width : t ≡ n + w = omega arith in
    let y = x / 2 ^ low in
    ap₂ ◌+◌ (ap₂ (λ (i u : ℕ). bit x i * 2 ^ u) place width) (value_run x h (suc k) n low w t rest (omega arith) width)
    ∙ ap (λ (c : ℕ). c * 2 ^ (n + w) + (y % 2 ^ n * 2 ^ w + value w rest))
    (ap (λ (m : ℕ). m % 2) (sym (shr-shr x low n)))
    ∙ ap (λ (u : ℕ). y / 2 ^ n % 2 * u + (y % 2 ^ n * 2 ^ w + value w rest)) (pow-add 2 n w)
    ∙ digit (y / 2 ^ n % 2) (2 ^ n) (2 ^ w) (y % 2 ^ n) (value w rest)
    ∙ ap (λ (m : ℕ). m * 2 ^ w + value w rest) (sym (mod-pow-add y 1 n) ∙ ap (λ (u : ℕ). y % 2 ^ u) (one-add n))

-- ---- the order

pub wins_value : (w : ℕ) {a b : List ℕ} → Binary a → Wins a b → length a ≤ w → value w a < value w b
unfolding value
wins_value zero {b = b} none k l = elim k [ ]
wins_value (suc w) {b = b} none k l = elim k [ ]
wins_value zero (more h p) here l = absurd (omega arith)
wins_value (suc w) (more h p) here l = omega (arith, value_lt w p)
wins_value zero (more h p) (later q) l = absurd (omega arith)
wins_value (suc w) (more h p) (later q) l = omega (arith, wins_value w p q (omega arith))

-- two lists are the same, or one of them wins
pub data Compared (a b : List ℕ) : Type 0 where
  same : a ≡ b → Compared a b
  first : Wins a b → Compared a b
  second : Wins b a → Compared a b

pub flipped : {a b : List ℕ} → Compared a b → Compared b a
flipped (same e) = same (sym e)
flipped (first q) = second q
flipped (second q) = first q

wins_append : {a b : List ℕ} (c d : List ℕ) → Wins a b → Wins (a ++ c) (b ++ d)
wins_append c d here = here
wins_append c d (later q) = later (wins_append c d q)

wins_under : (l : List ℕ) {a b : List ℕ} → Wins a b → Wins (l ++ a) (l ++ b)
wins_under [] q = q
wins_under (x ∷ l) q = later (wins_under l q)

under : (l : List ℕ) {a b : List ℕ} → Compared a b → Compared (l ++ a) (l ++ b)
under l (same e) = same (ap (λ (r : List ℕ). l ++ r) e)
under l (first q) = first (wins_under l q)
under l (second q) = second (wins_under l q)

pub compared_append : {a b : List ℕ} (c d : List ℕ) → Compared a b → Compared c d → Compared (a ++ c) (b ++ d)
compared_append {a} {b} c d (same e) q = subst (λ (l : List ℕ). Compared (a ++ c) (l ++ d)) e (under a q)
compared_append c d (first p) q = first (wins_append c d p)
compared_append c d (second p) q = second (wins_append d c p)

pub compared_bit : (x y : ℕ) → x < 2 → y < 2 → Compared (x ∷ []) (y ∷ [])
compared_bit zero zero h k = same refl
compared_bit zero (suc zero) h k = first here
compared_bit (suc zero) zero h k = second here
compared_bit (suc zero) (suc zero) h k = same refl
compared_bit (suc (suc x)) y h k = absurd (omega arith)
compared_bit zero (suc (suc y)) h k = absurd (omega arith)
compared_bit (suc zero) (suc (suc y)) h k = absurd (omega arith)

pub compared_run : (f g : ℕ → ℕ) → ((i : ℕ) → f i < 2) → ((i : ℕ) → g i < 2) → (k n : ℕ)
    → Compared (run f k n) (run g k n)
unfolding run
compared_run f g h j k zero = same refl
compared_run f g h j k (suc n) =
    compared_append (run f (suc k) n) (run g (suc k) n) (compared_bit (f k) (g k) (h k) (j k))
    (compared_run f g h j (suc k) n)

-- so lists that can be compared are ordered as their values are
pub ordered : (w : ℕ) {a b : List ℕ} {m n : ℕ} → Binary a → Binary b → length a ≤ w → length b ≤ w → value w a ≡ m
    → value w b ≡ n → Compared a b
    → (m < n ↔ Wins a b) × (m ≡ n ↔ a ≡ b)
ordered w {a} {b} {m} {n} p q h k d e c =
    ((smaller c, λ r. omega (arith, wins_value w p r h)), (equal c, λ i. sym d ∙ ap (value w) i ∙ e))
  where
    smaller : Compared a b → m < n → Wins a b
    smaller (same i) l = absurd (omega (arith, ap (value w) i))
    smaller (first r) l = r
    smaller (second r) l = absurd (omega (arith, wins_value w q r k))

    equal : Compared a b → m ≡ n → a ≡ b
    equal (same i) l = i
    equal (first r) l = absurd (omega (arith, wins_value w p r h))
    equal (second r) l = absurd (omega (arith, wins_value w q r k))
