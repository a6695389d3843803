-- A word put together of fields that stand apart has each number in its field and no other bit set: for every kind.
-- Assumes nothing.
use Prim.Native.Nat.{ℕ, ◌+◌, ◌-◌, ◌*◌, ◌%◌, ◌^◌, ◌≤◌, ◌<◌}
use mathlib.Core.Path.{◌≡◌, refl, sym, ap, ap₂, subst, ◌∙◌}
use mathlib.Core.Bool.{Bool, true, ◌&&◌}
use mathlib.Core.List.{List, [], ◌∷◌}
use native.Mathlib.Nat.{mod-eq_of_lt, lt_of_lt_of_le, mul-lt-mul_of_pos_right, mul_assoc, add_assoc, add-mul, zero-add}
use native.Mathlib.Omega.{arith}
use borrow.Author.Tests.{ltb-true, leb-true, eq-eqb}
use lib.Bits.{bit_and, and_block, and_mask}
use lib.Dec.{T, ltb, leb}
use lib.Arith.{digits_lt}
use lib.Pow.{pow_pos, pow_mono, pow-add, high_ones, high, low}
use Rattle.words.specs.Fields.{mask_of}
use Rattle.words.proofs.Choices.{and_left, and_right, T_true}
use Rattle.registers.specs.Kinds.{Field, field, Fit, placed, Stand, Built}

-- a test that antt computes: each field is below a bit, and the next below its lowest
abbrev pub falling : ℕ → List Field → Bool
falling top [] = true
falling top (f ∷ fs) = ltb f.0 top && leb f.1 f.0 && falling f.1 fs

pub record Falls (top : ℕ) (f : Field) (fs : List Field) : Type 0 where
  pub below : f.0 < top
  pub order : f.1 ≤ f.0
  pub rest : T (falling f.1 fs)

falls : (top : ℕ) (f : Field) (fs : List Field) → T (falling top (f ∷ fs)) → Falls top f fs
falls top f fs t =
    let here = and_left (ltb f.0 top && leb f.1 f.0) (falling f.1 fs) t in
    record {
      below = ltb-true f.0 top (T_true _ (and_left (ltb f.0 top) (leb f.1 f.0) here));
      order = leb-true f.1 f.0 (T_true _ (and_right (ltb f.0 top) (leb f.1 f.0) here));
      rest = and_right (ltb f.0 top && leb f.1 f.0) (falling f.1 fs) t;
    }

-- below a bit: the word, the mask of its fields, and the word is what the mask keeps of it
pub record Kept (top w m : ℕ) : Type 0 where
  pub word : w < 2 ^ top
  pub mask : m < 2 ^ top
  pub kept : bit_and w m ≡ w

-- a number in a field of a word is one of 32 bits
pub placed_fits : (top from n : ℕ) → from ≤ top → top < 32 → n < 2 ^ (top + 1 - from) → n * 2 ^ from < 2 ^ 32
placed_fits top from n order below holds =
    let wide : top + 1 - from + from ≡ top + 1 = omega (arith, order) in
    let over : n * 2 ^ from < 2 ^ (top + 1 - from + from) =
    rw (pow-add 2 (top + 1 - from) from) (mul-lt-mul_of_pos_right holds (pow_pos from)) in
    let up : top + 1 ≤ 32 = omega (arith, below) in
    lt_of_lt_of_le (subst (λ (x : ℕ). n * 2 ^ from < 2 ^ x) wide over) (pow_mono up)

-- a number on top of what is kept below it
on_top : (wide low n w mask : ℕ) → n < 2 ^ wide → Kept low w mask
    → Kept (wide + low) (n * 2 ^ low + w) (2 ^ (wide + low) - 2 ^ low + mask)
on_top wide low n w mask holds k = record {
  word = rw (pow-add 2 wide low) (digits_lt holds k.word);
  mask = let up : low ≤ wide + low = omega arith in omega (arith, k.mask, pow_mono up);
  kept =
      ap (λ (x : ℕ). bit_and (n * 2 ^ low + w) (x + mask)) (high_ones wide low)
      ∙ and_block low n (2 ^ wide - 1) w mask k.word k.mask
      ∙ ap₂ (λ (x y : ℕ). x * 2 ^ low + y) (and_mask n wide ∙ mod-eq_of_lt holds) k.kept;
}

lifted : (low top w mask : ℕ) → low ≤ top → Kept low w mask → Kept top w mask
lifted low top w mask h k = record {
  word = lt_of_lt_of_le k.word (pow_mono h);
  mask = lt_of_lt_of_le k.mask (pow_mono h);
  kept = k.kept;
}

le_split : (low top : ℕ) → low ≤ top → top ≡ top - low + low
le_split low top h = omega arith

regroup : (above wide low n w : ℕ) → above * 2 ^ (wide + low) + (n * 2 ^ low + w) ≡ (above * 2 ^ wide + n) * 2 ^ low + w
regroup above wide low n w =
    ap (λ (x : ℕ). above * x + (n * 2 ^ low + w)) (pow-add 2 wide low)
    ∙ ap (λ (x : ℕ). x + (n * 2 ^ low + w)) (sym (mul_assoc above (2 ^ wide) (2 ^ low)))
    ∙ sym (add_assoc (above * 2 ^ wide * 2 ^ low) (n * 2 ^ low) w)
    ∙ ap (λ (x : ℕ). x + w) (sym (add-mul (above * 2 ^ wide) n (2 ^ low)))

lowest : (above wide k n : ℕ) → k ≤ wide → n < 2 ^ k → (above * 2 ^ wide + n) % 2 ^ k ≡ n
lowest above wide k n h l =
    ap (λ (x : ℕ). (x + n) % 2 ^ k)
    (ap (λ (x : ℕ). above * 2 ^ x) (le_split k wide h) ∙ ap (λ (x : ℕ). above * x) (pow-add 2 (wide - k) k)
    ∙ sym (mul_assoc above (2 ^ (wide - k)) (2 ^ k)))
    ∙ low (above * 2 ^ (wide - k)) k l

all_kept : (top : ℕ) (fs : List Field) (ns : List ℕ) → T (falling top fs) → Fit fs ns
    → Kept top (placed fs ns) (mask_of fs)
all_kept top [] [] t h = record { word = pow_pos top; mask = pow_pos top; kept = refl }
all_kept top [] (n ∷ ns) t h = absurd h
all_kept top (f ∷ fs) [] t h = absurd h
all_kept top (f ∷ fs) (n ∷ ns) t h =
    let g = falls top f fs t in
    let wide : f.0 + 1 - f.1 + f.1 ≡ f.0 + 1 = omega (arith, g.order) in
    let k = on_top (f.0 + 1 - f.1) f.1 n (placed fs ns) (mask_of fs) h.0 (all_kept f.1 fs ns g.rest h.1) in
    lifted (f.0 + 1) top _ _ (omega (arith, g.below))
    (subst (λ (x : ℕ). Kept x (n * 2 ^ f.1 + placed fs ns) (2 ^ x - 2 ^ f.1 + mask_of fs)) wide k)

-- each field holds its number, whatever stands above them all
all_stand : (top : ℕ) (fs : List Field) (ns : List ℕ) (above : ℕ) → T (falling top fs) → Fit fs ns
    → Stand fs ns (above * 2 ^ top + placed fs ns)
all_stand top [] [] above t h = tt
all_stand top [] (n ∷ ns) above t h = absurd h
all_stand top (f ∷ fs) [] above t h = absurd h
all_stand top (f ∷ fs) (n ∷ ns) above t h =
    let g = falls top f fs t in
    let w = placed fs ns in
    let up = top - f.1 in
    let more = above * 2 ^ up + n in
    let joined : above * 2 ^ top + (n * 2 ^ f.1 + w) ≡ more * 2 ^ f.1 + w =
    ap (λ (x : ℕ). above * 2 ^ x + (n * 2 ^ f.1 + w)) (le_split f.1 top (omega (arith, g.below, g.order)))
    ∙ regroup above up f.1 n w in
    let front : field f (more * 2 ^ f.1 + w) ≡ n =
    ap (λ (x : ℕ). x % 2 ^ (f.0 + 1 - f.1)) (high more f.1 (all_kept f.1 fs ns g.rest h.1).word)
    ∙ lowest above up (f.0 + 1 - f.1) n (omega (arith, g.below, g.order)) h.0 in (
      ap (λ (x : ℕ). field f x) joined ∙ front,
      subst (Stand fs ns) (sym joined) (all_stand f.1 fs ns more g.rest h.1),
    )

pub built : (fs : List Field) (ns : List ℕ) (w : ℕ) → falling 32 fs ≡ true → Fit fs ns → w ≡ placed fs ns
    → Built fs ns w
built fs ns w apart h e =
    let t : T (falling 32 fs) = subst T (sym apart) tt in
    subst (Built fs ns) (sym e) (record {
      word = refl;
      fields = subst (Stand fs ns) (zero-add (placed fs ns)) (all_stand 32 fs ns 0 t h);
      named = eq-eqb _ _ (all_kept 32 fs ns t h).kept;
    })
