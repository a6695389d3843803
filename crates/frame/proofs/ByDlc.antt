-- The table of lengths and that of sizes, each by what the paper says of it.
-- Assumes nothing.
use Prim.Native.Nat.{ℕ, ◌+◌, ◌-◌, ◌*◌, ◌<◌}
use mathlib.Core.Path.{◌≡◌, refl, sym, subst}
use mathlib.Core.Bool.{Bool, true, false}
use mathlib.Core.List.{[], ◌∷◌}
use native.Mathlib.Omega.{arith}
use lib.Dec.{eqb, eqb→eq}
use lib.ListN.{get_or}
use Rattle.words.proofs.Tables.{every, every_at}
use Rattle.frame.specs.Length.{fd_bytes, data_length}
use Rattle.frame.specs.Sizes.{element_bytes}
use Rattle.frame.specs.Promises.{LengthTells, LengthIsByDlc, SizesAreByCode}
use Rattle.frame.proofs.Lengths.{length_remote, length_fd, length_classic}
use Rattle.frame.proofs.SizeLaws.{words_of_bytes}

-- the FD table in one formula
abbrev formula : ℕ → ℕ
formula dlc = dlc + 3 * (dlc - 8) + 4 * (dlc - 12) + 8 * (dlc - 13)

fd_formula : (dlc : ℕ) → dlc < 16 → get_or fd_bytes dlc 0 ≡ formula dlc
unfolding every
fd_formula dlc h = eqb→eq (get_or fd_bytes dlc 0) (formula dlc) (every_at (λ i x. eqb x (formula i)) fd_bytes tt dlc h)

size_formula : (code : ℕ) → code < 8 → element_bytes code ≡ formula (code + 8)
unfolding every
size_formula code h =
    eqb→eq (element_bytes code) (formula (code + 8))
    (every_at (λ i x. eqb x (formula (i + 8))) (8 ∷ 12 ∷ 16 ∷ 20 ∷ 24 ∷ 32 ∷ 48 ∷ 64 ∷ []) tt code h)

module _ (dlc : ℕ) where
  fd_length : (rtr fdf : Bool) → rtr ≡ false → fdf ≡ true → dlc < 16 → data_length rtr fdf dlc ≡ formula dlc
  fd_length rtr fdf a b h = omega (arith, length_fd rtr fdf dlc a b, fd_formula dlc h)

  short_length : (rtr fdf : Bool) → rtr ≡ false → dlc < 9 → data_length rtr fdf dlc ≡ dlc
  short_length rtr true a h = omega (arith, fd_length rtr true a refl (omega arith))
  short_length rtr false a h = omega (arith, length_classic rtr false dlc a refl)

pub length_is_by_dlc : LengthIsByDlc
length_is_by_dlc rtr fdf dlc = record {
  remote = λ a. sym (length_remote rtr fdf dlc a);
  short = λ a h. short_length dlc rtr fdf a (omega arith);
  classic = λ a b h. omega (arith, length_classic rtr fdf dlc a b);
  steps = λ a b h k. omega (arith, fd_length dlc rtr fdf a b (omega arith));
  at13 = λ a b h. omega (arith, fd_length dlc rtr fdf a b (omega arith));
  at14 = λ a b h. omega (arith, fd_length dlc rtr fdf a b (omega arith));
  at15 = λ a b h. omega (arith, fd_length dlc rtr fdf a b (omega arith));
}

pub sizes_are_by_code : SizesAreByCode
sizes_are_by_code code = record {
  bytes = λ h.
      subst (LengthTells false true (code + 8))
      (omega (arith, fd_length (code + 8) false true refl refl (omega arith), size_formula code h))
      (length_is_by_dlc false true (code + 8));
  words = λ h. omega (arith, words_of_bytes code h);
}
