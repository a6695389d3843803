-- Bytes put into words come back.
-- Assumes nothing.
use mathlib.Core.Path.{◌≡◌, sym, ap, ◌∙◌}
use mathlib.Core.List.{List, [], ◌∷◌}
use Prim.Native.Nat.{ℕ, zero, suc, ◌+◌, ◌*◌, ◌^◌, ◌/◌, ◌%◌, ◌<◌, ◌≤◌}
use native.Mathlib.Omega.{arith}
use lib.ListN.{length, get_or, take}
use lib.Seq.{ext_get_or, get_or-take, length-take-le}
use Rattle.words.specs.Bytes.{byte_of, word_of, byte_in}
use Rattle.words.specs.Runs.{run}
use Rattle.words.proofs.Runs.{length_run, get_or_run}

lane_back : (a b c e j : ℕ) → a < 256 → b < 256 → c < 256 → e < 256 → j < 4
    → byte_of (a + b * 2 ^ 8 + c * 2 ^ 16 + e * 2 ^ 24) j ≡ get_or (a ∷ b ∷ c ∷ e ∷ []) j 0
lane_back a b c e zero ha hb hc he hj = omega arith
lane_back a b c e (suc zero) ha hb hc he hj = omega arith
lane_back a b c e (suc (suc zero)) ha hb hc he hj = omega arith
lane_back a b c e (suc (suc (suc zero))) ha hb hc he hj = omega arith
lane_back a b c e (suc (suc (suc (suc j)))) ha hb hc he hj = absurd (omega arith)

module _ (d : List ℕ) (small : (i : ℕ) → get_or d i 0 < 256) where
  lanes : (k j i : ℕ) → j < 4 → i ≡ 4 * k + j
      → get_or (get_or d (4 * k) 0 ∷ get_or d (4 * k + 1) 0 ∷ get_or d (4 * k + 2) 0 ∷ get_or d (4 * k + 3) 0 ∷ []) j 0
      ≡ get_or d i 0
  lanes k zero i h e = ap (λ (x : ℕ). get_or d x 0) (omega arith)
  lanes k (suc zero) i h e = ap (λ (x : ℕ). get_or d x 0) (omega arith)
  lanes k (suc (suc zero)) i h e = ap (λ (x : ℕ). get_or d x 0) (omega arith)
  lanes k (suc (suc (suc zero))) i h e = ap (λ (x : ℕ). get_or d x 0) (omega arith)
  lanes k (suc (suc (suc (suc j)))) i h e = absurd (omega arith)

  -- byte i of the data is byte i % 4 of word i / 4
  pub byte_back : (i : ℕ) → byte_of (word_of d (i / 4)) (i % 4) ≡ get_or d i 0
  unfolding word_of
  byte_back i =
      lane_back _ _ _ _ (i % 4) (small (4 * (i / 4))) (small (4 * (i / 4) + 1)) (small (4 * (i / 4) + 2))
      (small (4 * (i / 4) + 3)) (omega arith)
      ∙ lanes (i / 4) (i % 4) i (omega arith) (omega arith)

  -- words that hold the data give its bytes back
  pub bytes_back : (mem : List ℕ) (at n : ℕ) → ((k : ℕ) → k < n → get_or mem (at + k) 0 ≡ word_of d k)
      → (count : ℕ) → count ≤ 4 * n → count ≤ length d → run (byte_in mem at) 0 count ≡ take count d
  unfolding byte_in
  bytes_back mem at n holds count h l =
      ext_get_or 0 _ _ (length_run _ 0 count ∙ sym (length-take-le count d l))
      (λ i k. let b : i < count = omega (arith, length_run (byte_in mem at) 0 count) in
      get_or_run (byte_in mem at) 0 count i b
      ∙ ap (byte_in mem at) (omega arith)
      ∙ ap (λ (w : ℕ). byte_of w (i % 4)) (holds (i / 4) (omega arith))
      ∙ byte_back i
      ∙ sym (get_or-take count d i 0 b))
