-- The Rx buffers: what is stored in one is what the book says, until it is released.
-- Assumes nothing.
use Prim.Native.Nat.{ℕ, ◌-◌, ◌^◌, ◌≤◌, ◌<◌}
use mathlib.Core.Path.{◌≡◌, refl, sym, ap, ◌∙◌}
use mathlib.Core.Bool.{Bool, true, false}
use mathlib.Core.List.{List, ◌∷◌}
use native.Mathlib.Omega.{arith}
use borrow.Author.Tests.{eqb-true, eqb-false, eq-eqb}
use lib.Dec.{eqb}
use lib.ListN.{length}
use Rattle.words.specs.Choice.{pick}
use Rattle.words.specs.Bits.{bit, is_set, with_bit, without_mask, without_bit}
use Rattle.words.specs.Runs.{splice}
use Rattle.words.proofs.BitLaws.{bit_lt, bit_of_and, set_other}
use Rattle.registers.specs.Fields.{buffers}
use Rattle.registers.specs.declared.Registers.{Registers}
use Rattle.places.specs.Areas.{area_end, place_in, words_at}
use Rattle.places.proofs.Stores.{store_there, store_other}
use Rattle.areas.specs.Areas.{buffer_area}
use Rattle.history.specs.Books.{InRxBuffer, last_in}
use Rattle.history.specs.Standing.{BuffersAgree}

module _ (g : Registers) (newdata : ℕ) (buffered : List InRxBuffer) (mem : List ℕ)
    (h : BuffersAgree g newdata buffered mem) where
  -- one is stored
  pub put_buffer : area_end (buffer_area g) ≤ length mem → (b : ℕ) → b < buffers g → (ws : List ℕ)
      → length ws ≡ (buffer_area g).each
      → BuffersAgree g (with_bit newdata b) (record { buffer = b; words = ws } ∷ buffered)
      (splice mem (place_in (buffer_area g) b) ws)
  unfolding last_in
  put_buffer room b l ws w = record {
    inside = λ n e. place n (eqb b n) refl e;
    words = λ n e. there n (eqb b n) refl e;
  }
    where
      before : (n : ℕ) → eqb b n ≡ false → is_set (with_bit newdata b) n ≡ true → is_set newdata n ≡ true
      before n f e = ap (λ (x : ℕ). eqb x 1) (sym (set_other newdata b n (λ c. eqb-false b n f (sym c)))) ∙ e

      place : (n : ℕ) (t : Bool) → eqb b n ≡ t → is_set (with_bit newdata b) n ≡ true → n < buffers g
      place n true f e = omega (arith, eqb-true b n f)
      place n false f e = h.inside n (before n f e)

      there : (n : ℕ) (t : Bool) → eqb b n ≡ t → is_set (with_bit newdata b) n ≡ true
          → words_at (buffer_area g) n (splice mem (place_in (buffer_area g) b) ws) ≡ pick t ws (last_in n buffered)
      there n true f e =
          ap (λ (x : ℕ). words_at (buffer_area g) x (splice mem (place_in (buffer_area g) b) ws)) (sym (eqb-true b n f))
          ∙ store_there (buffer_area g) mem room b l ws w
      there n false f e =
          store_other (buffer_area g) mem room b l ws w n (λ c. eqb-false b n f (sym c)) (h.inside n (before n f e))
          ∙ h.words n (before n f e)

  -- one is released
  pub buffer_freed : (b : ℕ) → BuffersAgree g (without_bit 64 newdata b) buffered mem
  unfolding without_mask
  buffer_freed b = record { inside = λ n e. h.inside n (before n e); words = λ n e. h.words n (before n e) }
    where
      before : (n : ℕ) → is_set (without_bit 64 newdata b) n ≡ true → is_set newdata n ≡ true
      before n e =
          let one : bit (without_bit 64 newdata b) n ≡ 1 = eqb-true (bit (without_bit 64 newdata b) n) 1 e in
          eq-eqb (bit newdata n) 1 (omega (arith, one, bit_of_and newdata (2 ^ 64 - 1 - 2 ^ b) n, bit_lt newdata n))
