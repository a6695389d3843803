-- A read looks at the element's own words alone.
-- Assumes nothing.
use Prim.Native.Nat.{ℕ, ◌+◌, ◌*◌, ◌/◌, ◌%◌, ◌<◌, min}
use mathlib.Core.Path.{◌≡◌, refl, sym, ap, ap₂, ◌∙◌}
use mathlib.Core.Bool.{Bool, true, false}
use mathlib.Core.List.{List}
use native.Mathlib.Omega.{arith}
use borrow.Author.Tests.{ltb-true}
use lib.Dec.{ltb}
use lib.ListN.{get_or}
use Rattle.words.specs.Choice.{pick}
use Rattle.words.specs.Runs.{run, part}
use Rattle.words.specs.Bytes.{byte_of, byte_in}
use Rattle.words.proofs.Runs.{run_alike}
use Rattle.words.proofs.Parts.{get_d_part}
use Rattle.element.specs.Headers.{frame_in, headed}
use Rattle.element.specs.Bytes.{length_of, read_count, read_bytes, sent_byte, sent_from}
use Rattle.element.specs.Promises.{OwnWords}

-- two functions that agree have the same run
pub run_same : (f g : ℕ → ℕ) (k n : ℕ) → ((i : ℕ) → i < k + n → f i ≡ g i) → run f k n ≡ run g k n
run_same f g k n same = run_alike f g k k n (λ i l. same (k + i) (omega arith))

-- bytes that agree inside the element go out alike
pub sent_alike : (a b n i : ℕ) → (i < 4 * n → a ≡ b) → pick (ltb i (4 * n)) a 0xCC ≡ pick (ltb i (4 * n)) b 0xCC
sent_alike a b n i same = go (ltb i (4 * n)) refl
  where
    go : (t : Bool) → ltb i (4 * n) ≡ t → pick t a 0xCC ≡ pick t b 0xCC
    go true e = same (ltb-true i (4 * n) e)
    go false e = refl

module _ (mem other : List ℕ) (at to n : ℕ) (own : part at (2 + n) mem ≡ part to (2 + n) other) where
  word_alike : (i k m : ℕ) → i < 2 + n → k ≡ at + i → m ≡ to + i → get_or mem k 0 ≡ get_or other m 0
  word_alike i k m l e f =
      ap (λ (x : ℕ). get_or mem x 0) e
      ∙ sym (get_d_part at (2 + n) mem i l)
      ∙ ap (λ (p : List ℕ). get_or p i 0) own
      ∙ get_d_part to (2 + n) other i l
      ∙ ap (λ (x : ℕ). get_or other x 0) (sym f)

  byte_alike : (i : ℕ) → i < 4 * n → byte_in mem (at + 2) i ≡ byte_in other (to + 2) i
  unfolding byte_in
  byte_alike i l =
      ap (λ (w : ℕ). byte_of w (i % 4))
      (word_alike (2 + i / 4) (at + 2 + i / 4) (to + 2 + i / 4) (omega arith) (omega arith) (omega arith))

  first_alike : get_or mem at 0 ≡ get_or other to 0
  first_alike = word_alike 0 at to (omega arith) (omega arith) (omega arith)

  second_alike : get_or mem (at + 1) 0 ≡ get_or other (to + 1) 0
  second_alike = word_alike 1 (at + 1) (to + 1) (omega arith) (omega arith) (omega arith)

  read_alike : read_bytes mem at n ≡ read_bytes other to n
  unfolding read_bytes read_count
  read_alike =
      run_same (byte_in mem (at + 2)) (byte_in other (to + 2)) 0 (min (length_of (headed frame_in mem at)) (4 * n))
      (λ i l. byte_alike i (omega arith))
      ∙ ap (λ (k : ℕ). run (byte_in other (to + 2)) 0 (min k (4 * n)))
      (ap length_of (ap₂ frame_in first_alike second_alike))

  sent_from_alike : (count : ℕ) → sent_from mem at n count ≡ sent_from other to n count
  unfolding sent_from sent_byte
  sent_from_alike count =
      run_same (sent_byte mem at n) (sent_byte other to n) 0 count
      (λ i l. sent_alike (byte_in mem (at + 2) i) (byte_in other (to + 2) i) n i (byte_alike i))

pub own_words : OwnWords
own_words mem other at to n own = record {
  first = first_alike mem other at to n own;
  second = second_alike mem other at to n own;
  read = read_alike mem other at to n own;
  sent = sent_from_alike mem other at to n own;
}
