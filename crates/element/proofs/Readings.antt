-- What a read of an element gives, and its bytes as sent, from the parts that the code has.
-- Assumes nothing.
use Prim.Native.Nat.{ℕ, ◌+◌, ◌-◌, ◌*◌, ◌<◌, ◌≤◌, min}
use Rattle.std.specs.Prelude.{◌≢◌}
use mathlib.Core.Path.{◌≡◌, refl, sym, ap, ◌∙◌}
use mathlib.Core.Bool.{Bool, true, false}
use mathlib.Core.List.{List, ◌++◌, append_assoc}
use lib.ListN.{length, get_or, set, take, drop, length-take, length-drop}
use Rattle.std.proofs.lemmas.List.{drop-drop, get_or-set_same, get_or-set_other}
use native.Mathlib.Omega.{arith}
use borrow.Author.Tests.{lt-ltb, eqb-true, eqb-false}
use lib.Dec.{eqb}
use Rattle.words.specs.Choice.{pick}
use Rattle.words.specs.Runs.{run, splice}
use Rattle.words.specs.Bytes.{byte_in}
use Rattle.words.proofs.Runs.{run_alike, front_rest, length_run, splice_length}
use Rattle.element.specs.Headers.{rx_header_in, headed}
use Rattle.element.specs.Bytes.{length_of, read_count, rx_read, read_bytes, sent_byte, sent_from}
use Rattle.element.specs.declared.RxHeader.{RxHeader}

-- a list that has the values at its first i places, and one more
pub one_more_at : (f : ℕ → ℕ) (l : List ℕ) (i v : ℕ) → i < length l → ((k : ℕ) → k < i → get_or l k 0 ≡ f k) → v ≡ f i
    → (k : ℕ) → k < i + 1 → get_or (set l i v) k 0 ≡ f k
one_more_at f l i v h at e k b = go (eqb k i) refl
  where
    go : (t : Bool) → eqb k i ≡ t → get_or (set l i v) k 0 ≡ f k
    go true y =
        let same : k ≡ i = eqb-true k i y in
        ap (λ (j : ℕ). get_or (set l i v) j 0) same ∙ get_or-set_same l i v 0 h ∙ e ∙ ap f (sym same)
    go false y =
        let other : k ≢ i = eqb-false k i y in
        get_or-set_other l i k v 0 other ∙ at k (omega (arith, b, other))

module _ (mem : List ℕ) (at n : ℕ) where
  module _ (header : RxHeader) (len count : ℕ) (e : header ≡ headed rx_header_in mem at)
      (l : len ≡ length_of header.frame) (k : count ≡ min len (4 * n)) where
    counted : count ≡ read_count mem at n
    unfolding read_count rx_header_in
    counted = rw (k, l, e)

    pub rx_read_is : record { header = header; count = count } ≡ rx_read mem at n
    unfolding rx_read
    rx_read_is = rw (e, counted)

    pub rx_bytes : (out last : List ℕ) → last ≡ splice out 0 (run (byte_in mem (at + 2)) 0 count)
        → last ≡ splice out 0 (read_bytes mem at n)
    unfolding read_bytes
    rx_bytes out last s = s ∙ rw counted

  -- the bytes that the element holds, as many as are wanted, and those behind them
  module _ (count held : ℕ) (out held_out filled : List ℕ) (e : held ≡ min count (4 * n))
      (so : held_out ≡ splice out 0 (run (byte_in mem (at + 2)) 0 held))
      (past : filled ≡ run (λ i. sent_byte mem at n (held + i)) 0 (length (take (count - held) (drop held held_out))))
      (h : count ≤ length out) where
    abbrev behind : ℕ → ℕ
    behind i = sent_byte mem at n (held + i)

    held_length : length held_out ≡ length out
    held_length =
        let size : length (run (byte_in mem (at + 2)) 0 held) ≡ held = length_run (byte_in mem (at + 2)) 0 held in
        ap length so ∙ splice_length out 0 (run (byte_in mem (at + 2)) 0 held) (omega arith)

    past_is : filled ≡ run behind 0 (count - held)
    past_is = past ∙ ap (run behind 0) (simp (length-take, length-drop) (omega (arith, held_length)))

    past_length : length filled ≡ count - held
    past_length = ap length past_is ∙ length_run behind 0 (count - held)

    held_is : held_out ≡ splice out 0 (run (sent_byte mem at n) 0 held)
    unfolding sent_byte
    held_is =
        so
        ∙ ap (splice out 0)
        (run_alike (byte_in mem (at + 2)) (sent_byte mem at n) 0 0 held
        (λ i b. sym (ap (λ (t : Bool). pick t (byte_in mem (at + 2) (0 + i)) 0xCC) (lt-ltb (0 + i) (4 * n) (omega arith)))))

    spliced : take held held_out ++ (filled ++ drop (count - held) (drop held held_out)) ≡ splice held_out held filled
    unfolding splice
    spliced =
        sym (append_assoc (take held held_out) filled (drop (count - held) (drop held held_out)))
        ∙ ap (λ (r : List ℕ). take held held_out ++ filled ++ r) (drop-drop (count - held) held held_out)
        ∙ ap (λ (k : ℕ). take held held_out ++ filled ++ drop (held + k) held_out) (sym past_length)

    pub sent_both : take held held_out ++ (filled ++ drop (count - held) (drop held held_out))
        ≡ splice out 0 (sent_from mem at n count)
    unfolding sent_from
    sent_both =
        front_rest (sent_byte mem at n) out held_out (take held held_out ++ (filled ++ drop (count - held) (drop held held_out)))
        held count (4 * n) held_is e (spliced ∙ ap (splice held_out held) past_is) h
