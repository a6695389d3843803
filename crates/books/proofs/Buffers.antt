-- The buffers hold the book's pending requests: what follows from it, and that it stays so when one comes or goes.
-- Assumes nothing.
use Prim.Native.Nat.{ℕ, zero, suc, ◌+◌, ◌^◌, ◌≤◌, ◌<◌}
use mathlib.Core.Path.{◌≡◌, refl, sym, ap, ◌∙◌}
use mathlib.Core.Bool.{Bool, true, false, not}
use mathlib.Core.List.{List, [], ◌∷◌, ◌++◌}
use native.Mathlib.Omega.{arith}
use lib.Dec.{eqb, ltb}
use lib.ListN.{length, get_or}
use borrow.Author.Tests.{ne_eqb, eqb-true, eqb-false, ltb-true, ltb-false, not-true}
use Rattle.words.specs.Bits.{bit, is_set, with_bit, without_bit, how_many}
use Rattle.words.specs.Runs.{splice}
use Rattle.words.proofs.BitLaws.{bit_lt, bit_of_zero, set_same, set_other}
use Rattle.words.proofs.BitLaws.{cleared_same, cleared_other, cleared_clear, below_power}
use Rattle.places.specs.Areas.{place_in, words_at}
use Rattle.places.specs.declared.Area.{Area}
use Rattle.places.proofs.Stores.{element_kept, store_there, store_other}
use Rattle.books.specs.Lists.{tally, those, others, Each}
use Rattle.books.specs.Requests.{Accepted, RequestBook, is_buffer, has_pending}
use Rattle.books.specs.Pending.{InBuffer, BuffersHold}
use Rattle.books.specs.Promises.{NonePending, BuffersElsewhere, BufferFilled, BufferCleared}
use Rattle.books.specs.Promises.{PendingTold, PendingWords, PendingCounted, PendingBelow}
use Rattle.books.proofs.Lists.{tally_append, tally_one, tally_none, tally_split, tally_both, length_those}
use Rattle.books.proofs.Lists.{each_first, each_snoc, each_map, each_unless, each_passes, each_those}

-- ---- the bits, of any requests

module _ {R : Type 0} (es : List (Accepted R)) (w : ℕ) (bits : (b : ℕ) → tally (is_buffer b) es ≡ bit w b) where
  -- a buffer has a pending request exactly where its bit is set
  told_bit : (b : ℕ) → ltb 0 (tally (is_buffer b) es) ≡ is_set w b
  told_bit b = grind (arith, bits b, bit_lt w b)

  put_bits : (e : Accepted R) → bit w e.buffer ≡ 0
      → (b : ℕ) → tally (is_buffer b) (es ++ e ∷ []) ≡ bit (with_bit w e.buffer) b
  put_bits e z b = grind (arith, tally_append, tally_one, bits b, set_same, set_other)

  clear_bits : (n : ℕ) → ((k : ℕ) → n ≤ k → bit w k ≡ 0) → (b : ℕ) → b < n
      → (k : ℕ) → tally (is_buffer k) (others (is_buffer b) es) ≡ bit (without_bit n w b) k
  clear_bits n past b h k = go (eqb k b) refl (ltb k n) refl
    where
      left : (k ≡ b → ⊥) → tally (is_buffer k) (others (is_buffer b) es) ≡ bit w k
      left ne =
          let none = tally_both (is_buffer k) (is_buffer b)
          (λ x g. ne_eqb x.buffer k (λ f. ne (sym f ∙ eqb-true x.buffer b g))) es in
          omega (arith, tally_split (is_buffer k) (is_buffer b) es, bits k)

      go : (t : Bool) → eqb k b ≡ t → (u : Bool) → ltb k n ≡ u
          → tally (is_buffer k) (others (is_buffer b) es) ≡ bit (without_bit n w b) k
      go true q u r =
          let f : k ≡ b = eqb-true k b q in
          rw (f, cleared_same n w b h)
          (tally_both (is_buffer b) (λ x. not (is_buffer b x)) (λ x g. not-true (is_buffer b x) g) es)
      go false q true r =
          let ne = eqb-false k b q in
          left ne ∙ sym (cleared_other n w b k h (ltb-true k n r) ne)
      go false q false r =
          let z : bit w k ≡ 0 = past k (ltb-false k n r) in
          left (eqb-false k b q) ∙ z ∙ sym (cleared_clear n w (2 ^ b) k z)

-- ---- how many there are, buffer by buffer

module _ {R : Type 0} where
  -- how many of these are in the buffers below n
  in_buffers : List (Accepted R) → ℕ → ℕ
  in_buffers es zero = 0
  in_buffers es (suc n) = tally (is_buffer n) es + in_buffers es n

  -- one more, in a buffer below n or not
  one_past : (e : Accepted R) (es : List (Accepted R)) (n : ℕ) → n ≤ e.buffer → in_buffers (e ∷ es) n ≡ in_buffers es n
  unfolding in_buffers tally
  one_past e es zero h = refl
  one_past e es (suc n) h = rw (ne_eqb e.buffer n (λ c. omega arith)) (omega (arith, one_past e es n (omega arith)))

  one_in : (e : Accepted R) (es : List (Accepted R)) (n : ℕ) → e.buffer < n
      → in_buffers (e ∷ es) n ≡ suc (in_buffers es n)
  unfolding in_buffers tally
  one_in e es zero h = absurd (omega arith)
  one_in e es (suc n) h = grind (arith, one_past e es n, one_in e es n)

  all_in : (es : List (Accepted R)) (n : ℕ) → Each (λ e. e.buffer < n) es → in_buffers es n ≡ length es
  unfolding in_buffers tally
  all_in [] zero h = refl
  all_in [] (suc n) h = omega (arith, all_in [] n h)
  all_in (e ∷ es) n h = one_in e es n h.0 ∙ ap suc (all_in es n h.1)

  bits_in : (w : ℕ) (es : List (Accepted R)) → ((b : ℕ) → tally (is_buffer b) es ≡ bit w b)
      → (n : ℕ) → how_many (is_set w) n ≡ in_buffers es n
  unfolding in_buffers how_many
  bits_in w es bits zero = refl
  bits_in w es bits (suc n) = grind (arith, bits n, bit_lt w n, bits_in w es bits n)

-- ---- the buffers

pub none_pending : NonePending
unfolding tally
none_pending R a words mem = record { bits = λ b. sym (bit_of_zero b); stands = tt }

module _ {R : Type 0} (a : Area) (words : R → List ℕ) (es : List (Accepted R)) (w : ℕ) (mem : List ℕ)
    (h : BuffersHold a words es w mem) where
  -- no bit past the last buffer
  none_past : (b : ℕ) → a.count ≤ b → bit w b ≡ 0
  none_past b l =
      sym (h.bits b)
      ∙ tally_none (is_buffer b) es
      (each_map (InBuffer a words mem) _ es (λ e t. ne_eqb e.buffer b (λ f. omega (arith, t.inside))) h.stands)

pub buffers_elsewhere : BuffersElsewhere
buffers_elsewhere R a words es w mem h room next same = record {
  bits = h.bits;
  stands = each_map (InBuffer a words mem) (InBuffer a words next) es
      (λ e t. record {
        inside = t.inside;
        there = element_kept a mem next room same e.buffer t.inside ∙ t.there;
      })
      h.stands;
}

pub buffer_filled : BufferFilled
buffer_filled R a words es w mem h room e inside clear sized =
    let ws = words e.request in
    let next = splice mem (place_in a e.buffer) ws in
    let there = store_there a mem room e.buffer inside ws sized in
    let others = store_other a mem room e.buffer inside ws sized in
    let alone : tally (is_buffer e.buffer) es ≡ 0 = h.bits e.buffer ∙ clear in
    record {
      bits = put_bits es w h.bits e clear;
      stands =
          each_snoc (InBuffer a words next) es e
          (each_unless (is_buffer e.buffer) (InBuffer a words mem) (InBuffer a words next) es alone
          (λ x n t. record {
            inside = t.inside;
            there = others x.buffer (eqb-false x.buffer e.buffer n) t.inside ∙ t.there;
          })
          h.stands)
          (record { inside = inside; there = there });
    }

pub buffer_cleared : BufferCleared
buffer_cleared R a words es w mem h n few b inside = record {
  bits = clear_bits es w h.bits n (λ k past. none_past a words es w mem h k (omega arith)) b (omega arith);
  stands = each_those (λ x. not (is_buffer b x)) (InBuffer a words mem) es h.stands;
}

-- ---- what the book tells

pub pending_told : PendingTold
pending_told R a words l w mem h b = told_bit l.pending w h.bits b

-- the entry that is pending in a buffer: it is of that buffer, and what is true of each is true of it
module _ {R : Type 0} (l : RequestBook R) (d : Accepted R) (b : ℕ) (e : has_pending l b ≡ true) where
  abbrev here : List (Accepted R)
  here = those (is_buffer b) l.pending

  some_here : 0 < length here
  some_here =
      omega (arith, ltb-true 0 (tally (is_buffer b) l.pending) e, length_those (is_buffer b) l.pending)

  its_buffer : is_buffer b (get_or here 0 d) ≡ true
  its_buffer = each_first (λ x. is_buffer b x ≡ true) d here some_here (each_passes (is_buffer b) l.pending)

  pub pending_has : (P : Accepted R → Type 0) → Each P l.pending → P (get_or here 0 d)
  pending_has P h = each_first P d here some_here (each_those (is_buffer b) P l.pending h)

pub pending_words : PendingWords
pending_words R a words l w mem h none b e =
    let d : Accepted R = record { number = 0; buffer = 0; request = none } in
    ap (λ (k : ℕ). words_at a k mem) (sym (eqb-true _ b (its_buffer l d b e)))
    ∙ (pending_has l d b e (InBuffer a words mem) h.stands).there

pub pending_counted : PendingCounted
pending_counted R a words l w mem h =
    bits_in w l.pending h.bits a.count
    ∙ all_in l.pending a.count (each_map (InBuffer a words mem) _ l.pending (λ e t. t.inside) h.stands)

pub pending_below : PendingBelow
pending_below R a words l w mem h = below_power w a.count (none_past a words l.pending w mem h)
