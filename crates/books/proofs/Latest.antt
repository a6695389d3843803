-- The sent and cancelled bits tell what became of each buffer's latest request: of each buffer there is at most one.
-- Assumes nothing.
use Prim.Native.Nat.{ℕ, suc, ◌+◌, ◌^◌, ◌%◌, ◌≤◌, ◌<◌}
use mathlib.Core.Path.{◌≡◌, refl, sym, ap, ◌∙◌}
use mathlib.Core.Bool.{Bool, true, false, not, ◌&&◌}
use mathlib.Core.List.{List, [], ◌∷◌, ◌++◌}
use native.Mathlib.Nat.{div-eq_of_lt, lt_of_lt_of_le}
use native.Mathlib.Omega.{arith}
use lib.Dec.{eqb, ltb, leb}
use lib.ListN.{length}
use lib.Pow.{pow_mono}
use borrow.Author.Tests.{ne_eqb, eq-eqb, eqb-true, eqb-false, ltb-true, ltb-false, le-leb, lt-leb}
use Rattle.words.specs.Bits.{bit, with_bit, without_bit}
use Rattle.words.proofs.BitLaws.{bit_of_zero, set_same, set_other, cleared_same, cleared_other, cleared_clear}
use Rattle.words.proofs.Choices.{and_both}
use Rattle.books.specs.Lists.{tally, those, Each, Numbered}
use Rattle.books.specs.Requests.{Accepted, RequestBook, is_buffer, accepted_in, note_request, has_pending}
use Rattle.books.specs.Balance.{accepted_number, RequestsBalanced}
use Rattle.books.specs.Pending.{is_later, is_latest, LatestAre, BitsTell}
use Rattle.books.specs.Promises.{NoBits, RequestClearsBits, SendSetsBit, CancelSetsBit}
use Rattle.books.proofs.Lists.{tally_append, tally_one, tally_all, tally_split, tally_both, length_those}
use Rattle.books.proofs.Lists.{each_snoc, each_unless, each_passes, each_those, numbered_snoc, length_snoc}

-- what passes one test passes another: there are no more of the first
tally_le : {A : Type 0} (p q : A → Bool) → ((x : A) → p x ≡ true → q x ≡ true) → (xs : List A)
    → tally p xs ≤ tally q xs
unfolding tally
tally_le p q f [] = omega arith
tally_le p q f (x ∷ xs) = grind (arith, f x, tally_le p q f xs)

each_two : {A : Type 0} (P Q S : A → Type 0) (xs : List A) → ((x : A) → P x → Q x → S x) → Each P xs → Each Q xs
    → Each S xs
each_two P Q S [] f e g = tt
each_two P Q S (x ∷ xs) f e g = (f x e.0 g.0, each_two P Q S xs f e.1 g.1)

module _ {R : Type 0} where
  -- of those numbered from lo on, none has a number past the last
  under : (lo n : ℕ) (xs : List (Accepted R)) → Numbered accepted_number lo xs → lo + length xs ≤ n
      → tally (λ x. leb n x.number) xs ≡ 0
  unfolding tally
  under lo n [] s h = refl
  under lo n (x ∷ xs) s h = rw (lt-leb n x.number (omega (arith, s.0)))
      (omega (arith, under (suc lo) n xs s.1 (omega arith)))

  -- so none came after one with the last number
  none_later : (e : Accepted R) (lo : ℕ) (xs : List (Accepted R)) → Numbered accepted_number lo xs
      → lo + length xs ≤ suc e.number → tally (is_later e) xs ≡ 0
  none_later e lo xs s h =
      let few = tally_le (is_later e) (λ x. leb (suc e.number) x.number)
      (λ x t. le-leb (suc e.number) x.number
      (omega (arith, ltb-true e.number x.number (and_both (is_buffer e.buffer x) _ t).1))) xs in
      omega (arith, few, under lo (suc e.number) xs s h)

  -- the latest of a buffer is that buffer's, and none came after it
  its_own : (all : List (Accepted R)) (b : ℕ) (x : Accepted R) → is_latest all b x ≡ true → is_buffer b x ≡ true
  unfolding is_latest
  its_own all b x t = (and_both (is_buffer b x) (eqb (tally (is_later x) all) 0) t).0

  none_after : (all : List (Accepted R)) (b : ℕ) (x : Accepted R) → is_latest all b x ≡ true
      → tally (is_later x) all ≡ 0
  unfolding is_latest
  none_after all b x t =
      eqb-true (tally (is_later x) all) 0 (and_both (is_buffer b x) (eqb (tally (is_later x) all) 0) t).1

  latest_is : (all : List (Accepted R)) (b : ℕ) (x : Accepted R) → is_buffer b x ≡ true → tally (is_later x) all ≡ 0
      → is_latest all b x ≡ true
  unfolding is_latest
  latest_is all b x t z = rw (t, eq-eqb (tally (is_later x) all) 0 z) refl

  not_latest : (all : List (Accepted R)) (b k : ℕ) → (b ≡ k → ⊥) → (x : Accepted R) → is_buffer b x ≡ true
      → is_latest all k x ≡ false
  unfolding is_latest
  not_latest all b k ne x t =
      ap (λ (u : Bool). u && eqb (tally (is_later x) all) 0)
      (ne_eqb x.buffer k (λ f. ne (sym (eqb-true x.buffer b t) ∙ f)))

  -- ---- each buffer has at most one

  module _ (all : List (Accepted R)) (b : ℕ) where
    -- those numbered after x that are of its buffer came after it
    all_later : (x : Accepted R) → x.buffer ≡ b → (lo : ℕ) (xs : List (Accepted R)) → Numbered accepted_number lo xs
        → x.number < lo → tally (is_latest all b) xs ≤ tally (is_later x) xs
    unfolding tally
    all_later x own lo [] s h = omega arith
    all_later x own lo (y ∷ ys) s h = grind (arith, its_own all b y, all_later x own (suc lo) ys s.1)

    one_latest : (lo : ℕ) (xs : List (Accepted R)) → Numbered accepted_number lo xs
        → ((q : Accepted R → Bool) → tally q xs ≤ tally q all) → tally (is_latest all b) xs ≤ 1
    unfolding tally
    one_latest lo [] s sub = omega arith
    one_latest lo (x ∷ xs) s sub =
        grind (
          arith,
          its_own all b x,
          none_after all b x,
          sub (is_later x),
          all_later x,
          one_latest (suc lo) xs s.1 (λ q. omega (arith, sub q)),
        )

  -- ---- another request comes

  module _ (all : List (Accepted R)) (e : Accepted R) where
    -- in another buffer: the latest is as it was
    latest_kept : (b : ℕ) → (e.buffer ≡ b → ⊥) → (x : Accepted R) → is_latest (all ++ e ∷ []) b x ≡ is_latest all b x
    unfolding is_latest
    latest_kept b ne x = grind (arith, tally_append, tally_one)

    -- in its own: none with a smaller number is the latest
    latest_gone : (x : Accepted R) → is_latest (all ++ e ∷ []) e.buffer x ≡ true → leb e.number x.number ≡ true
    latest_gone x t = grind (arith, tally_append, tally_one, its_own (all ++ e ∷ []) e.buffer x t, none_after (all ++ e ∷ []) e.buffer x t)

-- no bit is set past a word's width
bit_past : (w n k : ℕ) → w < 2 ^ n → n ≤ k → bit w k ≡ 0
bit_past w n k h l = ap (λ (x : ℕ). x % 2) (div-eq_of_lt (lt_of_lt_of_le h (pow_mono l)))

-- ---- the bits

pub no_bits : NoBits
unfolding tally
no_bits R = record { sent = λ b. sym (bit_of_zero b); cancelled = λ b. sym (bit_of_zero b); pending = tt }

module _ {R : Type 0} (l : RequestBook R) (sent cancelled : ℕ) (h : BitsTell l sent cancelled)
    (balanced : RequestsBalanced l) where
  abbrev all : List (Accepted R)
  all = l.requested

  -- ---- a request comes, in a buffer where none is pending

  module _ (n : ℕ) (q : R) (b : ℕ) (inside : b < n) (free : has_pending l b ≡ false) where
    abbrev e : Accepted R
    e = accepted_in l b q

    -- a part of those accepted before: of its buffer none is the latest any more
    part_cleared : (these : List (Accepted R)) (word : ℕ) → word < 2 ^ n
        → ((t : Accepted R → Bool) → tally t these ≤ tally t l.requested) → LatestAre l these word
        → (k : ℕ) → tally (is_latest (all ++ e ∷ []) k) these ≡ bit (without_bit n word b) k
    part_cleared these word small sub was k = go (eqb b k) refl (ltb k n) refl
      where
        go : (t : Bool) → eqb b k ≡ t → (u : Bool) → ltb k n ≡ u
            → tally (is_latest (l.requested ++ accepted_in l b q ∷ []) k) these ≡ bit (without_bit n word b) k
        go true y u g =
            let none = under 0 (length all) all balanced.numbered (omega arith) in
            let few = tally_le (is_latest (all ++ e ∷ []) b) (λ x. leb (length all) x.number) (latest_gone all e)
            these in
            rw (← eqb-true b k y, cleared_same n word b inside)
            (omega (arith, few, sub (λ x. leb (length all) x.number), none))
        go false y true g =
            let ne = eqb-false b k y in
            ap (λ (t : Accepted R → Bool). tally t these) (λ i x. latest_kept all e k ne x i)
            ∙ was k
            ∙ sym (cleared_other n word b k inside (ltb-true k n g) (λ f. ne (sym f)))
        go false y false g =
            let ne = eqb-false b k y in
            let z : bit word k ≡ 0 = bit_past word n k small (ltb-false k n g) in
            ap (λ (t : Accepted R → Bool). tally t these) (λ i x. latest_kept all e k ne x i)
            ∙ was k ∙ z ∙ sym (cleared_clear n word (2 ^ b) k z)

    request_bits : sent < 2 ^ n → cancelled < 2 ^ n
        → BitsTell (note_request l q b) (without_bit n sent b) (without_bit n cancelled b)
    request_bits small few = record {
      sent = part_cleared l.sent sent small (λ t. omega (arith, balanced.whole t)) h.sent;
      cancelled = part_cleared l.cancelled cancelled few (λ t. omega (arith, balanced.whole t)) h.cancelled;
      pending =
          each_snoc _ l.pending e
          (each_unless (is_buffer b) (λ x. is_latest all x.buffer x ≡ true)
          (λ x. is_latest (all ++ e ∷ []) x.buffer x ≡ true) l.pending
          (omega (arith, ltb-false 0 (tally (is_buffer b) l.pending) free))
          (λ x n t. latest_kept all e x.buffer (λ f. eqb-false x.buffer b n (sym f)) x ∙ t) h.pending)
          (latest_is (all ++ e ∷ []) b e (eq-eqb b b refl)
          (none_later e 0 (all ++ e ∷ [])
          (numbered_snoc accepted_number 0 all e balanced.numbered (omega arith))
          (omega (arith, length_snoc all e))));
    }

  -- ---- the pending one of a buffer goes

  module _ (b : ℕ) (one : has_pending l b ≡ true) where
    abbrev gone : List (Accepted R)
    gone = those (is_buffer b) l.pending

    -- it is the latest, and so alone
    goes : 0 < tally (is_latest l.requested b) (those (is_buffer b) l.pending)
    goes =
        let latest =
        each_two (λ x. is_buffer b x ≡ true) (λ x. is_latest all x.buffer x ≡ true) (λ x. is_latest all b x ≡ true) gone
        (λ x t u. ap (λ (k : ℕ). is_latest all k x) (sym (eqb-true x.buffer b t)) ∙ u)
        (each_passes (is_buffer b) l.pending)
        (each_those (is_buffer b) (λ x. is_latest all x.buffer x ≡ true) l.pending h.pending) in
        omega (
          arith,
          ltb-true 0 (tally (is_buffer b) l.pending) one,
          length_those (is_buffer b) l.pending,
          tally_all (is_latest all b) gone latest,
        )

    -- with it, those of a part that had none: its bit is set
    part_set : (these : List (Accepted R)) (word : ℕ)
        → ((t : Accepted R → Bool) → tally t l.pending + tally t these ≤ tally t l.requested)
        → LatestAre l these word
        → (k : ℕ)
        → tally (is_latest l.requested k) (these ++ those (is_buffer b) l.pending) ≡ bit (with_bit word b) k
    part_set these word sub was k = go (eqb b k) refl
      where
        go : (t : Bool) → eqb b k ≡ t
            → tally (is_latest l.requested k) (these ++ those (is_buffer b) l.pending) ≡ bit (with_bit word b) k
        go true y =
            rw (← eqb-true b k y, set_same word b, tally_append)
            (omega (
              arith,
              goes,
              tally_split (is_latest all b) (is_buffer b) l.pending,
              sub (is_latest all b),
              one_latest all b 0 all balanced.numbered (λ t. omega arith),
            ))
        go false y =
            let ne = eqb-false b k y in
            let other = tally_both (is_latest all k) (is_buffer b) (λ x t. not_latest all b k ne x t) l.pending in
            rw tally_append (omega (arith, other, was k, set_other word b k (λ f. ne (sym f))))

pub request_clears_bits : RequestClearsBits
request_clears_bits R l sent cancelled h balanced bits small few q b inside free =
    request_bits l sent cancelled h balanced bits q b inside free small few

pub send_sets_bit : SendSetsBit
send_sets_bit R l sent cancelled h balanced b one = record {
  sent =
      part_set l sent cancelled h balanced b one l.sent sent (λ t. omega (arith, balanced.whole t)) h.sent;
  cancelled = h.cancelled;
  pending = each_those (λ x. not (is_buffer b x)) _ l.pending h.pending;
}

pub cancel_sets_bit : CancelSetsBit
cancel_sets_bit R l sent cancelled h balanced b one = record {
  sent = h.sent;
  cancelled =
      part_set l sent cancelled h balanced b one l.cancelled cancelled (λ t. omega (arith, balanced.whole t))
      h.cancelled;
  pending = each_those (λ x. not (is_buffer b x)) _ l.pending h.pending;
}
