-- The laws of a run of values and of a spliced list.
-- Assumes nothing.
use mathlib.Core.Path.{◌≡◌, refl, sym, ap, ◌∙◌}
use mathlib.Core.List.{List, [], ◌∷◌, ◌++◌, append_assoc, append-nil}
use Prim.Native.Nat.{ℕ, zero, suc, ◌+◌, ◌-◌, ◌<◌, ◌≤◌, min}
use native.Mathlib.Nat.{add-zero, zero-add, not-suc-le-zero, le_of_suc-le-suc}
use native.Mathlib.Numerals.{add-one}
use native.Mathlib.Omega.{arith}
use lib.ListN.{length, get_or, take, drop, set, length-append, length-drop, length-set, take-append-drop}
use lib.ListN.{get_or-append}
use lib.Seq.{length-take-le, drop-cons, set_at, append_snoc, get_or-append-add, get_or-take, get_or-drop, sets, sets-eq}
use lib.Seq.{ext_get_or}
use Rattle.words.specs.Runs.{run, splice}

module _ (f : ℕ → ℕ) where
  pub length_run : (k n : ℕ) → length (run f k n) ≡ n
  unfolding run
  length_run k zero = refl
  length_run k (suc n) = ap suc (length_run (suc k) n)

  pub get_or_run : (k n i : ℕ) → i < n → get_or (run f k n) i 0 ≡ f (k + i)
  unfolding run
  get_or_run k zero i h = absurd (not-suc-le-zero h)
  get_or_run k (suc n) zero h = ap f (sym (add-zero k))
  get_or_run k (suc n) (suc i) h = get_or_run (suc k) n i (le_of_suc-le-suc h) ∙ ap f (omega arith)

  -- one more at the end
  pub run_more : (k n : ℕ) → run f k (suc n) ≡ run f k n ++ (f (k + n) ∷ [])
  unfolding run
  run_more k zero = ap (λ (x : ℕ). f x ∷ []) (sym (add-zero k))
  run_more k (suc n) =
      ap (λ (r : List ℕ). f k ∷ r) (run_more (suc k) n ∙ ap (λ (x : ℕ). run f (suc k) n ++ (f x ∷ [])) (omega arith))

-- two runs of the same values
pub run_alike : (f g : ℕ → ℕ) (j k n : ℕ) → ((i : ℕ) → i < n → f (j + i) ≡ g (k + i)) → run f j n ≡ run g k n
run_alike f g j k n same =
    ext_get_or 0 (run f j n) (run g k n) (length_run f j n ∙ sym (length_run g k n))
    (λ i l.
    let h : i < n = omega (arith, length_run f j n) in
    get_or_run f j n i h ∙ same i h ∙ sym (get_or_run g k n i h))

-- a list that has the values at its places
pub filled : (f : ℕ → ℕ) (l : List ℕ) (n : ℕ) → length l ≡ n → ((i : ℕ) → i < n → get_or l i 0 ≡ f i) → l ≡ run f 0 n
filled f l n e at =
    ext_get_or 0 l (run f 0 n) (e ∙ sym (length_run f 0 n))
    (λ i h.
    let b : i < n = omega arith in
    at i b ∙ ap f (sym (zero-add i)) ∙ sym (get_or_run f 0 n i b))

module _ (l : List ℕ) (at : ℕ) where
  pub splice_none : l ≡ splice l at []
  unfolding splice
  splice_none =
      sym
      (ap (λ (k : ℕ). take at l ++ [] ++ drop k l) (add-zero at)
      ∙ ap (λ (r : List ℕ). r ++ drop at l) (append-nil (take at l))
      ∙ take-append-drop at l)

  front : (ws : List ℕ) → at ≤ length l → length (take at l ++ ws) ≡ at + length ws
  front ws h = length-append (take at l) ws ∙ ap (λ (k : ℕ). k + length ws) (length-take-le at l h)

  -- a store at the end of what is replaced replaces one more
  pub splice_snoc : (ws : List ℕ) (v : ℕ) → at + length ws < length l
      → set (splice l at ws) (at + length ws) v ≡ splice l at (ws ++ (v ∷ []))
  unfolding splice
  splice_snoc ws v h =
      let n = at + length ws in
      let p = take at l ++ ws in
      let e : suc n ≡ at + length (ws ++ (v ∷ [])) = omega (arith, length-append ws (v ∷ [])) in
      ap (λ (r : List ℕ). set (p ++ r) n v) (drop-cons l n 0 h)
      ∙ set_at p (get_or l n 0) (drop (suc n) l) v n (front ws (omega arith))
      ∙ sym (append_snoc p v (drop (suc n) l))
      ∙ ap (λ (r : List ℕ). r ++ drop (suc n) l) (append_assoc (take at l) ws (v ∷ []))
      ∙ ap (λ (k : ℕ). take at l ++ (ws ++ (v ∷ [])) ++ drop k l) e

  module _ (ws : List ℕ) (h : at + length ws ≤ length l) where
    pub splice_length : length (splice l at ws) ≡ length l
    unfolding splice
    splice_length =
        length-append (take at l ++ ws) (drop (at + length ws) l)
        ∙ omega (arith, front ws (omega arith), length-drop (at + length ws) l)

    -- what is read back is what was put there, word for word
    pub splice_inside : (i : ℕ) → i < length ws → get_or (splice l at ws) (at + i) 0 ≡ get_or ws i 0
    unfolding splice
    splice_inside i k =
        get_or-append (take at l ++ ws) (drop (at + length ws) l) 0 (at + i) (omega (arith, front ws (omega arith)))
        ∙ ap (λ (x : ℕ). get_or (take at l ++ ws) (x + i) 0) (sym (length-take-le at l (omega arith)))
        ∙ get_or-append-add (take at l) ws i 0

    -- every word before and after it is as it was
    pub splice_before : (i : ℕ) → i < at → get_or (splice l at ws) i 0 ≡ get_or l i 0
    unfolding splice
    splice_before i k =
        get_or-append (take at l ++ ws) (drop (at + length ws) l) 0 i (omega (arith, front ws (omega arith)))
        ∙ get_or-append (take at l) ws 0 i (omega (arith, length-take-le at l (omega arith)))
        ∙ get_or-take at l i 0 k

    pub splice_after : (i : ℕ) → at + length ws ≤ i → get_or (splice l at ws) i 0 ≡ get_or l i 0
    unfolding splice
    splice_after i k =
        ap (λ (x : ℕ). get_or (take at l ++ ws ++ drop (at + length ws) l) x 0) (omega (arith, front ws (omega arith)))
        ∙ get_or-append-add (take at l ++ ws) (drop (at + length ws) l) (i - (at + length ws)) 0
        ∙ get_or-drop (at + length ws) l (i - (at + length ws)) 0
        ∙ ap (λ (x : ℕ). get_or l x 0) (omega arith)

    sets_splice : splice l at ws ≡ sets l at ws
    unfolding splice
    sets_splice = sym (sets-eq ws l at h)

-- a store in front of what is replaced
pub splice_cons : (l : List ℕ) (at a : ℕ) (ws : List ℕ) → at + 1 + length ws ≤ length l
    → splice (set l at a) (at + 1) ws ≡ splice l at (a ∷ ws)
splice_cons l at a ws h =
    ap (λ (k : ℕ). splice (set l at a) k ws) (add-one at)
    ∙ sets_splice (set l at a) (suc at) ws (omega (arith, length-set l at a))
    ∙ sym (sets_splice l at (a ∷ ws) (omega arith))

-- ---- a loop that stores a run of values: f k at place at + k, for each k below n

module _ (f : ℕ → ℕ) (l : List ℕ) (at : ℕ) where
  pub run_none : l ≡ splice l at (run f 0 0)
  unfolding run
  run_none = splice_none l at

  module _ (m : List ℕ) (k n : ℕ) (so : m ≡ splice l at (run f 0 k)) where
    pub run_turn : (v : ℕ) → k < n → at + n ≤ length l → v ≡ f k → set m (at + k) v ≡ splice l at (run f 0 (k + 1))
    run_turn v h r e =
        ap (λ (x : List ℕ). set x (at + k) v) so
        ∙ ap (λ (x : ℕ). set (splice l at (run f 0 k)) (at + x) v) (sym (length_run f 0 k))
        ∙ splice_snoc l at (run f 0 k) v (omega (arith, length_run f 0 k))
        ∙ ap (λ (r : List ℕ). splice l at r)
        (ap (λ (x : ℕ). run f 0 k ++ (x ∷ [])) (e ∙ ap f (omega arith))
        ∙ sym (run_more f 0 k)
        ∙ ap (run f 0) (sym (add-one k)))

    pub run_done : k ≤ n → n ≤ k → m ≡ splice l at (run f 0 n)
    run_done h r = so ∙ ap (λ (x : ℕ). splice l at (run f 0 x)) (omega arith)

-- ---- a run stored in two parts, the second right behind the first

-- what is put right behind a replaced part makes it longer
splice_behind : (l : List ℕ) (at : ℕ) (a b : List ℕ) → at + length a + length b ≤ length l
    → splice (splice l at a) (at + length a) b ≡ splice l at (a ++ b)
splice_behind l at a [] h = sym (splice_none (splice l at a) (at + length a)) ∙ ap (splice l at) (sym (append-nil a))
splice_behind l at a (v ∷ b) h =
    let e : at + length a + 1 ≡ at + length (a ++ (v ∷ [])) = omega (arith, length-append a (v ∷ [])) in
    sym
    (splice_cons (splice l at a) (at + length a) v b (omega (arith, splice_length l at a (omega arith))))
    ∙ ap (λ (x : List ℕ). splice x (at + length a + 1) b) (splice_snoc l at a v (omega arith))
    ∙ ap (λ (k : ℕ). splice (splice l at (a ++ (v ∷ []))) k b) e
    ∙ splice_behind l at (a ++ (v ∷ [])) b (omega arith)
    ∙ ap (splice l at) (append_assoc a (v ∷ []) b)

module _ (f : ℕ → ℕ) where
  run_join : (k n : ℕ) → run f 0 k ++ run f k n ≡ run f 0 (k + n)
  unfolding run
  run_join k zero = append-nil (run f 0 k) ∙ ap (run f 0) (sym (add-zero k))
  run_join k (suc n) =
      let more : suc (k + n) ≡ k + suc n = omega arith in
      ap (λ (r : List ℕ). run f 0 k ++ r) (run_more f k n)
      ∙ sym (append_assoc (run f 0 k) (run f k n) (f (k + n) ∷ []))
      ∙ ap (λ (r : List ℕ). r ++ (f (k + n) ∷ [])) (run_join k n)
      ∙ ap (λ (x : ℕ). run f 0 (k + n) ++ (f x ∷ [])) (sym (zero-add (k + n)))
      ∙ sym (run_more f 0 (k + n))
      ∙ ap (run f 0) more

  module _ (l m last : List ℕ) (at k : ℕ) (so : m ≡ splice l at (run f 0 k)) where
    pub run_behind : (g : ℕ → ℕ) (n : ℕ) → last ≡ splice m (at + k) (run g 0 n) → at + k + n ≤ length l
        → ((i : ℕ) → i < n → g i ≡ f (k + i))
        → last ≡ splice l at (run f 0 (k + n))
    run_behind g n next h same =
        next
        ∙ ap (λ (x : List ℕ). splice x (at + k) (run g 0 n)) so
        ∙ ap (splice (splice l at (run f 0 k)) (at + k))
        (run_alike g f 0 k n (λ i b. ap g (zero-add i) ∙ same i b))
        ∙ ap (λ (x : ℕ). splice (splice l at (run f 0 k)) (at + x) (run f k n)) (sym (length_run f 0 k))
        ∙ splice_behind l at (run f 0 k) (run f k n) (omega (arith, length_run f 0 k, length_run f k n))
        ∙ ap (splice l at) (run_join k n)

    -- the first of them are as many as both numbers allow
    pub run_rest : (n q : ℕ) → k ≡ min n q → last ≡ splice m (at + k) (run (λ i. f (k + i)) 0 (n - k))
        → at + n ≤ length l
        → last ≡ splice l at (run f 0 n)
    run_rest n q e next h =
        run_behind (λ i. f (k + i)) (n - k) next (omega arith) (λ i c. refl)
        ∙ ap (λ (x : ℕ). splice l at (run f 0 x)) (omega arith)

-- the same at the front of a list
pub front_rest : (f : ℕ → ℕ) (l m last : List ℕ) (k n q : ℕ) → m ≡ splice l 0 (run f 0 k) → k ≡ min n q
    → last ≡ splice m k (run (λ i. f (k + i)) 0 (n - k)) → n ≤ length l
    → last ≡ splice l 0 (run f 0 n)
front_rest f l m last k n q so e next h =
    run_rest f l m last 0 k so n q e
    (next ∙ ap (λ (x : ℕ). splice m x (run (λ i. f (k + i)) 0 (n - k))) (sym (zero-add k))) (omega arith)
