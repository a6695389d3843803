-- Bytes moved a word at a time: a word past the data is 0, and whole words with what is behind them are all.
-- Assumes nothing.
use mathlib.Core.Path.{◌≡◌, refl, sym, ap, ap₂, ◌∙◌}
use mathlib.Core.List.{List, ◌++◌, append_assoc}
use Prim.Native.Nat.{ℕ, ◌+◌, ◌-◌, ◌*◌, ◌/◌, ◌%◌, ◌<◌, ◌≤◌}
use native.Mathlib.Nat.{zero-add, div-one}
use native.Mathlib.Omega.{arith}
use lib.ListN.{length, get_or, get_or-eq_default, take, drop, length-drop}
use lib.Seq.{length-take-le, drop-drop, get_or-take, get_or-drop}
use mir.Syntax.{w32}
use Rattle.std.specs.Int.{to_le_bytes}
use borrow.Rule.Slice.PartMut.{put_mid, mid_of}
use Rattle.words.specs.Bytes.{byte_of, word_of, byte_in}
use Rattle.words.specs.Runs.{run, splice}
use Rattle.words.proofs.Runs.{length_run, run_alike, splice_length, run_behind}

pub word_past : (d : List ℕ) (k : ℕ) → length d ≤ 4 * k → 0 ≡ word_of d k
unfolding word_of
word_past d k h =
    let gone : (i : ℕ) → 4 * k ≤ i → get_or d i 0 ≡ 0 = λ i b. get_or-eq_default d 0 (omega arith) in
    omega (
      arith,
      gone (4 * k) (omega arith),
      gone (4 * k + 1) (omega arith),
      gone (4 * k + 2) (omega arith),
      gone (4 * k + 3) (omega arith),
    )

-- ---- what is written to a part of a slice

pub part_is : (l ws : List ℕ) (at k : ℕ) → length ws ≡ k → put_mid at k l ws ≡ splice l at ws
unfolding splice
part_is l ws at k e =
    ap (λ (r : List ℕ). take at l ++ (ws ++ r)) (drop-drop k at l ∙ ap (λ (i : ℕ). drop (at + i) l) (sym e))
    ∙ sym (append_assoc (take at l) ws (drop (at + length ws) l))

word_bytes : (w : ℕ) → to_le_bytes w32 w ≡ run (byte_of w) 0 4
unfolding run
word_bytes w = simp div-one

pub word_put : (l ws bytes : List ℕ) (at k w : ℕ) → ws ≡ bytes → bytes ≡ to_le_bytes w32 w → k ≡ 4
    → put_mid at k l ws ≡ splice l at (run (byte_of w) 0 4)
word_put l ws bytes at k w e b q =
    let is = e ∙ b ∙ word_bytes w in
    part_is l ws at k (ap (λ (x : List ℕ). length x) is ∙ length_run (byte_of w) 0 4 ∙ sym q) ∙ ap (splice l at) is

-- a part is filled that stands right behind one that is
module _ (f g : ℕ → ℕ) (l m last : List ℕ) (at k n : ℕ) where
  pub part_filled : (ws : List ℕ) (i : ℕ) → ws ≡ run g 0 (length (mid_of (at + k) i m)) → i ≡ n - k
      → last ≡ put_mid (at + k) i m ws → m ≡ splice l at (run f 0 k) → k ≤ n → at + n ≤ length l
      → ((j : ℕ) → j < n - k → g j ≡ f (k + j))
      → last ≡ splice l at (run f 0 n)
  part_filled ws i e q is so h b same =
      let r = run f 0 k in
      let size : length m ≡ length l =
      ap (λ (x : List ℕ). length x) so ∙ splice_length l at r (omega (arith, length_run f 0 k)) in
      let long : length (mid_of (at + k) i m) ≡ n - k =
      length-take-le i (drop (at + k) m) (omega (arith, length-drop (at + k) m)) ∙ q in
      let w : ws ≡ run g 0 (n - k) = e ∙ ap (run g 0) long in
      let whole : k + (n - k) ≡ n = omega arith in
      run_behind f l m last at k so g (n - k)
      (is
      ∙ part_is m ws (at + k) i (ap (λ (x : List ℕ). length x) w ∙ length_run g 0 (n - k) ∙ sym q)
      ∙ ap (splice m (at + k)) w)
      (omega arith) same
      ∙ ap (λ (x : ℕ). splice l at (run f 0 x)) whole

pub stored : (f : ℕ → ℕ) (l front rest : List ℕ) (at k n : ℕ) → front ≡ run f 0 (length (mid_of at (at + k - at) l))
    → rest
    ≡ run (λ i. f (k + i)) 0 (length (mid_of (at + k) (at + n - (at + k)) (put_mid at (at + k - at) l front)))
    → k ≤ n → at + n ≤ length l
    → put_mid (at + k) (at + n - (at + k)) (put_mid at (at + k - at) l front) rest ≡ splice l at (run f 0 n)
stored f l front rest at k n a b h r =
    let m = put_mid at (at + k - at) l front in
    let long : length (mid_of at (at + k - at) l) ≡ k =
    length-take-le (at + k - at) (drop at l) (omega (arith, length-drop at l)) ∙ omega arith in
    let w : front ≡ run f 0 k = a ∙ ap (run f 0) long in
    let size : length front ≡ at + k - at = ap (λ (x : List ℕ). length x) w ∙ length_run f 0 k ∙ omega arith in
    part_filled f (λ i. f (k + i)) l m _ at k n rest (at + n - (at + k)) b (omega arith) refl
    (part_is l front at (at + k - at) size ∙ ap (splice l at) w) h r (λ j c. refl)

-- the bytes of a part of the words
pub part_bytes : (mem : List ℕ) (at i j : ℕ) → j / 4 < i → byte_in (take i (drop at mem)) 0 j ≡ byte_in mem at j
unfolding byte_in
part_bytes mem at i j h =
    let z : 0 + j / 4 < i = omega arith in
    let e : at + (0 + j / 4) ≡ at + j / 4 = omega arith in
    ap (λ (w : ℕ). byte_of w (j % 4))
    (get_or-take i (drop at mem) (0 + j / 4) 0 z
    ∙ get_or-drop at mem (0 + j / 4) 0
    ∙ ap (λ (x : ℕ). get_or mem x 0) e)

bytes_behind : (mem : List ℕ) (at q j : ℕ) → byte_in mem (at + q) j ≡ byte_in mem at (4 * q + j)
unfolding byte_in
bytes_behind mem at q j =
    let word : at + q + j / 4 ≡ at + (4 * q + j) / 4 = omega arith in
    let lane : j % 4 ≡ (4 * q + j) % 4 = omega arith in
    ap₂ (λ (x i : ℕ). byte_of (get_or mem x 0) i) word lane

pub loaded : (mem out front rest : List ℕ) (at n : ℕ)
    → front
    ≡ splice out 0
    (run (byte_in (take (at + n / 4 - at) (drop at mem)) 0) 0 (4 * length (take (at + n / 4 - at) (drop at mem))))
    → rest
    ≡ run (byte_in (take (length mem - (at + n / 4)) (drop (at + n / 4) mem)) 0) 0
    (length (mid_of (4 * (n / 4)) (n - 4 * (n / 4)) front))
    → n ≤ length out → at + (n + 3) / 4 ≤ length mem
    → put_mid (4 * (n / 4)) (n - 4 * (n / 4)) front rest ≡ splice out 0 (run (byte_in mem at) 0 n)
loaded mem out front rest at n a b h r =
    let q = n / 4 in
    let words = take (at + q - at) (drop at mem) in
    let long : length words ≡ q = length-take-le (at + q - at) (drop at mem) (omega (arith, length-drop at mem)) ∙ omega arith in
    let same : run (byte_in words 0) 0 (4 * length words) ≡ run (byte_in mem at) 0 (4 * q) =
    ap (λ (x : ℕ). run (byte_in words 0) 0 (4 * x)) long
    ∙ run_alike (byte_in words 0) (byte_in mem at) 0 0 (4 * q)
    (λ i c. part_bytes mem at (at + q - at) (0 + i) (omega arith)) in
    let behind = take (length mem - (at + q)) (drop (at + q) mem) in
    part_filled (byte_in mem at) (byte_in behind 0) out front _ 0 (4 * q) n rest (n - 4 * q)
    (b ∙ ap (λ (x : ℕ). run (byte_in behind 0) 0 (length (mid_of x (n - 4 * q) front))) (sym (zero-add (4 * q))))
    refl
    (ap (λ (x : ℕ). put_mid x (n - 4 * q) front rest) (sym (zero-add (4 * q))))
    (a ∙ ap (splice out 0) same)
    (omega arith) (omega arith)
    (λ j c. part_bytes mem (at + q) (length mem - (at + q)) j (omega arith) ∙ bytes_behind mem at q j)

module _ (mem : List ℕ) (l m : List ℕ) where
  pub word_loaded : (last : List ℕ) (k n : ℕ) → m ≡ splice l 0 (run (byte_in mem 0) 0 (4 * k))
      → last ≡ splice m (4 * k) (run (byte_of (get_or mem k 0)) 0 4) → k < n → 4 * n ≤ length l
      → last ≡ splice l 0 (run (byte_in mem 0) 0 (4 * (k + 1)))
  unfolding byte_in
  word_loaded last k n so next b h =
      let more : 4 * k + 4 ≡ 4 * (k + 1) = omega arith in
      run_behind (byte_in mem 0) l m last 0 (4 * k) so (byte_of (get_or mem k 0)) 4
      (next ∙ ap (λ (x : ℕ). splice m x (run (byte_of (get_or mem k 0)) 0 4)) (sym (zero-add (4 * k))))
      (omega arith)
      (λ i c.
      let word : k ≡ 0 + (4 * k + i) / 4 = omega arith in
      let lane : i ≡ (4 * k + i) % 4 = omega arith in
      ap₂ (λ (x j : ℕ). byte_of (get_or mem x 0) j) word lane)
      ∙ ap (λ (x : ℕ). splice l 0 (run (byte_in mem 0) 0 x)) more
