-- Two lists that differ in a range alone.
-- Assumes nothing.
use Prim.Native.Nat.{ℕ, ◌+◌, ◌≤◌, ◌<◌}
use mathlib.Core.Path.{◌≡◌, refl, ◌∙◌}
use mathlib.Core.List.{List}
use mathlib.Core.Logic.{inl, inr}
use native.Mathlib.Omega.{arith}
use lib.ListN.{length, get_or}
use Rattle.words.specs.Ranges.{Range, range, range_end, Outside, ApartFrom, SameIn, OnlyIn}
use Rattle.words.specs.Runs.{splice}
use Rattle.words.proofs.Runs.{splice_length, splice_before, splice_after}

pub apart_sym : (r q : Range) → ApartFrom r q → ApartFrom q r
apart_sym r q (inl h) = inr h
apart_sym r q (inr h) = inl h

pub only_none : (r : Range) (l : List ℕ) → OnlyIn r l l
only_none r l = record { size = refl; outside = λ k o. refl }

pub only_then : (r : Range) (l m n : List ℕ) → OnlyIn r l m → OnlyIn r m n → OnlyIn r l n
only_then r l m n a b = record { size = b.size ∙ a.size; outside = λ k o. b.outside k o ∙ a.outside k o }

-- a range that holds another
pub only_wider : (r q : Range) (l m : List ℕ) → r.from ≤ q.from → range_end q ≤ range_end r → OnlyIn q l m
    → OnlyIn r l m
only_wider r q l m a b h = record { size = h.size; outside = λ k o. h.outside k (go k o) }
  where
    go : (k : ℕ) → Outside r k → Outside q k
    go k (inl x) = inl (omega arith)
    go k (inr x) = inr (omega arith)

-- what differs in one range alone has the same in one apart from it
pub only_apart : (r q : Range) (l m : List ℕ) → OnlyIn q l m → ApartFrom q r → SameIn r l m
only_apart r q l m h d = record { size = h.size; within = λ k a b. h.outside k (go k a b d) }
  where
    go : (k : ℕ) → r.from ≤ k → k < range_end r → ApartFrom q r → Outside q k
    go k a b (inl e) = inr (omega arith)
    go k a b (inr e) = inl (omega arith)

pub splice_only : (l : List ℕ) (at : ℕ) (ws : List ℕ) → at + length ws ≤ length l
    → OnlyIn (range at (length ws)) l (splice l at ws)
splice_only l at ws h = record { size = splice_length l at ws h; outside = go }
  where
    go : (k : ℕ) → Outside (range at (length ws)) k → get_or (splice l at ws) k 0 ≡ get_or l k 0
    go k (inl o) = splice_before l at ws h k (omega arith)
    go k (inr o) = splice_after l at ws h k (omega arith)
