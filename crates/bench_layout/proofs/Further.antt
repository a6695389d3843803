-- A further read into an input that has its first d bytes already: what stands at its front then, and what was read.
-- Assumes nothing.
use Rattle.std.proofs.Common.{ℕ, ◌+◌, ◌≤◌, ◌≡◌, sym, ap, ◌∙◌, List, ◌++◌, length, take, Option, Some, None, append_assoc}
use Rattle.std.proofs.lemmas.List.{length-take-le, take-append-le}
use Rattle.std.proofs.Math.Seq.{take-append-add}
use Rattle.std.specs.Io.KnownBytes.{Consumes}

pub front : (l s p : List ℕ) (d n : ℕ) → d ≤ length l → n ≤ length s
    → take (d + n) (take d l ++ (s ++ p)) ≡ take d l ++ take n s
front l s p d n h k =
    ap (λ (x : ℕ). take (x + n) (take d l ++ (s ++ p))) (sym (length-take-le d l h))
    ∙ take-append-add (take d l) (s ++ p) n
    ∙ ap (λ (r : List ℕ). take d l ++ r) (take-append-le n s p k)

pub read_more : (a b c : Option (List ℕ)) (x y z : List ℕ) → z ≡ x ++ y → Consumes a b x → Consumes b c y
    → Consumes a c z
read_more None b c x y z e h k = tt
read_more (Some xs) None c x y z e h k = absurd h
read_more (Some xs) (Some ys) None x y z e h k = absurd k
read_more (Some xs) (Some ys) (Some zs) x y z e h k =
    h ∙ ap (λ (r : List ℕ). x ++ r) k ∙ sym (append_assoc x y zs) ∙ ap (λ (r : List ℕ). r ++ zs) (sym e)
