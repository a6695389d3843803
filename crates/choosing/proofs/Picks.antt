-- The scan: reduce over the candidates, in the order of their numbers, gives the choice; and what is known of it.
-- Assumes nothing.
use Rattle.std.specs.List.{FoldsTo, filter, range_with_len}
use Rattle.std.specs.Fn.{Called, Takes}
use Rattle.std.specs.Iterator.{AlwaysYields, Yields, Drains, FoldTurn, AfterFirst, CallableInFold, ReducesItems}
use Rattle.std.proofs.Common.{Option, Some, None}
use Rattle.std.proofs.lemmas.Iterator.{YieldsList, items_from_drains}
use Prim.Native.Nat.{ℕ, zero, suc, ◌+◌, ◌<◌, ◌≤◌}
use mathlib.Core.Path.{◌≡◌, refl, sym, ap, subst, ◌∙◌}
use mathlib.Core.Bool.{Bool, cond, true, false}
use mathlib.Core.List.{List, [], ◌∷◌, map, map-id}
use native.Mathlib.Omega.{arith}
use denote.Param.Members.{Mut}
use lib.Dec.{ltb}
use lib.ListN.{length}
use Rattle.words.specs.Best.{Best, nobody, somebody, better, best_below}
use Rattle.words.specs.Rules.{allowed, first}
use Rattle.words.proofs.Bests.{best_wins, best_start, best_turn}
use Rattle.words.specs.Choice.{pick}
use Rattle.words.proofs.Choices.{pick_first, pick_second}
use Rattle.registers.specs.Fields.{tx_count}
use Rattle.places.specs.declared.Area.{Area}
use Rattle.areas.specs.Areas.{tx_area}
use Rattle.places.specs.Areas.{HasPlace}
use Rattle.areas.proofs.Rooms.{tx_roomy}
use Rattle.engine.specs.Calls.{◌when◌, output_refusals}
use Rattle.engine.specs.Fitness.{unfit, Sound}
use Rattle.engine.specs.declared.state.State.{State}
use Rattle.engine.specs.declared.state.Record.{Record}
use Rattle.engine.proofs.Calls.{output_fits}
use Rattle.engine.proofs.Sounds.{found_sound}
use Rattle.choosing.specs.Choosing.{is_candidate, rank_at, choice}
use Rattle.choosing.specs.Needs.{picked, rank_in, CanWrite, CanChoose}

-- ---- the buffers in turn

module _ (candidate : ℕ → Bool) (rank : ℕ → ℕ) where
  -- the best of a list after m
  abbrev pub scan : Best → List ℕ → Best
  scan m [] = m
  scan m (x ∷ xs) = scan (better rank m x) xs

  -- that of the candidates in the order of their numbers is the best of them
  scanned : (n a : ℕ) (m : Best) → m ≡ best_below candidate rank a
      → scan m (filter candidate (range_with_len a n)) ≡ best_below candidate rank (a + n)
  scanned zero a m e = e ∙ ap (best_below candidate rank) (omega arith)
  scanned (suc n) a m e =
      go (λ next q. scanned n (a + 1) next q ∙ ap (best_below candidate rank) (omega arith)) (candidate a) refl
    where
      rest : List ℕ
      rest = filter candidate (range_with_len (a + 1) n)

      go : ((next : Best) → next ≡ best_below candidate rank (a + 1) → scan next rest ≡ best_below candidate rank (a + suc n))
          → (b : Bool) → candidate a ≡ b → scan m (cond b (a ∷ rest) rest) ≡ best_below candidate rank (a + suc n)
      go on true t =
          on (better rank m a)
          (best_turn candidate rank a m e (better rank m a) (sym (pick_first (better rank m a) m t)))
      go on false t = on m (best_turn candidate rank a m e m (sym (pick_second (better rank m a) m t)))

  -- each of a list is below b, as the candidates among the first numbers are
  abbrev pub AllBelow : ℕ → List ℕ → Type 0
  AllBelow b [] = Unit {0}
  AllBelow b (x ∷ xs) = (x < b) × AllBelow b xs

  pub inside : (n a b : ℕ) → a + n ≤ b → AllBelow b (filter candidate (range_with_len a n))
  inside zero a b l = tt
  inside (suc n) a b l = go (inside n (a + 1) b (omega (arith, l))) (candidate a)
    where
      rest : List ℕ
      rest = filter candidate (range_with_len (a + 1) n)

      go : AllBelow b rest → (t : Bool) → AllBelow b (cond t (a ∷ rest) rest)
      go on true = (omega (arith, l), on)
      go on false = on

  abbrev number : Best → ℕ
  number nobody = 0
  number (somebody n) = n

  module _ {F : Type 0} (g : Mut F (ℕ × (ℕ × Unit {0})) ℕ) (f : F)
      (so : (m x k : ℕ) (q : F) → Called g f (m, (x, tt)) k q → (q ≡ f) × (somebody k ≡ better rank (somebody m) x)) where
    -- one turn, from the closure as it was
    turned : (p n : F × ℕ) (x : ℕ) → p.0 ≡ f → FoldTurn g p x n → (n.0 ≡ f) × (somebody n.1 ≡ better rank (somebody p.1) x)
    turned p n x a c = so p.1 x n.1 n.0 (subst (λ w. Called g w (p.1, (x, tt)) n.1 n.0) a c)

    folded : (xs : List ℕ) (p q : F × ℕ) → p.0 ≡ f → FoldsTo {P = F × ℕ} (FoldTurn g) p xs q
        → somebody q.1 ≡ scan (somebody p.1) xs
    folded [] p q a c = ap (λ (w : F × ℕ). somebody w.1) (sym c)
    folded (x ∷ xs) p q a c =
        let t = turned p c.0 x a c.1 in
        folded xs c.0 q t.0 c.2 ∙ ap (λ m. scan m xs) t.1

    -- of two numbers below b the one that is kept is
    kept : (b m x k : ℕ) → somebody k ≡ better rank (somebody m) x → m < b → x < b → k < b
    kept b m x k e l h = go (ltb (rank x) (rank m)) e
      where
        go : (t : Bool) → somebody k ≡ pick t (somebody x) (somebody m) → k < b
        go true q = omega (arith, ap number q, h)
        go false q = omega (arith, ap number q, l)

    module _ {S : Type 0} (steps : S → Option ℕ → S → Type 0) (b : ℕ)
        (takes : (m x : ℕ) → m < b → x < b → Takes g f (m, (x, tt))) where
      -- after some turns from a number below b the closure is as it was, the number is below b, and so is what is left
      along : (all xs : List ℕ) (s t : S) (p q : F × ℕ) → AlwaysYields steps (λ x. x) s all → AllBelow b all
          → Yields steps s xs t → p.0 ≡ f → p.1 < b → FoldsTo {P = F × ℕ} (FoldTurn g) p xs q
          → (q.0 ≡ f) × (q.1 < b) × ((more : List ℕ) × AlwaysYields steps (λ x. x) t more × AllBelow b more)
      along all [] s t p q e i y a l c = (
        ap (λ (w : F × ℕ). w.0) (sym c) ∙ a,
        subst (λ (w : F × ℕ). w.1 < b) c l,
        (all, subst (λ u. AlwaysYields steps (λ x. x) u all) y e, i),
      )
      along [] (x ∷ xs) s t p q e i y a l c = absurd (e x y.0 y.1)
      along (z ∷ zs) (x ∷ xs) s t p q e i y a l c =
          let n = e.1 x y.0 y.1 in
          let d = turned p c.0 x a c.1 in
          along zs xs y.0 t c.0 q n.1 i.1 y.2 d.0 (kept b p.1 x c.0.1 d.1 l (subst (λ w. w < b) (sym n.0) i.0)) c.2

      -- the next one is below b
      next_below : (all : List ℕ) (s t : S) (x : ℕ) → AlwaysYields steps (λ x. x) s all → AllBelow b all
          → steps s (Some x) t → (x < b) × ((more : List ℕ) × AlwaysYields steps (λ x. x) t more × AllBelow b more)
      next_below [] s t x e i h = absurd (e x t h)
      next_below (z ∷ zs) s t x e i h =
          let n = e.1 x t h in
          (subst (λ w. w < b) (sym n.0) i.0, (zs, n.1, i.1))

      pub callable : (all : List ℕ) (s : S) → YieldsList steps (λ x. x) s all → AllBelow b all
          → AfterFirst steps s (λ x t. CallableInFold steps g t f x)
      callable all s road i x t h =
          let n = next_below all s t x road.runs i h in
          record {
            at = λ xs u q z w y c d.
                let m = along n.1.0 xs t u (f, x) q n.1.1 n.1.2 y refl n.0 c in
                let l = next_below m.2.0 u w z m.2.1 m.2.2 d in
                subst (λ k. Takes g k (q.1, (z, tt))) (sym m.0) (takes q.1 z m.1 l.0);
          }

    module _ {S : Type 0} {steps : S → Option ℕ → S → Type 0} {s : S} {all : List ℕ}
        (road : YieldsList steps (λ x. x) s all) where
      drained : (xs : List ℕ) → Drains steps s xs → map (λ (x : ℕ). x) xs ≡ all
      drained xs d = items_from_drains xs (d.1.0, d.1.1, λ _. (d.0, d.1.2)) road

      -- and the result is the best of the list
      pub least : (r : Option ℕ) → ReducesItems steps g s f r → picked r ≡ scan nobody all
      least None d = ap (scan nobody) (drained [] d)
      least (Some y) d =
          folded d.1 (f, d.0) (d.2, y) refl d.4
          ∙ ap (scan nobody) (sym (map-id (d.0 ∷ d.1)) ∙ drained (d.0 ∷ d.1) d.3)

pub has_place : (s : State) (words x : ℕ) (a : Area) → Sound s words → a ≡ tx_area s.regs → x < a.count
    → (buffer : ℕ) → buffer ≡ x → HasPlace a buffer words
has_place s words x a h e l buffer q =
    record { room = rw e (tx_roomy s.regs words h.legal); within = omega (arith, l, q) }

pub scan_is : (s : State) (mem : List ℕ) (a : Area) → a ≡ tx_area s.regs
    → scan (is_candidate s) (rank_in mem a) nobody (filter (is_candidate s) (range_with_len 0 a.count)) ≡ choice s mem
unfolding choice rank_in
scan_is s mem a e =
    rw e
    (scanned (is_candidate s) (rank_at s mem) (tx_count s.regs) 0 nobody (best_start (is_candidate s) (rank_at s mem))
    ∙ ap (best_below (is_candidate s) (rank_at s mem)) (omega arith))

-- ---- the choice

pub choice_can_write : (s : State) (mem out : List ℕ) (buffer : ℕ) → CanChoose s mem out
    → somebody buffer ≡ choice s mem → CanWrite mem (tx_area s.regs) buffer out
unfolding choice
choice_can_write s mem out buffer h e = record {
  place = record {
    room = tx_roomy s.regs (length mem) h.sound.legal;
    within = (best_wins (is_candidate s) (rank_at s mem) (tx_count s.regs) buffer (sym e)).below;
  };
  room = h.room;
}

pub can_choose : (s : State) (r : Record) (mem out : List ℕ) → allowed ≡ 20 when unfit s r (length mem)
    → allowed ≡ first (output_refusals (length out)) → CanChoose s mem out
can_choose s r mem out e t =
    record { sound = found_sound s r (length mem) e; room = output_fits (length out) (sym t) }
