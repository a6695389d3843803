-- The choice is the best candidate, and the candidates are those of the paper.
-- Assumes nothing.
use Prim.Native.Nat.{ℕ, ◌+◌, ◌%◌, ◌^◌, ◌<◌}
use mathlib.Core.Path.{◌≡◌, refl, sym, ap, ◌∙◌}
use mathlib.Core.Bool.{Bool, true, false, ◌&&◌}
use mathlib.Core.List.{List}
use borrow.Author.Tests.{ltb-true, ltb-false, lt-ltb, le-ltb, eqb-true, eq-eqb}
use native.Mathlib.Nat.{div-eq_of_lt, lt_of_lt_of_le}
use native.Mathlib.Omega.{arith}
use lib.Dec.{ltb, eqb}
use lib.Pow.{pow_mono}
use Rattle.words.specs.Best.{nobody, somebody}
use Rattle.words.specs.Bits.{bit, is_set}
use Rattle.words.specs.Choice.{pick}
use Rattle.words.proofs.Bests.{best_wins, best_none, best_only}
use Rattle.words.proofs.Choices.{and_both}
use Rattle.ring.proofs.Holding.{oldest_held}
use Rattle.registers.specs.Fields.{dedicated, tx_count, is_queue}
use Rattle.engine.specs.Buffers.{is_pending}
use Rattle.engine.specs.Fitness.{shared_ring_size, Sound}
use Rattle.engine.specs.declared.state.State.{State}
use Rattle.engine.proofs.Buffers.{ring_size}
use Rattle.choosing.specs.Choosing.{is_candidate, rank_at, choice}
use Rattle.choosing.specs.Promises.{Candidate, dedicated_one, oldest_one, queue_one, BestOf}
use Rattle.choosing.specs.Promises.{CandidatesAreThose, CandidatesWait, ChoiceIsBest, NoneChosen}

-- ---- which they are

module _ (s : State) (buffer : ℕ) where
  oldest : Bool
  oldest = ltb 0 s.shared.fill && eqb buffer (dedicated s.regs + s.shared.oldest)

  tells : is_candidate s buffer ≡ true → Candidate s buffer
  unfolding is_candidate oldest
  tells = go (ltb buffer (dedicated s.regs)) refl (is_queue s.regs) refl
    where
      go : (a : Bool) → ltb buffer (dedicated s.regs) ≡ a → (q : Bool) → is_queue s.regs ≡ q
          → pick a (is_pending s buffer) (pick q (is_pending s buffer) oldest) ≡ true → Candidate s buffer
      go true t q u e = dedicated_one (ltb-true buffer (dedicated s.regs) t) e
      go false t true u e = queue_one u (ltb-false buffer (dedicated s.regs) t) e
      go false t false u e =
          let b = and_both (ltb 0 s.shared.fill) (eqb buffer (dedicated s.regs + s.shared.oldest)) e in
          oldest_one u (ltb-true 0 s.shared.fill b.0)
          (eqb-true buffer (dedicated s.regs + s.shared.oldest) b.1)

  told : Candidate s buffer → is_candidate s buffer ≡ true
  unfolding is_candidate
  told (dedicated_one h e) = let t = lt-ltb buffer (dedicated s.regs) h in simp (t, e)
  told (oldest_one u h e) =
      let t = le-ltb buffer (dedicated s.regs) (omega arith) in
      let a = lt-ltb 0 s.shared.fill h in
      let b = eq-eqb buffer (dedicated s.regs + s.shared.oldest) e in
      simp (t, u, a, b)
  told (queue_one u h e) = let t = le-ltb buffer (dedicated s.regs) h in simp (t, u, e)

pub candidates_are_those : CandidatesAreThose
candidates_are_those s buffer = (tells s buffer, told s buffer)

-- ---- they wait

-- a set bit is below the width
pub set_below : (w k n : ℕ) → w < 2 ^ k → is_set w n ≡ true → n < k
set_below w k n h e = go (ltb n k) refl
  where
    go : (b : Bool) → ltb n k ≡ b → n < k
    go true t = ltb-true n k t
    go false t =
        let z : bit w n ≡ 0 = ap (λ (x : ℕ). x % 2) (div-eq_of_lt (lt_of_lt_of_le h (pow_mono (ltb-false n k t)))) in
        absurd (omega (arith, eqb-true (bit w n) 1 e))

pub candidates_wait : CandidatesWait
candidates_wait s words buffer h (dedicated_one l e) = record { exists = omega arith; pending = e }
candidates_wait s words buffer h (queue_one u l e) =
    record { exists = set_below s.pending (tx_count s.regs) buffer h.pending e; pending = e }
candidates_wait s words buffer h (oldest_one u l e) =
    let n = shared_ring_size s.regs in
    let size = ring_size s words h u in
    let within : s.shared.oldest < n = omega (arith, h.shared.place, h.shared.room) in
    record {
      exists = omega arith;
      pending =
          ap (is_pending s) e ∙ h.held_bits s.shared.oldest within ∙ oldest_held s.shared n h.shared l;
    }

-- ---- the choice among them

module _ (s : State) (words : ℕ) (mem : List ℕ) (h : Sound s words) where
  chosen_best : (buffer : ℕ) → choice s mem ≡ somebody buffer → BestOf s mem buffer
  unfolding choice
  chosen_best buffer e =
      let w = best_wins (is_candidate s) (rank_at s mem) (tx_count s.regs) buffer e in
      record {
        one = tells s buffer w.one;
        best = λ k c. w.best k (candidates_wait s words k h c).exists (told s k c);
      }

  best_chosen : (buffer : ℕ) → BestOf s mem buffer → choice s mem ≡ somebody buffer
  unfolding choice
  best_chosen buffer b =
      best_only (is_candidate s) (rank_at s mem) (tx_count s.regs) (somebody buffer)
      (record {
        below = (candidates_wait s words buffer h b.one).exists;
        one = told s buffer b.one;
        best = λ k l e. b.best k (tells s k e);
      })

  none_there : choice s mem ≡ nobody → (k : ℕ) → Candidate s k → ⊥
  unfolding choice
  none_there e k c =
      let none = (best_none (is_candidate s) (rank_at s mem) (tx_count s.regs)).0 e in
      let z : true ≡ false = sym (told s k c) ∙ none k (candidates_wait s words k h c).exists in
      let y : ◌≡◌ {A = ℕ} 0 1 = cc in
      omega arith

  there_none : ((k : ℕ) → Candidate s k → ⊥) → choice s mem ≡ nobody
  unfolding choice
  there_none f = (best_none (is_candidate s) (rank_at s mem) (tx_count s.regs)).1 (λ k l. go k (is_candidate s k) refl)
    where
      go : (k : ℕ) (b : Bool) → is_candidate s k ≡ b → b ≡ false
      go k true e = absurd (f k (tells s k e))
      go k false e = refl

pub choice_is_best : ChoiceIsBest
choice_is_best s words mem buffer h = (chosen_best s words mem h buffer, best_chosen s words mem h buffer)

pub none_chosen : NoneChosen
none_chosen s words mem h = (none_there s words mem h, there_none s words mem h)
