-- Demand 2, the choice: the first in arbitration of the paper's candidates, and what may be reported.
-- Assumes nothing.
use Prim.Native.Nat.{ℕ, ◌+◌, ◌-◌}
use mathlib.Core.Path.{◌≡◌, refl, sym, ap, subst, ◌∙◌}
use mathlib.Core.Bool.{Bool, true, false}
use mathlib.Core.List.{List, [], ◌++◌}
use mathlib.Core.Logic.{◌↔◌, inl, inr}
use borrow.Author.Tests.{eqb-true, eqb-false, eq-eqb, ltb-true, ltb-false, lt-leb}
use native.Mathlib.Omega.{arith}
use lib.Dec.{ltb}
use lib.ListN.{length}
use Rattle.words.specs.Bits.{bit}
use Rattle.words.specs.Best.{Best, nobody, somebody, AsGood}
use Rattle.words.specs.Rules.{allowed, first}
use Rattle.words.proofs.BitLaws.{bit_lt}
use Rattle.words.proofs.Choices.{and_both}
use Rattle.ring.specs.Rings.{age, held}
use Rattle.shape.specs.Calls.{Says, answers, done, leaves}
use Rattle.shape.proofs.Calls.{call_done, call_answers}
use Rattle.registers.specs.Fields.{dedicated, tx_count, is_queue}
use Rattle.frame.specs.Arbitration.{RankTells}
use Rattle.frame.proofs.BusOrder.{rank_is_arbitration}
use Rattle.element.specs.Headers.{tx_header_in}
use Rattle.element.proofs.Fitness.{read_fits}
use Rattle.engine.specs.Buffers.{is_pending}
use Rattle.engine.specs.Calls.{World, Outcome, is_unfit, output_refusals}
use Rattle.engine.specs.Fitness.{shared_ring_size, Sound}
use Rattle.engine.specs.declared.state.State.{State}
use Rattle.engine.proofs.Buffers.{ring_size}
use Rattle.engine.proofs.Sounds.{sound_of}
use Rattle.choosing.specs.Buffers.{header_of}
use Rattle.choosing.specs.Choosing.{rank_at, choice, Next, none, next_of, choice_refusals, chooses}
use Rattle.choosing.specs.Promises.{Candidate, dedicated_one, oldest_one, queue_one, BestOf}
use Rattle.choosing.proofs.Candidates.{set_below, candidates_wait, choice_is_best, none_chosen}
use Rattle.reporting.specs.Reporting.{is_chosen, report_refusals, reports}
use Rattle.reporting.proofs.Judgements.{report_open}
use Rattle.overview.proofs.Fits.{pending_is_counted}
use Rattle.handler.specs.Calls.{ask_choice, report_sent, step}
use Rattle.handler.specs.Demand2.{Before, GoesFirst, Names, Chooses}

-- ---- there is a candidate exactly where a pending bit is set

module _ (s : State) (words : ℕ) (h : Sound s words) where
  some_stands : (k : ℕ) → is_pending s k ≡ true → (i : ℕ) × Candidate s i
  unfolding held
  some_stands k e = go (ltb k (dedicated s.regs)) refl (is_queue s.regs) refl
    where
      go : (a : Bool) → ltb k (dedicated s.regs) ≡ a → (q : Bool) → is_queue s.regs ≡ q → (i : ℕ) × Candidate s i
      go true t q u = (k, dedicated_one (ltb-true k (dedicated s.regs) t) e)
      go false t true u = (k, queue_one u (ltb-false k (dedicated s.regs) t) e)
      go false t false u =
          let n = shared_ring_size s.regs in
          let p = k - dedicated s.regs in
          let from = ltb-false k (dedicated s.regs) t in
          let there = set_below s.pending (tx_count s.regs) k h.pending e in
          let size = ring_size s words h u in
          let same : dedicated s.regs + p ≡ k = omega arith in
          let holds : held s.shared n p ≡ true =
          sym (h.held_bits p (omega arith)) ∙ ap (is_pending s) same ∙ e in
          let both = and_both (ltb p n) (ltb (age s.shared n p) s.shared.fill) holds in
          let some = ltb-true (age s.shared n p) s.shared.fill both.1 in
          (dedicated s.regs + s.shared.oldest, oldest_one u (omega arith) refl)

  none_waits : ((k : ℕ) → Candidate s k → ⊥) → (k : ℕ) → bit s.pending k ≡ 0
  none_waits empty k = go (is_pending s k) refl
    where
      go : (b : Bool) → is_pending s k ≡ b → bit s.pending k ≡ 0
      go true e = let c = some_stands k e in absurd (empty c.0 c.1)
      go false e =
          let other = eqb-false (bit s.pending k) 1 e in
          omega (arith, bit_lt s.pending k)

  none_stands : ((k : ℕ) → bit s.pending k ≡ 0) → (k : ℕ) → Candidate s k → ⊥
  none_stands z k c = omega (arith, z k, eqb-true (bit s.pending k) 1 (candidates_wait s words k h c).pending)

-- ---- the rank's order is that of arbitration

module _ (w : World) where
  ranks : (b k : ℕ)
      → RankTells (header_of w.state w.memory b).frame (header_of w.state w.memory k).frame
  unfolding tx_header_in
  ranks b k = rank_is_arbitration _ _ (read_fits _ _).id (read_fits _ _).id

  goes_before : (b k : ℕ) → AsGood (rank_at w.state w.memory) b k → Before w b k
  goes_before b k (inl l) = inl ((ranks b k).wins.0 l)
  goes_before b k (inr e) = inr ((ranks b k).ties.0 e.0, e.1)

  as_good : (b k : ℕ) → Before w b k → AsGood (rank_at w.state w.memory) b k
  as_good b k (inl l) = inl ((ranks b k).wins.1 l)
  as_good b k (inr e) = inr ((ranks b k).ties.1 e.0, e.1)

  best_first : (b : ℕ) → BestOf w.state w.memory b → GoesFirst w b
  best_first b h = record { one = h.one; before = λ k c. goes_before b k (h.best k c) }

  first_best : (b : ℕ) → GoesFirst w b → BestOf w.state w.memory b
  first_best b h = record { one = h.one; best = λ k c. as_good b k (h.before k c) }

  -- ---- a fit world

  module _ (fit : is_unfit w ≡ false) where
    sound : Sound w.state (length w.memory)
    sound = sound_of w.state w.recorded (length w.memory) fit

    chosen_first : (b : ℕ) → (choice w.state w.memory ≡ somebody b) ↔ GoesFirst w b
    chosen_first b =
        let e = choice_is_best w.state (length w.memory) w.memory b sound in
        (λ x. best_first b (e.0 x), λ x. e.1 (first_best b x))

    -- what is asked

    module _ (passive : Bool) (out : List ℕ) where
      abbrev next : Best → Says Next
      next c = answers (next_of w.state w.memory passive c)

      free : length out ≡ 64 → first (choice_refusals w ++ output_refusals (length out)) ≡ allowed
      unfolding choice_refusals output_refusals
      free e = let bytes = eq-eqb (length out) 64 e in simp (fit, bytes)

      asked : length out ≡ 64 → (step w (ask_choice passive out)).says ≡ next (choice w.state w.memory)
      unfolding chooses
      asked e =
          ap (λ (o : Outcome Next). o.says)
          (call_done w out (choice_refusals w ++ output_refusals (length out)) (chooses w passive out) (free e))

      names_it : (c : Best) (b : ℕ) → Names (next c) b ↔ (c ≡ somebody b)
      names_it nobody b = (λ x. absurd x, λ e. let z : ◌≡◌ {A = ℕ} 0 1 = cc in absurd (omega arith))
      names_it (somebody c) b = (λ e. ap somebody e, λ e. cc)

      names_none : (c : Best) → (next c ≡ answers none) ↔ (c ≡ nobody)
      names_none nobody = (λ e. refl, λ e. refl)
      names_none (somebody c) = (λ e. cc, λ e. cc)

      asks : (b : ℕ) → length out ≡ 64 → Names (step w (ask_choice passive out)).says b ↔ GoesFirst w b
      asks b e =
          let n = names_it (choice w.state w.memory) b in
          let q = asked e in (
            λ x. (chosen_first b).0 (n.0 (subst (λ (a : Says Next). Names a b) q x)),
            λ x. subst (λ (a : Says Next). Names a b) (sym q) (n.1 ((chosen_first b).1 x)),
          )

      asks_nothing : length out ≡ 64
          → ((step w (ask_choice passive out)).says ≡ answers none) ↔ ((k : ℕ) → Candidate w.state k → ⊥)
      asks_nothing e =
          let n = names_none (choice w.state w.memory) in
          let m = none_chosen w.state (length w.memory) w.memory sound in
          (λ x. m.0 (n.0 (sym (asked e) ∙ x)), λ x. asked e ∙ n.1 (m.1 x))

      asks_idle : length out ≡ 64
          → ((step w (ask_choice passive out)).says ≡ answers none) ↔ ((k : ℕ) → bit w.state.pending k ≡ 0)
      asks_idle e =
          let n = asks_nothing e in (
            λ x. none_waits w.state (length w.memory) sound (n.0 x),
            λ z. n.1 (none_stands w.state (length w.memory) sound z),
          )

    -- what is reported

    module _ (b : ℕ) (passive : Bool) (time : ℕ) where
      report_first : (step w (report_sent b passive time)).says ≡ done → GoesFirst w b
      report_first e =
          let p = call_answers w [] (report_refusals w b) (leaves (reports w b passive time)) tt e in
          (chosen_first b).0 (report_open w b p.0).chosen

      first_free : GoesFirst w b → first (report_refusals w b) ≡ allowed
      unfolding report_refusals
      first_free h =
          let waits = candidates_wait w.state (length w.memory) b sound h.one in
          let there = lt-leb (tx_count w.state.regs) b waits.exists in
          let it : is_chosen (choice w.state w.memory) b ≡ true =
          ap (λ (c : Best). is_chosen c b) ((chosen_first b).1 h) ∙ eq-eqb b b refl in
          simp (fit, there, it)

      first_reports : GoesFirst w b → (step w (report_sent b passive time)).says ≡ done
      first_reports h =
          ap (λ (o : Outcome (Unit {0})). o.says)
          (call_done w [] (report_refusals w b) (leaves (reports w b passive time)) (first_free h))

pub choice_told : (w : World) → is_unfit w ≡ false → Chooses w
choice_told w fit = record {
  chosen = λ passive out b e. asks w fit passive out b e;
  nothing = λ passive out e. asks_nothing w fit passive out e;
  idle = λ passive out e. asks_idle w fit passive out e;
  reported = λ b passive time. (report_first w fit b passive time, first_reports w fit b passive time);
  waiting = λ b c. candidates_wait w.state (length w.memory) b (sound w fit) c;
  counted = λ o e. pending_is_counted w o e;
}
