-- Every destination is within its bounds: said of the definition, and of an answer of the code.
-- Assumes nothing.
use Prim.Native.Nat.{ℕ, ◌≤◌, ◌<◌}
use mathlib.Core.Path.{◌≡◌, refl, sym, ap, ◌∙◌, subst}
use mathlib.Core.Bool.{Bool, true, false, not, ◌&&◌}
use mathlib.Core.List.{List}
use Rattle.std.specs.Prelude.{Option, Some, None}
use native.Mathlib.Omega.{arith}
use borrow.Author.Tests.{ltb-true, leb-false, eqb-false}
use lib.Dec.{eqb, ltb, leb}
use Rattle.words.specs.Choice.{pick}
use Rattle.words.specs.Fields.{bits}
use Rattle.words.specs.Bits.{bit, is_set}
use Rattle.words.proofs.BitLaws.{bit_lt}
use Rattle.registers.specs.declared.Registers.{Registers}
use Rattle.frame.specs.declared.Frame.{Frame}
use Rattle.filter.specs.Search.{list_of, filter_at, first_match, FewFilters}
use Rattle.filter.specs.Destination.{Goes, to_fifo, to_buffer, discarded, meaning, remote_out, non_matching}
use Rattle.filter.specs.Destination.{unmatched, rx_buffer, by_action, by_search, destination}
use Rattle.filter.specs.Promises.{IndexBelow, Within, DestinationIsWithin}
use Rattle.filter.specs.declared.Reason.{Reason}
use Rattle.filter.specs.declared.Destination.{Destination}
use Rattle.filter.specs.declared.Destination.TheVariants.{Fifo, Buffer, Discarded}

no_index : IndexBelow 128 None
no_index i e = let z : ◌≡◌ {A = ℕ} 0 1 = cc in absurd (omega arith)

this_index : (i : ℕ) → i < 128 → IndexBelow 128 (Some i)
this_index i h j e = let same : i ≡ j = cc in omega arith

module _ (g : Registers) (newdata : ℕ) where
  -- both ways of a choice, each under what the test says
  chosen : (t : Bool) (a b : Goes) → (t ≡ true → Within g newdata a) → (t ≡ false → Within g newdata b)
      → Within g newdata (pick t a b)
  chosen true a b p q = p refl
  chosen false a b p q = q refl

  unmatched_within : (anf : ℕ) → Within g newdata (unmatched anf)
  unfolding unmatched
  unmatched_within anf =
      chosen (eqb anf 0) (to_fifo 0 false None) _ (λ e. (omega arith, no_index))
      (λ e. chosen (eqb anf 1) (to_fifo 1 false None) (discarded 2 None) (λ e. (omega arith, no_index))
      (λ e. (omega arith, no_index)))

  module _ (i : ℕ) (h : i < 128) where
    fifo : (k : ℕ) (priority : Bool) → k ≤ 1 → Within g newdata (to_fifo k priority (Some i))
    fifo k priority l = (l, this_index i h)

    out : (why : ℕ) → why ≤ 6 → Within g newdata (discarded why (Some i))
    out why l = (l, this_index i h)

    buffer_within : (id2 : ℕ) → Within g newdata (rx_buffer id2 g.buffers newdata i)
    unfolding rx_buffer
    buffer_within id2 =
        let b = bits 5 0 id2 in
        chosen (not (eqb (bits 10 9 id2) 0)) (discarded 4 (Some i)) _ (λ e. out 4 (omega arith))
        (λ e. chosen (leb g.buffers b) (discarded 5 (Some i)) _ (λ e. out 5 (omega arith))
        (λ past. chosen (is_set newdata b) (discarded 6 (Some i)) (to_buffer b i) (λ e. out 6 (omega arith))
        (λ new. (leb-false g.buffers b past, omega (arith, bit_lt newdata b, eqb-false (bit newdata b) 1 new), h))))

    action_within : (action id2 : ℕ) → Within g newdata (by_action action id2 g.buffers newdata i)
    unfolding by_action
    action_within action id2 =
        chosen (eqb action 1) (to_fifo 0 false (Some i)) _ (λ e. fifo 0 false (omega arith))
        (λ e. chosen (eqb action 2) (to_fifo 1 false (Some i)) _ (λ e. fifo 1 false (omega arith))
        (λ e. chosen (eqb action 3) (discarded 1 (Some i)) _ (λ e. out 1 (omega arith))
        (λ e. chosen (eqb action 4) (discarded 3 (Some i)) _ (λ e. out 3 (omega arith))
        (λ e. chosen (eqb action 5) (to_fifo 0 true (Some i)) _ (λ e. fifo 0 true (omega arith))
        (λ e. chosen (eqb action 6) (to_fifo 1 true (Some i)) _ (λ e. fifo 1 true (omega arith))
        (λ e. buffer_within id2))))))

-- a list has at most 128 elements
list_most : (g : Registers) (xtd : Bool) → FewFilters g → (list_of g xtd).count ≤ 128
list_most g true few = omega (arith, few.long)
list_most g false few = omega (arith, few.short)

pub destination_is_within : DestinationIsWithin
unfolding destination by_search
destination_is_within g mem f newdata few =
    let l = list_of g f.xtd in
    let i = first_match mem l f.id in
    chosen g newdata (f.rtr && remote_out g f.xtd) (discarded 0 None) _ (λ e. (omega arith, no_index))
    (λ e. chosen g newdata (ltb i l.count) _ _
    (λ found.
    let h : i < 128 = omega (arith, ltb-true i l.count found, list_most g f.xtd few) in
    action_within g newdata i h (filter_at mem l i).action (filter_at mem l i).id2)
    (λ none. unmatched_within g newdata (non_matching g f.xtd)))

-- ---- of an answer of the code, by its case

module _ (g : Registers) (mem : List ℕ) (f : Frame) (newdata : ℕ) (few : FewFilters g)
    (d : Destination) (so : meaning d ≡ destination g mem f newdata) where
  answer_within : (c : Destination) → d ≡ c → Within g newdata (meaning c)
  answer_within c e = subst (Within g newdata) (sym so ∙ ap meaning e) (destination_is_within g mem f newdata few)

  module _ (k : ℕ) (priority : Bool) (m : Option ℕ) (e : d ≡ Fifo k priority m) where
    pub fifo_number : k ≤ 1
    fifo_number = (answer_within (Fifo k priority m) e).0

    pub fifo_index : IndexBelow 128 m
    fifo_index = (answer_within (Fifo k priority m) e).1

  module _ (b i : ℕ) (e : d ≡ Buffer b i) where
    pub buffer_number : b < g.buffers
    buffer_number = (answer_within (Buffer b i) e).0

    pub buffer_clear : bit newdata b ≡ 0
    buffer_clear = (answer_within (Buffer b i) e).1

    pub buffer_index : i < 128
    buffer_index = (answer_within (Buffer b i) e).2

  pub discarded_index : (why : Reason) (m : Option ℕ) → d ≡ Discarded why m → IndexBelow 128 m
  discarded_index why m e = (answer_within (Discarded why m) e).1
