-- The fields of GFC, by kind and bit, and the lists' own.
-- Assumes nothing.
use Prim.Native.Nat.{ℕ}
use mathlib.Core.Path.{◌≡◌, refl, sym, ap, ◌∙◌, subst}
use mathlib.Core.Bool.{Bool, true, false, not, ◌&&◌}
use mathlib.Core.List.{List}
use Rattle.std.specs.Prelude.{Option, Some, None}
use mathlib.Core.Logic.{◌⊎◌, inl, inr}
use lib.Dec.{eqb, ltb, leb}
use Rattle.std.proofs.lemmas.Bool.{eqb-true, eq-eqb, and_parts, false_from_ne_true}
use Rattle.words.specs.Choice.{pick}
use Rattle.words.specs.Bits.{bit, is_set}
use Rattle.words.specs.Fields.{bits}
use Rattle.words.proofs.Choices.{pick_first, pick_second}
use Rattle.registers.specs.declared.Registers.{Registers}
use Rattle.frame.specs.declared.Frame.{Frame}
use Rattle.filter.specs.Search.{list_of, filter_at, first_match}
use Rattle.filter.specs.Destination.{Goes, to_fifo, to_buffer, discarded, remote_out, non_matching, unmatched}
use Rattle.filter.specs.Destination.{rx_buffer, by_action, by_search, destination}
use Rattle.filter.specs.Promises.{UnmatchedTells, RemoteIsOut, DestinationIsByGfc, ListsAreByBits}
use Rattle.filter.specs.declared.lists.FilterList.{FilterList}
use Rattle.filter.proofs.ActionByAction.{destination_is_by_action}

-- ---- no other way discards as remote

abbrev is_remote : Goes → Bool
is_remote (to_fifo k priority m) = false
is_remote (to_buffer b i) = false
is_remote (discarded why None) = eqb why 0
is_remote (discarded why (Some i)) = false

data Other : Goes → Type 0 where
  fifo : {k : ℕ} {priority : Bool} {m : Option ℕ} → Other (to_fifo k priority m)
  buffer : {b i : ℕ} → Other (to_buffer b i)
  named : {why i : ℕ} → Other (discarded why (Some i))
  unnamed : Other (discarded 2 None)

other_not : (d : Goes) → Other d → is_remote d ≡ false
other_not d fifo = refl
other_not d buffer = refl
other_not d named = refl
other_not d unnamed = refl

either : (t : Bool) {a b : Goes} → Other a → Other b → Other (pick t a b)
either true p q = p
either false p q = q

module _ (id2 count newdata i : ℕ) where
  buffer_other : Other (rx_buffer id2 count newdata i)
  unfolding rx_buffer
  buffer_other =
      either (not (eqb (bits 10 9 id2) 0)) named
      (either (leb count (bits 5 0 id2)) named (either (is_set newdata (bits 5 0 id2)) named buffer))

  action_other : (action : ℕ) → Other (by_action action id2 count newdata i)
  unfolding by_action
  action_other action =
      either (eqb action 1) fifo
      (either (eqb action 2) fifo
      (either (eqb action 3) named
      (either (eqb action 4) named
      (either (eqb action 5) fifo
      (either (eqb action 6) fifo buffer_other)))))

unmatched_other : (anf : ℕ) → Other (unmatched anf)
unfolding unmatched
unmatched_other anf = either (eqb anf 0) fifo (either (eqb anf 1) fifo unnamed)

search_other : (g : Registers) (mem : List ℕ) (l : FilterList) (newdata i : ℕ) → Other (by_search g mem l newdata i)
unfolding by_search
search_other g mem l newdata i =
    either (ltb i l.count)
    (action_other (filter_at mem l i).id2 g.buffers newdata i (filter_at mem l i).action)
    (unmatched_other (non_matching g l.xtd))

-- ---- remote frames, by bit

module _ (g : Registers) (mem : List ℕ) (f : Frame) (newdata : ℕ) where
  abbrev out : Bool
  out = f.rtr && remote_out g f.xtd

  abbrev list : FilterList
  list = list_of g f.xtd

  abbrev searched : Goes
  searched = by_search g mem list newdata (first_match mem list f.id)

  by_bit : (x : Bool) → f.xtd ≡ x → remote_out g x ≡ true
      → ((f.xtd ≡ false) × (bit g.gfc.word 1 ≡ 1)) ⊎ ((f.xtd ≡ true) × (bit g.gfc.word 0 ≡ 1))
  by_bit true e h = inr (e, eqb-true (bit g.gfc.word 0) 1 h)
  by_bit false e h = inl (e, eqb-true (bit g.gfc.word 1) 1 h)

  out_by_bit : out ≡ true → RemoteIsOut g f
  out_by_bit h = let b = and_parts f.rtr (remote_out g f.xtd) h in (b.0, by_bit f.xtd refl b.1)

  stays : (RemoteIsOut g f → ⊥) → out ≡ false
  stays k = false_from_ne_true out (λ h. k (out_by_bit h))

  bit_out : RemoteIsOut g f → out ≡ true
  bit_out h = rw h.0 (go h.1)
    where
      go : ((f.xtd ≡ false) × (bit g.gfc.word 1 ≡ 1)) ⊎ ((f.xtd ≡ true) × (bit g.gfc.word 0 ≡ 1))
          → remote_out g f.xtd ≡ true
      go (inl b) = ap (remote_out g) b.0 ∙ eq-eqb (bit g.gfc.word 1) 1 b.1
      go (inr b) = ap (remote_out g) b.0 ∙ eq-eqb (bit g.gfc.word 0) 1 b.1

  remote_is_out : is_remote (destination g mem f newdata) ≡ true → out ≡ true
  unfolding destination
  remote_is_out h = go out refl
    where
      go : (t : Bool) → out ≡ t → out ≡ true
      go true e = e
      go false e =
          let same : destination g mem f newdata ≡ searched = pick_second _ _ e in
          let yes : is_remote searched ≡ true = ap is_remote (sym same) ∙ h in
          let not_so : is_remote searched ≡ false =
          other_not searched (search_other g mem list newdata (first_match mem list f.id)) in
          cc

pub destination_is_by_gfc : DestinationIsByGfc
destination_is_by_gfc g mem f newdata =
    let tells = destination_is_by_action g mem f newdata in
    let d = destination g mem f newdata in
    record {
      remote = (
        λ h. out_by_bit g mem f newdata (remote_is_out g mem f newdata (ap is_remote h)),
        λ h. tells.remote (bit_out g mem f newdata h),
      );
      anfs = λ k e none.
          subst (λ (anf : ℕ). UnmatchedTells anf d) (pick_second _ _ e)
          (tells.unmatched (stays g mem f newdata k) none);
      anfe = λ k e none.
          subst (λ (anf : ℕ). UnmatchedTells anf d) (pick_first _ _ e)
          (tells.unmatched (stays g mem f newdata k) none);
      matched = λ k. tells.matched (stays g mem f newdata k);
    }

-- ---- the lists

pub lists_are_by_bits : ListsAreByBits
unfolding filter_at
lists_are_by_bits g mem = record {
  count11 = refl;
  count29 = refl;
  short = λ i. record { filtertype = refl; action = refl; id1 = refl; id2 = refl };
  long = λ i. record { action = refl; id1 = refl; filtertype = refl; id2 = refl };
  xidam = refl;
}
