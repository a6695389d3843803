-- Where a frame goes, following from what the search answers.
-- Assumes nothing.
use Prim.Native.Nat.{ℕ, ◌≤◌}
use mathlib.Core.Path.{◌≡◌, refl, sym, ◌∙◌}
use mathlib.Core.Bool.{Bool, false, ◌&&◌}
use mathlib.Core.List.{List}
use native.Mathlib.Omega.{arith}
use borrow.Author.Tests.{eq-eqb, ne_eqb}
use Rattle.words.specs.Fields.{bits}
use Rattle.words.specs.Bits.{bit, is_set}
use Rattle.registers.specs.declared.Registers.{Registers}
use Rattle.frame.specs.declared.Frame.{Frame}
use Rattle.filter.specs.Search.{list_of, filter_at, first_match}
use Rattle.filter.specs.Destination.{Goes, remote_out, non_matching, unmatched, rx_buffer, by_action, destination}
use Rattle.filter.specs.Promises.{FirstIs, NoneMatches, ActionTells, UnmatchedTells, DestinationIsByAction}
use Rattle.filter.specs.declared.filters.FilterElement.{FilterElement}
use Rattle.filter.specs.declared.lists.FilterList.{FilterList}
use Rattle.filter.proofs.FirstMatches.{first_searched, none_searched}
use Rattle.filter.proofs.Ways.{unmatched_0, unmatched_1, unmatched_out, buffer_debug, buffer_misfiled}
use Rattle.filter.proofs.Ways.{buffer_locked, buffer_is_free, act_1, act_2, act_3, act_4, act_5, act_6, act_7}
use Rattle.filter.proofs.Ways.{goes_out, goes_by_match, goes_unmatched}

unmatched_tells : (anf : ℕ) (d : Goes) → unmatched anf ≡ d → UnmatchedTells anf d
unmatched_tells anf d e = record {
  fifo0 = λ h. sym (unmatched_0 anf h ∙ e);
  fifo1 = λ h. sym (unmatched_1 anf h ∙ e);
  out = λ h. sym (unmatched_out anf (λ z. omega arith) (λ z. omega arith) ∙ e);
}

module _ (g : Registers) (newdata : ℕ) (x : FilterElement) (i : ℕ) (d : Goes)
    (so : by_action x.action x.id2 g.buffers newdata i ≡ d) where
  abbrev buffer : ℕ
  buffer = bits 5 0 x.id2

  seven : x.action ≡ 7 → rx_buffer x.id2 g.buffers newdata i ≡ d
  seven h =
      act_7 x.action x.id2 g.buffers newdata i (λ z. omega arith) (λ z. omega arith) (λ z. omega arith)
      (λ z. omega arith) (λ z. omega arith) (λ z. omega arith)
      (rx_buffer x.id2 g.buffers newdata i) refl
      ∙ so

  action_tells : ActionTells g newdata x i d
  action_tells = record {
    fifo0 = λ h. sym (act_1 x.action x.id2 g.buffers newdata i h ∙ so);
    fifo1 = λ h. sym (act_2 x.action x.id2 g.buffers newdata i h ∙ so);
    reject = λ h. sym (act_3 x.action x.id2 g.buffers newdata i h ∙ so);
    priority = λ h. sym (act_4 x.action x.id2 g.buffers newdata i h ∙ so);
    priority0 = λ h. sym (act_5 x.action x.id2 g.buffers newdata i h ∙ so);
    priority1 = λ h. sym (act_6 x.action x.id2 g.buffers newdata i h ∙ so);
    debug = λ h k. sym (buffer_debug x.id2 g.buffers newdata i (λ z. omega arith) ∙ seven h);
    misfiled = λ h k p. sym (buffer_misfiled x.id2 g.buffers newdata i buffer refl k p ∙ seven h);
    locked = λ h k p q.
        let new = eq-eqb (bit newdata buffer) 1 q in
        sym
        (buffer_locked x.id2 g.buffers newdata i buffer refl k p (is_set newdata buffer) refl new ∙ seven h);
    stored = λ h k p q.
        let old = ne_eqb (bit newdata buffer) 1 (λ z. omega arith) in
        sym
        (buffer_is_free x.id2 g.buffers newdata i buffer refl k p (is_set newdata buffer) refl old ∙ seven h);
  }

module _ (g : Registers) (mem : List ℕ) (f : Frame) (newdata : ℕ) where
  abbrev list : FilterList
  list = list_of g f.xtd

  abbrev out : Bool
  out = remote_out g f.xtd

  module _ (stays : (f.rtr && out) ≡ false) where
    pub destination_unmatched : NoneMatches mem list f.id
        → unmatched (non_matching g f.xtd) ≡ destination g mem f newdata
    destination_unmatched none =
        let past : list.count ≤ first_match mem list f.id = omega (arith, none_searched mem list f.id none) in
        let anf = non_matching g f.xtd in
        goes_unmatched g mem f newdata out refl stays list refl (first_match mem list f.id) refl anf
        (unmatched anf) past refl refl

    pub destination_matched : (i : ℕ) → FirstIs mem list f.id i
        → by_action (filter_at mem list i).action (filter_at mem list i).id2 g.buffers newdata i
        ≡ destination g mem f newdata
    destination_matched i s =
        let e = filter_at mem list i in
        goes_by_match g mem f newdata out refl stays list refl i (sym (first_searched mem list f.id i s)) e
        (by_action e.action e.id2 g.buffers newdata i) s.within refl refl

pub destination_is_by_action : DestinationIsByAction
destination_is_by_action g mem f newdata = record {
  remote = λ h. sym (goes_out g mem f newdata (out g mem f newdata) refl h);
  unmatched = λ stays none.
      unmatched_tells (non_matching g f.xtd) (destination g mem f newdata)
      (destination_unmatched g mem f newdata stays none);
  matched = λ stays i s.
      action_tells g newdata (filter_at mem (list_of g f.xtd) i) i (destination g mem f newdata)
      (destination_matched g mem f newdata stays i s);
}
