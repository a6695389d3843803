-- Where a frame goes, case by case.
-- Assumes nothing.
use Prim.Native.Nat.{ℕ, ◌≤◌, ◌<◌}
use mathlib.Core.Path.{◌≡◌, sym, ap, ap₂, ◌∙◌}
use mathlib.Core.Bool.{Bool, true, false, ◌&&◌}
use mathlib.Core.List.{List}
use Rattle.std.specs.Prelude.{Some, None}
use borrow.Author.Tests.{eq-eqb, ne_eqb, le-leb, lt-leb, lt-ltb, le-ltb}
use Rattle.words.specs.Fields.{bits}
use Rattle.words.specs.Bits.{is_set}
use Rattle.words.proofs.Choices.{pick_first, pick_second}
use Rattle.registers.specs.declared.Registers.{Registers}
use Rattle.frame.specs.declared.Frame.{Frame}
use Rattle.filter.specs.Search.{list_of, filter_at, first_match}
use Rattle.filter.specs.Destination.{Goes, to_fifo, to_buffer, discarded, remote_out, non_matching}
use Rattle.filter.specs.Destination.{unmatched, rx_buffer, by_action, by_search, destination}
use Rattle.filter.specs.declared.filters.FilterElement.{FilterElement}
use Rattle.filter.specs.declared.lists.FilterList.{FilterList}

module _ (anf : ℕ) where
  pub unmatched_0 : anf ≡ 0 → to_fifo 0 false None ≡ unmatched anf
  unfolding unmatched
  unmatched_0 h = rw h

  pub unmatched_1 : anf ≡ 1 → to_fifo 1 false None ≡ unmatched anf
  unfolding unmatched
  unmatched_1 h = rw h

  pub unmatched_out : (anf ≡ 0 → ⊥) → (anf ≡ 1 → ⊥) → discarded 2 None ≡ unmatched anf
  unfolding unmatched
  unmatched_out h k = rw (ne_eqb anf 0 h, ne_eqb anf 1 k)

-- action 7
module _ (id2 buffers newdata i : ℕ) where
  pub buffer_debug : (bits 10 9 id2 ≡ 0 → ⊥) → discarded 4 (Some i) ≡ rx_buffer id2 buffers newdata i
  unfolding rx_buffer
  buffer_debug h = rw (ne_eqb (bits 10 9 id2) 0 h)

  module _ (b : ℕ) (named : b ≡ bits 5 0 id2) (plain : bits 10 9 id2 ≡ 0) where
    pub buffer_misfiled : buffers ≤ b → discarded 5 (Some i) ≡ rx_buffer id2 buffers newdata i
    unfolding rx_buffer
    buffer_misfiled h = rw (eq-eqb (bits 10 9 id2) 0 plain, ← named, le-leb buffers b h)

    module _ (within : b < buffers) (r : Bool) (new : r ≡ is_set newdata b) where
      pub buffer_locked : r ≡ true → discarded 6 (Some i) ≡ rx_buffer id2 buffers newdata i
      unfolding rx_buffer
      buffer_locked h = rw (eq-eqb (bits 10 9 id2) 0 plain, ← named, lt-leb buffers b within, ← new, h)

      pub buffer_is_free : r ≡ false → to_buffer b i ≡ rx_buffer id2 buffers newdata i
      unfolding rx_buffer
      buffer_is_free h = rw (eq-eqb (bits 10 9 id2) 0 plain, ← named, lt-leb buffers b within, ← new, h)

-- by action
module _ (action id2 buffers newdata i : ℕ) where
  pub act_1 : action ≡ 1 → to_fifo 0 false (Some i) ≡ by_action action id2 buffers newdata i
  unfolding by_action
  act_1 h = rw h

  pub act_2 : action ≡ 2 → to_fifo 1 false (Some i) ≡ by_action action id2 buffers newdata i
  unfolding by_action
  act_2 h = rw h

  pub act_3 : action ≡ 3 → discarded 1 (Some i) ≡ by_action action id2 buffers newdata i
  unfolding by_action
  act_3 h = rw h

  pub act_4 : action ≡ 4 → discarded 3 (Some i) ≡ by_action action id2 buffers newdata i
  unfolding by_action
  act_4 h = rw h

  pub act_5 : action ≡ 5 → to_fifo 0 true (Some i) ≡ by_action action id2 buffers newdata i
  unfolding by_action
  act_5 h = rw h

  pub act_6 : action ≡ 6 → to_fifo 1 true (Some i) ≡ by_action action id2 buffers newdata i
  unfolding by_action
  act_6 h = rw h

  pub act_7 : (action ≡ 1 → ⊥) → (action ≡ 2 → ⊥) → (action ≡ 3 → ⊥) → (action ≡ 4 → ⊥) → (action ≡ 5 → ⊥)
      → (action ≡ 6 → ⊥)
      → (r : Goes) → r ≡ rx_buffer id2 buffers newdata i → r ≡ by_action action id2 buffers newdata i
  unfolding by_action
  act_7 a b c d e f r h =
      rw (
        ne_eqb action 1 a,
        ne_eqb action 2 b,
        ne_eqb action 3 c,
        ne_eqb action 4 d,
        ne_eqb action 5 e,
        ne_eqb action 6 f,
      ) h

-- the whole
module _ (g : Registers) (mem : List ℕ) (f : Frame) (newdata : ℕ) where
  pub goes_out : (o : Bool) → o ≡ remote_out g f.xtd → (f.rtr && o) ≡ true
      → discarded 0 None ≡ destination g mem f newdata
  unfolding destination
  goes_out o d h = sym (pick_first _ _ (ap (λ (b : Bool). f.rtr && b) (sym d) ∙ h))

  module _ (o : Bool) (d : o ≡ remote_out g f.xtd) (stays : (f.rtr && o) ≡ false)
      (l : FilterList) (listed : l ≡ list_of g f.xtd) (i : ℕ) (found : i ≡ first_match mem l f.id) where
    searched : by_search g mem l newdata i ≡ destination g mem f newdata
    unfolding destination
    searched =
        let same : first_match mem l f.id ≡ first_match mem (list_of g f.xtd) f.id =
        ap (λ (k : FilterList). first_match mem k f.id) listed in
        ap₂ (λ (k : FilterList) (j : ℕ). by_search g mem k newdata j) listed (found ∙ same)
        ∙ sym (pick_second _ _ (ap (λ (b : Bool). f.rtr && b) (sym d) ∙ stays))

    pub goes_by_match : (e : FilterElement) (r : Goes) → i < l.count → e ≡ filter_at mem l i
        → r ≡ by_action e.action e.id2 g.buffers newdata i
        → r ≡ destination g mem f newdata
    unfolding by_search
    goes_by_match e r h p q =
        q
        ∙ ap (λ (x : FilterElement). by_action x.action x.id2 g.buffers newdata i) p
        ∙ sym (pick_first _ _ (lt-ltb i l.count h))
        ∙ searched

    pub goes_unmatched : (anf : ℕ) (r : Goes) → l.count ≤ i → anf ≡ non_matching g f.xtd → r ≡ unmatched anf
        → r ≡ destination g mem f newdata
    unfolding by_search
    goes_unmatched anf r h p q =
        q
        ∙ ap unmatched (p ∙ ap (λ (k : FilterList). non_matching g k.xtd) (sym listed))
        ∙ sym (pick_second _ _ (le-ltb i l.count h))
        ∙ searched
