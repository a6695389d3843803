-- The search and the destination look at no word outside the section of the frame's own list.
-- Assumes nothing.
use Prim.Native.Nat.{ℕ, ◌+◌, ◌*◌, ◌≤◌, ◌<◌}
use mathlib.Core.Path.{◌≡◌, refl, sym, ap, ap₂, ◌∙◌}
use mathlib.Core.Bool.{Bool, true, false, ◌&&◌}
use mathlib.Core.List.{List}
use native.Mathlib.Omega.{arith}
use borrow.Author.Tests.{ltb-true}
use lib.Dec.{ltb}
use lib.ListN.{get_or}
use Rattle.words.specs.Choice.{pick}
use Rattle.words.specs.Ranges.{SameIn}
use Rattle.words.proofs.Choices.{pick_first, pick_second}
use Rattle.words.proofs.Lowest.{least_same}
use Rattle.registers.specs.declared.Registers.{Registers}
use Rattle.filter.specs.Elements.{element11, element29}
use Rattle.filter.specs.Matching.{matches}
use Rattle.filter.specs.Search.{list_of, list_words, list_range, filter_at, matches_at, first_match}
use Rattle.filter.specs.Destination.{Goes, remote_out, non_matching, unmatched, by_action, by_search, destination}
use Rattle.filter.specs.Promises.{SearchReadsItsList, DestinationReadsItsList}
use Rattle.filter.specs.declared.filters.FilterElement.{FilterElement}
use Rattle.filter.specs.declared.lists.FilterList.{FilterList}
use Rattle.filter.proofs.Turns.{element_long, element_short}

module _ (l : FilterList) (m n : List ℕ) (same : SameIn (list_range l) m n) where
  abbrev long : List ℕ → ℕ → FilterElement
  long w i = element29 (get_or w (l.start.0 + 2 * i) 0) (get_or w (l.start.0 + 2 * i + 1) 0)

  abbrev short : List ℕ → ℕ → FilterElement
  short w i = element11 (get_or w (l.start.0 + i) 0)

  word : (k : ℕ) → l.start.0 ≤ k → k < l.start.0 + list_words l → get_or m k 0 ≡ get_or n k 0
  word k a b = sym (same.within k a b)

  pub element_same : (i : ℕ) → i < l.count → filter_at m l i ≡ filter_at n l i
  element_same i h = go l.xtd refl
    where
      go : (b : Bool) → l.xtd ≡ b → filter_at m l i ≡ filter_at n l i
      go true e =
          let words : list_words l ≡ 2 * l.count = pick_first (2 * l.count) l.count e in
          sym (element_long m l i (long m i) e refl)
          ∙ ap₂ element29 (word (l.start.0 + 2 * i) (omega arith) (omega arith))
          (word (l.start.0 + 2 * i + 1) (omega arith) (omega arith))
          ∙ element_long n l i (long n i) e refl
      go false e =
          let words : list_words l ≡ l.count = pick_second (2 * l.count) l.count e in
          sym (element_short m l i (short m i) e refl)
          ∙ ap element11 (word (l.start.0 + i) (omega arith) (omega arith))
          ∙ element_short n l i (short n i) e refl

  pub search_same : (id : ℕ) → first_match m l id ≡ first_match n l id
  unfolding first_match
  search_same id =
      least_same (matches_at m l id) (matches_at n l id) 0 l.count
      (λ k a b. ap (λ (e : FilterElement). matches l.xtd l.xidam e id) (element_same k (omega arith)))

  answer_same : (g : Registers) (newdata i : ℕ) → by_search g m l newdata i ≡ by_search g n l newdata i
  unfolding by_search
  answer_same g newdata i = go (ltb i l.count) refl
    where
      acted : FilterElement → Goes
      acted e = by_action e.action e.id2 g.buffers newdata i

      rest : Goes
      rest = unmatched (non_matching g l.xtd)

      go : (b : Bool) → ltb i l.count ≡ b
          → pick (ltb i l.count) (acted (filter_at m l i)) rest
          ≡ pick (ltb i l.count) (acted (filter_at n l i)) rest
      go true e =
          ap (λ (x : FilterElement). pick (ltb i l.count) (acted x) rest) (element_same i (ltb-true i l.count e))
      go false e = pick_second (acted (filter_at m l i)) rest e ∙ sym (pick_second (acted (filter_at n l i)) rest e)

pub search_reads_its_list : SearchReadsItsList
search_reads_its_list l m n id same = search_same l m n same id

pub destination_reads_its_list : DestinationReadsItsList
unfolding destination
destination_reads_its_list g m n f newdata same =
    let l = list_of g f.xtd in
    ap (pick (f.rtr && remote_out g f.xtd) _)
    (answer_same l m n same g newdata (first_match m l f.id)
    ∙ ap (by_search g n l newdata) (search_same l m n same f.id))
