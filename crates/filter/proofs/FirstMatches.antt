-- The search answers the first element that matches, and the count where none does.
-- Assumes nothing.
use Prim.Native.Nat.{ℕ, ◌≤◌, ◌<◌}
use mathlib.Core.Path.{◌≡◌, subst}
use mathlib.Core.Bool.{Bool}
use mathlib.Core.List.{List}
use native.Mathlib.Omega.{arith}
use Rattle.words.proofs.Lowest.{least_within, least_passes, least_below, least_is, least_absent}
use Rattle.filter.specs.Search.{matches_at, first_match}
use Rattle.filter.specs.Promises.{FirstIs, NoneMatches, SearchIsFirstMatch}
use Rattle.filter.specs.declared.lists.FilterList.{FilterList}

module _ (mem : List ℕ) (l : FilterList) (id : ℕ) where
  abbrev test : ℕ → Bool
  test = matches_at mem l id

  pub search_within : first_match mem l id ≤ l.count
  unfolding first_match
  search_within = omega (arith, least_within test 0 l.count)

  pub search_first : first_match mem l id < l.count → FirstIs mem l id (first_match mem l id)
  unfolding first_match
  search_first h = record {
    within = h;
    here = least_passes test 0 l.count (omega arith);
    before = λ j k. least_below test 0 l.count j (omega arith) k;
  }

  pub first_searched : (i : ℕ) → FirstIs mem l id i → first_match mem l id ≡ i
  unfolding first_match
  first_searched i s =
      least_is test 0 l.count i (omega arith) (omega (arith, s.within)) s.here (λ j a b. s.before j b)

  pub search_none : l.count ≤ first_match mem l id → NoneMatches mem l id
  unfolding first_match
  search_none h j k = least_below test 0 l.count j (omega arith) (omega arith)

  pub none_searched : NoneMatches mem l id → first_match mem l id ≡ l.count
  unfolding first_match
  none_searched h = omega (arith, least_absent test 0 l.count (λ j a b. h j (omega arith)))

pub search_is_first_match : SearchIsFirstMatch
search_is_first_match mem l id = record {
  found = λ i. (
    λ h. subst (FirstIs mem l id) h.1 (search_first mem l id (omega arith)),
    λ s. (s.within, first_searched mem l id i s),
  );
  none = (λ h. search_none mem l id (omega arith), none_searched mem l id);
}
