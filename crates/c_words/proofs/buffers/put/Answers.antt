-- What is written over a part stands between what was before it and what was after it.
use Rattle.std.proofs.Common.{ℕ, ◌≡◌, ◌+◌, ◌-◌, List, ◌++◌, length, take, drop, sym, append_assoc, arith}
use Rattle.std.proofs.lemmas.List.{drop-drop}
use Rattle.words.specs.Runs.{splice}
use Rattle.c_words.proofs.buffers.put.Goals as goal

put_over : (l from is : List ℕ) (at : ℕ) → is ≡ from
    → take at l ++ (is ++ drop (at + length from - at) (drop at l)) ≡ splice l at from
unfolding splice
put_over l from is at e =
    let past : at + (at + length from - at) ≡ at + length from = omega arith in
    rw (drop-drop, past, e) (sym (append_assoc (take at l) from _))

pub returns : goal.returns
returns c = put_over c.args.words.now c.args.from.now _ c.args.at c.copy_from_slice.ensures.after
