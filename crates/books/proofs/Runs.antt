-- What each step keeps holds after every run, and what each step is told to say the whole history is told to be.
-- Assumes nothing.
use mathlib.Core.Path.{◌≡◌, refl, ap}
use mathlib.Core.List.{List, [], ◌∷◌}
use Rattle.shape.specs.Calls.{Says, Outcome}
use Rattle.shape.specs.Histories.{Told, told, trace, after, book, foretold}
use Rattle.books.specs.Lists.{Each}

-- Given is what is known of each call of a run and what it told
module _ {W Book Call : Type 0} {Answer : Call → Type 0} (step : W → (c : Call) → Outcome W (Answer c))
    (note : Book → (c : Call) → Says (Answer c) → Book) (Given : ((c : Call) × Told (Answer c)) → Type 0)
    (Inv : Book → W → Type 0)
    (keep : (b : Book) (w : W) (c : Call) → Given (c, told (step w c)) → Inv b w
    → Inv (note b c (step w c).says) (step w c).world) where
  pub run_keeps : (b : Book) (w : W) (cs : List Call) → Each Given (trace step w cs) → Inv b w
      → Inv (book note b (trace step w cs)) (after step w cs)
  run_keeps b w [] g h = h
  run_keeps b w (c ∷ cs) g h = run_keeps (note b c (step w c).says) (step w c).world cs g.1 (keep b w c g.0 h)

  pub run_foretold : (expect : (b : Book) (c : Call) → Told (Answer c))
      → ((b : Book) (w : W) (c : Call) → Inv b w → told (step w c) ≡ expect b c)
      → (b : Book) (w : W) (cs : List Call) → Each Given (trace step w cs) → Inv b w
      → trace step w cs ≡ foretold note expect b cs
  run_foretold expect tells b w [] g h = refl
  run_foretold expect tells b w (c ∷ cs) g h =
      rw (← tells b w c h)
      (ap (λ (r : List ((c : Call) × Told (Answer c))). (c, told (step w c)) ∷ r)
      (run_foretold expect tells (note b c (step w c).says) (step w c).world cs g.1 (keep b w c g.0 h)))
