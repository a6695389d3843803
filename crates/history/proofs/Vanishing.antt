-- Demand 3 of any calls: they are taken apart at their last accepted start, and the rest is a run.
-- Assumes nothing.
use Prim.Native.Nat.{ℕ, ◌<◌}
use mathlib.Core.Path.{◌≡◌, refl, sym, ap, ◌∙◌}
use mathlib.Core.Bool.{Bool, true, false, true≢false}
use mathlib.Core.List.{List, [], ◌∷◌, ◌++◌}
use native.Mathlib.Omega.{arith}
use lib.Dec.{ltb}
use borrow.Author.Tests.{ltb-true, ltb-false}
use Rattle.words.specs.Choice.{pick}
use Rattle.shape.specs.Calls.{Says, refuses, answers, done}
use Rattle.shape.specs.Histories.{told, trace, after}
use Rattle.engine.specs.Calls.{World}
use Rattle.books.specs.Lists.{tally, Each}
use Rattle.handler.specs.Calls.{Call, start, receive, read_fifo, acknowledge_fifo, read_buffer, release_buffer}
use Rattle.handler.specs.Calls.{request_dedicated, request_shared, cancel, ask_choice, report_sent, read_event}
use Rattle.handler.specs.Calls.{acknowledge_event, clear_flags, report_status, step}
use Rattle.history.specs.Demand3.{InTypes, is_accepted, is_started, now, LastStart, NothingVanishes}
use Rattle.history.proofs.Runs.{standing, every_answer, filters_suffice, sent_in_form}
use Rattle.history.proofs.Meaning.{as_meant}
use Rattle.history.proofs.NeverUnfit.{never_20}

-- ---- the last accepted start

is_done : (x : Says (Unit {0})) → is_accepted x ≡ true → x ≡ done
is_done (answers a) e = refl
is_done (refuses n) e = absurd (true≢false (sym e))

-- the first call is an accepted start, and none after it is
here_last : (w : World) (c : Call) (cs : List Call) → Each InTypes cs → is_started (c, told (step w c)) ≡ true
    → tally is_started (trace step (step w c).world cs) ≡ 0 → LastStart w (c ∷ cs)
here_last w (start g) cs typed e none = record {
  earlier = [];
  run = record {
    before = w;
    regs = g;
    accepted = is_done (step w (start g)).says e;
    calls = cs;
    typed = typed;
    last = none;
  };
  from = refl;
  whole = refl;
}
here_last w (receive f d time) cs typed e none = absurd (true≢false (sym e))
here_last w (read_fifo fifo place out) cs typed e none = absurd (true≢false (sym e))
here_last w (acknowledge_fifo fifo place) cs typed e none = absurd (true≢false (sym e))
here_last w (read_buffer buffer out) cs typed e none = absurd (true≢false (sym e))
here_last w (release_buffer buffer) cs typed e none = absurd (true≢false (sym e))
here_last w (request_dedicated buffer h d) cs typed e none = absurd (true≢false (sym e))
here_last w (request_shared h d) cs typed e none = absurd (true≢false (sym e))
here_last w (cancel buffer) cs typed e none = absurd (true≢false (sym e))
here_last w (ask_choice passive out) cs typed e none = absurd (true≢false (sym e))
here_last w (report_sent buffer passive time) cs typed e none = absurd (true≢false (sym e))
here_last w (read_event place) cs typed e none = absurd (true≢false (sym e))
here_last w (acknowledge_event place) cs typed e none = absurd (true≢false (sym e))
here_last w (clear_flags mask) cs typed e none = absurd (true≢false (sym e))
here_last w report_status cs typed e none = absurd (true≢false (sym e))

last_start : (w : World) (cs : List Call) → Each InTypes cs → 0 < tally is_started (trace step w cs) → LastStart w cs
unfolding tally
last_start w [] typed some = absurd (omega arith)
last_start w (c ∷ cs) typed some =
    go (ltb 0 (tally is_started (trace step (step w c).world cs))) refl (last_start (step w c).world cs typed.1)
  where
    rest : ℕ
    rest = tally is_started (trace step (step w c).world cs)

    go : (t : Bool) → ltb 0 (tally is_started (trace step (step w c).world cs)) ≡ t
        → (0 < tally is_started (trace step (step w c).world cs) → LastStart (step w c).world cs)
        → LastStart w (c ∷ cs)
    go true e later =
        let l = later (ltb-true 0 rest e) in
        record {
          earlier = c ∷ l.earlier;
          run = l.run;
          from = l.from;
          whole = ap (λ (xs : List Call). c ∷ xs) l.whole;
        }
    go false e later =
        let none : rest ≡ 0 = omega (arith, ltb-false 0 rest e) in
        here_last w c cs typed.1 (is_one (is_started (c, told (step w c))) refl none) none
      where
        is_one : (t : Bool) → is_started (c, told (step w c)) ≡ t
            → tally is_started (trace step (step w c).world cs) ≡ 0 → is_started (c, told (step w c)) ≡ true
        is_one true y none = y
        is_one false y none = absurd (omega (arith, some, none, ap (λ (t : Bool). pick {A = ℕ} t 1 0) y))

-- ---- the world after all

after_both : (w : World) (xs ys : List Call) → after step w (xs ++ ys) ≡ after step (after step w xs) ys
after_both w [] ys = refl
after_both w (x ∷ xs) ys = after_both (step w x).world xs ys

now_after : (w : World) (cs : List Call) (l : LastStart w cs) → after step w cs ≡ now l.run
now_after w cs l =
    let r = l.run in
    ap (after step w) l.whole
    ∙ after_both w l.earlier (start r.regs ∷ r.calls)
    ∙ ap (λ (v : World). after step v (start r.regs ∷ r.calls)) (sym l.from)

pub nothing_vanishes : NothingVanishes
nothing_vanishes w cs typed some =
    let l = last_start w cs typed some in
    let r = l.run in
    record {
      since = l;
      here = now_after w cs l;
      stands = (standing r).agreed;
      meant = as_meant r;
      answers = every_answer r;
      filters = filters_suffice r.regs r.before.memory;
      sent = sent_in_form r;
      fit = never_20 r;
    }
