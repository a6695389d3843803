-- The record after every call.
-- Assumes nothing.
use Rattle.std.proofs.Math.Bool.{or-false}
use Prim.Native.Nat.{ℕ, ◌-◌, ◌^◌, ◌≤◌, ◌<◌, min}
use mathlib.Core.Path.{◌≡◌, refl, sym, ap, ◌∙◌}
use mathlib.Core.Bool.{Bool, true, false, not, ◌&&◌, ◌||◌}
use mathlib.Core.List.{[]}
use native.Mathlib.Omega.{arith}
use lib.Dec.{eqb}
use lib.ListN.{length}
use Rattle.words.specs.Bits.{is_set, without_mask}
use Rattle.words.specs.Fields.{in_field}
use Rattle.words.specs.Rules.{allowed, first}
use Rattle.words.proofs.BitLaws.{bit_lt, bit_of_zero, cleared_bit, cleared_clear}
use Rattle.engine.specs.Calls.{World, Outcome, is_unfit}
use Rattle.engine.specs.Fitness.{flag_fields, FlagsSound}
use Rattle.engine.specs.Flags.{raised, cleared}
use Rattle.engine.specs.declared.state.Record.{Record}
use Rattle.engine.proofs.Calls.{row_off}
use Rattle.engine.proofs.Sounds.{flags_of}
use Rattle.receiving.specs.Receive.{receive_refusals}
use Rattle.receiving.proofs.Judgements.{receive_open}
use Rattle.taking.specs.Reading.{reads}
use Rattle.requesting.specs.Requesting.{requests}
use Rattle.choosing.specs.Choosing.{chooses}
use Rattle.reporting.specs.Reporting.{report_refusals}
use Rattle.reporting.proofs.Judgements.{report_open}
use Rattle.overview.specs.Overview.{overview_refusals}
use Rattle.handler.specs.Calls.{Call, start, receive, read_fifo, acknowledge_fifo, read_buffer, release_buffer}
use Rattle.handler.specs.Calls.{request_dedicated, request_shared, cancel, ask_choice, report_sent, read_event}
use Rattle.handler.specs.Calls.{acknowledge_event, clear_flags, report_status, Answer}
use Rattle.handler.specs.Records.{raising, notes_of, notes_in, Noted, RecordTells}
use Rattle.handler.specs.Rows.{rows}
use Rattle.handler.proofs.Exact.{does, step_cases}
use Rattle.handler.proofs.RecordFlags.{kept, raised_up}
use Rattle.handler.proofs.RecordReceive.{receive_noted}
use Rattle.handler.proofs.RecordReport.{report_noted}

-- as it was
unnoted : (w v : World) → v.recorded ≡ w.recorded → Noted w v (raising [])
unnoted w v e = record {
  flags = λ n.
      ap (λ (r : Record). is_set r.flags n) e
      ∙ sym (or-false (is_set w.recorded.flags n))
      ∙ kept (is_set w.recorded.flags n) false;
  priority = ap (λ (r : Record). r.priority) e;
}

-- ---- call 1

no_flags_set : (n : ℕ) (b : Bool) → is_set 0 n ≡ (b && false || false)
no_flags_set n b = grind (arith, bit_of_zero n)

-- ---- call 14

both_bits : (b m : ℕ) → b < 2 → m < 2 → eqb (min b (1 - m)) 1 ≡ (eqb b 1 && not (eqb m 1) || false)
both_bits b m h k = grind arith

no_flag : (n : ℕ) → 32 ≤ n → in_field flag_fields n ≡ false
no_flag n h = grind arith

masked : (flags mask : ℕ) (r : Record) → r.flags ≡ flags → FlagsSound r → mask < 2 ^ 32 → (n : ℕ)
    → is_set (without_mask 32 flags mask) n ≡ (is_set flags n && not (is_set mask n) || false)
masked flags mask r same sound h n =
    grind (
      arith,
      cleared_bit 32 flags mask n h,
      cleared_clear 32 flags mask n,
      bit_lt flags n,
      bit_lt mask n,
      sound n,
      no_flag n,
    )

-- ---- every call

noted : (w : World) (c : Call) → ((mask : ℕ) → c ≡ clear_flags mask → mask < 2 ^ 32) → first (rows w c) ≡ allowed
    → let d = does w c in Noted w d.world (notes_of w c d.answer d.world)
unfolding rows receive_refusals report_refusals overview_refusals raised cleared reads chooses requests
noted w (start g) m e = record { flags = λ n. no_flags_set n (is_set w.recorded.flags n); priority = refl }
noted w (receive f d time) m e = receive_noted w f d time (receive_open w f (length d) e)
noted w (read_fifo fifo place out) m e = unnoted w _ refl
noted w (acknowledge_fifo fifo place) m e = unnoted w _ refl
noted w (read_buffer buffer out) m e = unnoted w _ refl
noted w (release_buffer buffer) m e = unnoted w _ refl
noted w (request_dedicated buffer h d) m e = unnoted w _ refl
noted w (request_shared h d) m e = unnoted w _ refl
noted w (cancel buffer) m e = record {
  flags = λ n.
      raised_up w.recorded 10 n
      ∙ kept (is_set w.recorded.flags n) (eqb n 10)
      ∙ ap (λ (x : Bool). is_set w.recorded.flags n && true || x) (sym (or-false (eqb n 10)));
  priority = refl;
}
noted w (ask_choice passive out) m e = unnoted w _ refl
noted w (report_sent buffer passive time) m e = report_noted w buffer passive time (report_open w buffer e)
noted w (read_event place) m e = unnoted w _ refl
noted w (acknowledge_event place) m e = unnoted w _ refl
noted w (clear_flags mask) m e =
    let fit = row_off 20 (is_unfit w) [] e in
    record {
      flags =
          masked w.recorded.flags mask w.recorded refl
          (flags_of w.state w.recorded (length w.memory) fit.0) (m mask refl);
      priority = refl;
    }
noted w report_status m e = unnoted w _ refl

pub record_tells : RecordTells
record_tells w c m =
    step_cases w c (λ (o : Outcome (Answer c)). Noted w o.world (notes_in w c o.says o.world))
    (λ a. unnoted w w refl) (noted w c m)
