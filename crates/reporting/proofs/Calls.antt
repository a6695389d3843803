-- With an event and without: what is shown of both is shown of the effect.
-- Assumes nothing.
use Prim.Native.Nat.{ℕ}
use mathlib.Core.Path.{◌≡◌, refl}
use mathlib.Core.Bool.{Bool, true, false}
use Rattle.words.specs.Choice.{pick}
use Rattle.element.specs.declared.TxHeader.{TxHeader}
use Rattle.engine.specs.Calls.{World}
use Rattle.choosing.specs.Buffers.{header_of}
use Rattle.choosing.specs.Choosing.{sent_frame}
use Rattle.reporting.specs.Reporting.{after_send, event_kept, reports}

module _ (w : World) (buffer : ℕ) (passive : Bool) (time : ℕ) (P : World → Type 0) where
  abbrev header : TxHeader
  header = header_of w.state w.memory buffer

  abbrev with_event : World
  with_event = event_kept (after_send w buffer) header.marker (sent_frame w.state w.memory passive buffer) time

  pub report_cases : (header.wish ≡ true → P with_event) → (header.wish ≡ false → P (after_send w buffer))
      → P (reports w buffer passive time)
  unfolding reports
  report_cases kept none = go header.wish refl
    where
      go : (t : Bool) → header.wish ≡ t → P (pick t with_event (after_send w buffer))
      go true e = kept e
      go false e = none e
