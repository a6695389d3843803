-- The form as sent and the bytes as sent, each by what the paper says of it.
-- Assumes nothing.
use Prim.Native.Nat.{ℕ, ◌<◌}
use mathlib.Core.Path.{◌≡◌, refl, ap, ◌∙◌}
use mathlib.Core.Bool.{Bool, true, false, not, ◌&&◌, ◌||◌}
use mathlib.Core.List.{List}
use mathlib.Core.Logic.{◌↔◌, ◌⊎◌, inl, inr}
use native.Mathlib.Omega.{arith}
use lib.Dec.{ltb}
use lib.ListN.{get_or}
use Rattle.std.proofs.lemmas.Bool.{lt-ltb, le-ltb, not-true, not_from_false, and_parts, and_from, or_cases, or_left, or_right}
use Rattle.words.specs.Choice.{pick}
use Rattle.words.proofs.Choices.{pick_first, pick_second}
use Rattle.words.proofs.Runs.{length_run, get_or_run}
use Rattle.frame.specs.Sent.{sent_fd, as_sent, sent_bytes}
use Rattle.frame.specs.Promises.{GoesInFd, FormIsAsSent, BytesAreAsSent}
use Rattle.frame.specs.declared.Frame.{Frame}

-- ---- tests and what they say

both : (a b : Bool) → ((a && b) ≡ true) ↔ ((a ≡ true) × (b ≡ true))
both a b = (and_parts a b, λ h. and_from a b h.0 h.1)

either : (a b : Bool) → ((a || b) ≡ true) ↔ ((a ≡ true) ⊎ (b ≡ true))
either a b = (or_cases a b, elim [ inl h ↦ or_left a b h | inr h ↦ or_right a b h ])

denied : (a : Bool) → (not a ≡ true) ↔ (a ≡ false)
denied a = (not-true a, not_from_false a)

module _ (f : Frame) (fd : Bool) where
  in_fd : (sent_fd f fd ≡ true) ↔ GoesInFd f fd
  in_fd = (
    λ h.
        let outer = (both (not f.rtr && f.fdf) fd).0 h in
        let inner = (both (not f.rtr) f.fdf).0 outer.0 in
        ((denied f.rtr).0 inner.0, inner.1, outer.1),
    λ h.
        (both (not f.rtr && f.fdf) fd).1
        ((both (not f.rtr) f.fdf).1 ((denied f.rtr).1 h.0, h.1), h.2),
  )

pub form_is_as_sent : FormIsAsSent
unfolding as_sent
form_is_as_sent f fd switching passive = record {
  fdf = in_fd f fd;
  brs = (
    λ h.
        let outer = (both (sent_fd f fd && f.brs) switching).0 h in
        let inner = (both (sent_fd f fd) f.brs).0 outer.0 in
        ((in_fd f fd).0 inner.0, inner.1, outer.1),
    λ h.
        (both (sent_fd f fd && f.brs) switching).1
        ((both (sent_fd f fd) f.brs).1 ((in_fd f fd).1 h.0, h.1), h.2),
  );
  esi = (
    λ h.
        let outer = (both (sent_fd f fd) (f.esi || passive)).0 h in
        ((in_fd f fd).0 outer.0, (either f.esi passive).0 outer.1),
    λ h. (both (sent_fd f fd) (f.esi || passive)).1 ((in_fd f fd).1 h.0, (either f.esi passive).1 h.1),
  );
  id = refl;
  xtd = refl;
  rtr = refl;
  dlc = refl;
  arbitration = refl;
  dominant = λ h. ((in_fd f fd).0 h).0;
}

-- ---- bytes

module _ (e : ℕ) (d : List ℕ) (n : ℕ) where
  abbrev sent_at : ℕ → ℕ
  sent_at i = pick (ltb i e) (get_or d i 0) 0xCC

  byte_at : (i : ℕ) → i < n → get_or (sent_bytes e d n) i 0 ≡ sent_at i
  unfolding sent_bytes
  byte_at i h = get_or_run sent_at 0 n i h ∙ ap sent_at (omega arith)

pub bytes_are_as_sent : BytesAreAsSent
unfolding sent_bytes
bytes_are_as_sent e d n = record {
  count = length_run (sent_at e d n) 0 n;
  held = λ i h k. byte_at e d n i h ∙ pick_first _ _ (lt-ltb i e k);
  past = λ i h k. byte_at e d n i h ∙ pick_second _ _ (le-ltb i e k);
}
