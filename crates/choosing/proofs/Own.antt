-- The choice looks at the Tx buffers' section and writes the front of its output alone.
-- Assumes nothing.
use Prim.Native.Nat.{ℕ, ◌+◌, ◌≤◌, ◌<◌}
use mathlib.Core.Path.{◌≡◌, refl, sym, ap, ap₂, ◌∙◌, subst}
use mathlib.Core.Bool.{Bool}
use mathlib.Core.List.{List, ◌∷◌, ◌++◌}
use native.Mathlib.Nat.{mul-le-mul_right}
use native.Mathlib.Omega.{arith}
use lib.ListN.{length, get_or}
use Rattle.words.specs.Best.{Best, nobody, somebody}
use Rattle.words.specs.Ranges.{Range, front, Inside, SameIn, OnlyIn}
use Rattle.words.specs.Rules.{first}
use Rattle.words.specs.Runs.{run, splice}
use Rattle.words.proofs.Bests.{best_same, best_wins}
use Rattle.words.proofs.Ranges.{only_none, splice_only}
use Rattle.words.proofs.Runs.{length_run}
use Rattle.frame.specs.Arbitration.{rank_of}
use Rattle.frame.proofs.Lengths.{length_most}
use Rattle.frame.proofs.SizeLaws.{words_least}
use Rattle.registers.specs.Fields.{tx_count, tx_code}
use Rattle.registers.specs.declared.Registers.{Registers}
use Rattle.element.specs.Bytes.{length_of, sent_byte, sent_from}
use Rattle.element.specs.Headers.{tx_header_in}
use Rattle.element.specs.declared.TxHeader.{TxHeader}
use Rattle.element.proofs.OwnWords.{own_words}
use Rattle.places.specs.Areas.{area_range, place_in}
use Rattle.places.proofs.Stores.{element_kept}
use Rattle.areas.specs.Areas.{tx_area, data_words}
use Rattle.areas.specs.Own.{SameSections}
use Rattle.areas.proofs.Rooms.{tx_roomy}
use Rattle.areas.proofs.Sections.{areas_are_sections}
use Rattle.shape.specs.Calls.{answers}
use Rattle.engine.specs.Calls.{World, with_memory, ◌when◌, output_bytes, output_refusals}
use Rattle.engine.specs.Fitness.{Sound, unfit}
use Rattle.engine.specs.declared.state.State.{State}
use Rattle.engine.proofs.Alike.{call_alike}
use Rattle.engine.proofs.Sounds.{sound_of}
use Rattle.choosing.specs.Buffers.{header_of}
use Rattle.choosing.specs.Choosing.{is_candidate, rank_at, choice, form_sent, sent_frame, chosen_of, bytes_of}
use Rattle.choosing.specs.Choosing.{Next, none, send, next_of, output_of, choice_refusals, chooses}
use Rattle.choosing.specs.Promises.{ChoiceLooksAtTxBuffers}
use Rattle.choosing.proofs.Calls.{choice_open}

-- sections with that of the Tx buffers among them
pub tx_same : (g : Registers) (sections : Range) (mem other : List ℕ) → Inside sections 6
    → SameSections g sections mem other → SameIn (area_range (tx_area g)) mem other
tx_same g sections mem other six same = record {
  size = same.size;
  within = λ k a b. same.words 6 k six ((areas_are_sections g 4 k (omega arith)).0 (record { from = a; below = b }));
}

-- a Tx element has a header
tx_header : (g : Registers) → 2 ≤ (tx_area g).each
tx_header g = omega (arith, words_least (tx_code g) (omega arith))

-- ---- headers, and so the choice

module _ (s : State) (mem other : List ℕ) (same : SameIn (area_range (tx_area s.regs)) mem other) where
  word_same : (buffer k at : ℕ) → buffer < tx_count s.regs → k < (tx_area s.regs).each
      → at ≡ place_in (tx_area s.regs) buffer + k → get_or mem at 0 ≡ get_or other at 0
  word_same buffer k at l h e =
      sym (same.within at (omega arith) (omega (arith, mul-le-mul_right (tx_area s.regs).each l)))

  pub header_same : (buffer : ℕ) → buffer < tx_count s.regs → header_of s mem buffer ≡ header_of s other buffer
  header_same buffer l =
      let two = tx_header s.regs in
      ap₂ tx_header_in (word_same buffer 0 _ l (omega arith) (omega arith)) (word_same buffer 1 _ l (omega arith) refl)

  pub choice_same : choice s mem ≡ choice s other
  unfolding choice
  choice_same =
      best_same (is_candidate s) (is_candidate s) (rank_at s mem) (rank_at s other) (tx_count s.regs) (λ k l. refl)
      (λ k l e. ap (λ (x : TxHeader). rank_of x.frame) (header_same k l))

  -- the choice is a buffer that exists
  below : (buffer : ℕ) → choice s mem ≡ somebody buffer → buffer < tx_count s.regs
  unfolding choice
  below buffer e = (best_wins (is_candidate s) (rank_at s mem) (tx_count s.regs) buffer e).below

  module _ (passive : Bool) where
    chosen_same : (buffer : ℕ) → buffer < tx_count s.regs
        → chosen_of s mem passive buffer ≡ chosen_of s other passive buffer
    chosen_same buffer l =
        ap (λ (x : TxHeader). let f = form_sent s.regs x.frame passive in
        record { buffer = buffer; marker = x.marker; wish = x.wish; frame = f; count = length_of f })
        (header_same buffer l)

    next_same : next_of s other passive (choice s other) ≡ next_of s mem passive (choice s mem)
    next_same = sym (go (choice s mem) refl ∙ ap (next_of s other passive) choice_same)
      where
        go : (m : Best) → choice s mem ≡ m → next_of s mem passive m ≡ next_of s other passive m
        go nobody e = refl
        go (somebody buffer) e = ap send (chosen_same buffer (below buffer e))

    -- ---- and its bytes

    module _ (h : Sound s (length mem)) where
      bytes_same : (buffer : ℕ) → buffer < tx_count s.regs
          → bytes_of s mem passive buffer ≡ bytes_of s other passive buffer
      bytes_same buffer l =
          let a = tx_area s.regs in
          let room = tx_roomy s.regs (length mem) h.legal in
          let n : 2 + data_words a ≡ a.each = omega (arith, room.header) in
          (own_words mem other (place_in a buffer) (place_in a buffer) (data_words a)
          (rw n (sym (element_kept a mem other room.room same buffer l)))
          ).sent (length_of (sent_frame s mem passive buffer))
          ∙ ap (λ (x : TxHeader). let f = form_sent s.regs x.frame passive in
          sent_from other (place_in a buffer) (data_words a) (length_of f)) (header_same buffer l)

      output_same : (out : List ℕ)
          → output_of s other passive out (choice s other) ≡ output_of s mem passive out (choice s mem)
      output_same out = sym (go (choice s mem) refl ∙ ap (output_of s other passive out) choice_same)
        where
          go : (m : Best) → choice s mem ≡ m → output_of s mem passive out m ≡ output_of s other passive out m
          go nobody e = refl
          go (somebody buffer) e = ap (splice out 0) (bytes_same buffer (below buffer e))

pub choice_looks_at_tx_buffers : ChoiceLooksAtTxBuffers
unfolding chooses choice_refusals
choice_looks_at_tx_buffers w other passive out sections six same =
    let s = w.state in
    let mem = w.memory in
    let thirty = output_refusals (length out) in
    let tx = tx_same s.regs sections mem other six same in
    call_alike sections w other out same (choice_refusals w ++ thirty) (choice_refusals (with_memory w other) ++ thirty)
    (chooses w passive out) (chooses (with_memory w other) passive out)
    (ap (λ (n : ℕ). first (20 when unfit s w.recorded n ∷ thirty)) same.size)
    (λ e. let h = sound_of s w.recorded (length mem) (choice_open w out e).fit in
    record {
      says = ap answers (next_same s mem other tx passive);
      state = refl;
      recorded = refl;
      memory = same;
      output = output_same s mem other tx passive h out;
    })

-- ---- the output

-- the bytes that an answer tells of
abbrev pub sent_front : Next → Range
sent_front none = front 0
sent_front (send c) = front c.count

-- no other byte of the output is written
pub chooses_front : (w : World) (passive : Bool) (out : List ℕ) → length out ≡ output_bytes
    → let d = chooses w passive out in OnlyIn (sent_front d.answer) out d.output
unfolding chooses sent_from
chooses_front w passive out e = go (choice w.state w.memory)
  where
    go : (best : Best)
        → OnlyIn (sent_front (next_of w.state w.memory passive best)) out
        (output_of w.state w.memory passive out best)
    go nobody = only_none (front 0) out
    go (somebody buffer) =
        let a = tx_area w.state.regs in
        let f = sent_frame w.state w.memory passive buffer in
        let byte = sent_byte w.memory (place_in a buffer) (data_words a) in
        let long : length (run byte 0 (length_of f)) ≡ length_of f = length_run byte 0 (length_of f) in
        subst (λ (k : ℕ). OnlyIn (front k) out (splice out 0 (run byte 0 (length_of f)))) long
        (splice_only out 0 (run byte 0 (length_of f)) (omega (arith, length_most f.rtr f.fdf f.dlc)))
