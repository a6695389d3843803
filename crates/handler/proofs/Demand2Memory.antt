-- Demand 2, the memory: what a receive stores is read back, and no other word changes.
-- Assumes nothing.
use Rattle.std.proofs.Common.{Option, Some, None}
use Prim.Native.Nat.{ℕ, ◌*◌, ◌^◌, ◌≤◌, ◌<◌, min}
use mathlib.Core.Path.{◌≡◌, refl, sym, ap, ap₂, subst, ◌∙◌}
use mathlib.Core.Bool.{Bool, true, false, ◌||◌, or-true}
use mathlib.Core.List.{List, [], ◌++◌}
use borrow.Author.Tests.{lt-ltb, le-ltb, lt-leb, eq-eqb}
use native.Mathlib.Omega.{arith}
use lib.ListN.{length}
use Rattle.words.specs.Bits.{is_set, with_bit}
use Rattle.words.specs.Rules.{allowed, first}
use Rattle.words.specs.Runs.{splice}
use Rattle.words.proofs.BitLaws.{set_same}
use Rattle.ring.specs.Rings.{Fit, put_place, held}
use Rattle.ring.specs.declared.Ring.{Ring}
use Rattle.ring.proofs.Holding.{held_inside}
use Rattle.ring.proofs.Moves.{held_pushed, held_overwritten}
use Rattle.shape.specs.Calls.{Says, answers, outcome, effected}
use Rattle.shape.proofs.Calls.{call_done, call_answers}
use Rattle.places.specs.Areas.{place_in, words_at}
use Rattle.places.specs.Slots.{take_rule}
use Rattle.places.specs.declared.Area.{Area}
use Rattle.places.specs.declared.Taken.{Taken}
use Rattle.places.proofs.Takes.{take_cases, all_held}
use Rattle.registers.specs.Fields.{fifo_code, fifo_size, overwrites, buffers, buffer_code}
use Rattle.registers.proofs.Fifos.{code_lt}
use Rattle.frame.specs.Malformed.{WellFormed}
use Rattle.frame.specs.Sizes.{element_bytes, element_words}
use Rattle.frame.specs.declared.Frame.{Frame}
use Rattle.frame.proofs.Forms.{well_formed}
use Rattle.frame.proofs.SizeLaws.{words_least, words_of_bytes}
use Rattle.element.specs.Bytes.{length_of, read_count, rx_read}
use Rattle.element.specs.Elements.{rx_element}
use Rattle.element.specs.Fitting.{index_of}
use Rattle.element.specs.Headers.{rx_header_in}
use Rattle.element.specs.Promises.{AreBytes, arrival_header, RxBack}
use Rattle.element.specs.declared.Arrival.{Arrival}
use Rattle.element.specs.declared.RxHeader.{RxHeader}
use Rattle.element.specs.declared.RxRead.{RxRead}
use Rattle.element.proofs.RoundTrip.{rx_back}
use Rattle.areas.specs.Areas.{fifo_area, buffer_area, data_words}
use Rattle.engine.specs.Calls.{World, world, Outcome, Effect, is_unfit, output_refusals}
use Rattle.engine.specs.Keeping.{keep_rule}
use Rattle.engine.specs.States.{fifo_ring, with_fifo, with_new_data}
use Rattle.engine.specs.declared.state.State.{State}
use Rattle.engine.specs.declared.state.Record.{Record}
use Rattle.engine.proofs.Sounds.{ring_fits}
use Rattle.taking.specs.Places.{fifo_refusals, buffer_refusals}
use Rattle.taking.specs.Reading.{reads}
use Rattle.taking.proofs.Fits.{ring_put}
use Rattle.receiving.specs.Fifos.{keeper_of}
use Rattle.receiving.specs.Promises.{named_by, OneElement, HoldsFrame}
use Rattle.receiving.specs.Receive.{Fate, arrival, slot_says, receive_refusals, into_fifo, into_buffer}
use Rattle.receiving.specs.Receive.{into_nothing, receives}
use Rattle.receiving.proofs.Elements.{held_there, stored_is_there, receive_writes_one_element}
use Rattle.receiving.proofs.Judgements.{ReceiveOpen, receive_open}
use Rattle.receiving.proofs.Outcomes.{receives_cases}
use Rattle.receiving.proofs.StillFit.{receive_fit}
use Rattle.handler.specs.Calls.{receive, read_fifo, read_buffer, step}
use Rattle.handler.specs.Demand2.{read_as, ReadsBack, InMemory}

-- what a ring takes is held
taken_held : (size : ℕ) (over : Bool) (q : Ring) → Fit q size → (p : ℕ) → (take_rule size over q).slot ≡ Some p
    → held (take_rule size over q).ring size p ≡ true
taken_held size over q fit p =
    take_cases size over q (λ (t : Taken). t.slot ≡ Some p → held t.ring size p ≡ true)
    (λ l e.
    let same : put_place q size ≡ p = cc in
    held_pushed q size fit l p
    ∙ ap (λ (t : Bool). held q size p || t) (eq-eqb p (put_place q size) (sym same))
    ∙ or-true (held q size p))
    (λ l z e. let n : ◌≡◌ {A = ℕ} 0 1 = cc in absurd (omega arith))
    (λ l some z e.
    let same : q.oldest ≡ p = cc in
    held_overwritten q size fit some (all_held size over q fit l) p ∙ lt-ltb p size (omega (arith, fit.place)))

-- ---- a read of an element that holds an arrival

module _ (w : World) (area : Area) (place : ℕ) (a : Arrival) (d out : List ℕ) (index : index_of a.matched < 128)
    (formed : WellFormed a.frame (length d)) (short : a.time < 2 ^ 16) (small : AreBytes d) (code : ℕ)
    (l : code < 8) (size : area.each ≡ element_words code)
    (there : words_at area place w.memory ≡ rx_element a d (data_words area)) where
  abbrev at : ℕ
  at = place_in area place

  abbrev n : ℕ
  n = data_words area

  bytes_of : 4 * n ≡ element_bytes code
  bytes_of = omega (arith, words_of_bytes code l)

  read_back : RxBack w.memory at n a d
  read_back =
      rx_back w.memory at n a d
      (held_there w.memory a d area place (omega (arith, words_least code l)) there) index formed short small

  header_back : rx_read w.memory at n ≡ record { header = arrival_header a; count = min (length d) (4 * n) }
  unfolding rx_read read_count rx_header_in
  header_back =
      ap (λ (h : RxHeader). record { header = h; count = min (length_of h.frame) (4 * n) }) read_back.header
      ∙ ap (λ (k : ℕ). record { header = arrival_header a; count = min k (4 * n) }) (sym formed.length)

  -- with the element's bytes by its size code
  element_back : effected (reads w area place out)
      ≡ read_as w (element_bytes code) a.matched a.frame d a.time out
  unfolding reads
  element_back =
      ap₂ (λ (r : RxRead) (b : List ℕ). outcome (answers r) w (splice out 0 b)) header_back read_back.bytes.read
      ∙ ap (λ (k : ℕ). read_as w k a.matched a.frame d a.time out) bytes_of

-- ---- a read of a place that is held, and of a buffer with new data

module _ (s : State) (r : Record) (mem : List ℕ) (a : Arrival) (d out : List ℕ) (index : index_of a.matched < 128)
    (formed : WellFormed a.frame (length d)) (short : a.time < 2 ^ 16) (small : AreBytes d)
    (fit : is_unfit (world s r mem) ≡ false) (room : length out ≡ 64) where
  abbrev w : World
  w = world s r mem

  fifo_free : (fifo place : ℕ) → fifo ≤ 1 → held (fifo_ring s fifo) (fifo_size s.regs fifo) place ≡ true
      → first (fifo_refusals w fifo place ++ output_refusals (length out)) ≡ allowed
  unfolding fifo_refusals output_refusals
  fifo_free fifo place l h =
      let size = fifo_size s.regs fifo in
      let number = le-ltb 1 fifo l in
      let inside = lt-leb size place (held_inside (fifo_ring s fifo) size place h) in
      let bytes = eq-eqb (length out) 64 room in
      simp (fit, number, inside, h, bytes)

  fifo_is_read : (fifo place : ℕ) → fifo ≤ 1 → held (fifo_ring s fifo) (fifo_size s.regs fifo) place ≡ true
      → words_at (fifo_area s.regs fifo) place mem ≡ rx_element a d (data_words (fifo_area s.regs fifo))
      → step w (read_fifo fifo place out)
      ≡ read_as w (element_bytes (fifo_code s.regs fifo)) a.matched a.frame d a.time out
  fifo_is_read fifo place l h there =
      let area = fifo_area s.regs fifo in
      call_done w out (fifo_refusals w fifo place ++ output_refusals (length out)) (reads w area place out)
      (fifo_free fifo place l h)
      ∙ element_back w area place a d out index formed short small (fifo_code s.regs fifo)
      (code_lt s.regs fifo) refl there

  buffer_is_free : (b : ℕ) → b < buffers s.regs → is_set s.newdata b ≡ true
      → first (buffer_refusals w b ++ output_refusals (length out)) ≡ allowed
  unfolding buffer_refusals output_refusals
  buffer_is_free b l h =
      let inside = lt-leb (buffers s.regs) b l in
      let bytes = eq-eqb (length out) 64 room in
      simp (fit, inside, h, bytes)

  buffer_is_read : (b : ℕ) → b < buffers s.regs → is_set s.newdata b ≡ true
      → words_at (buffer_area s.regs) b mem ≡ rx_element a d (data_words (buffer_area s.regs))
      → step w (read_buffer b out)
      ≡ read_as w (element_bytes (buffer_code s.regs)) a.matched a.frame d a.time out
  buffer_is_read b l h there =
      let area = buffer_area s.regs in
      call_done w out (buffer_refusals w b ++ output_refusals (length out)) (reads w area b out) (buffer_is_free b l h)
      ∙ element_back w area b a d out index formed short small (buffer_code s.regs) (omega arith) refl there

-- ---- a receive

module _ (w : World) (f : Frame) (d : List ℕ) (time : ℕ) (out : List ℕ) (short : time < 2 ^ 16) (small : AreBytes d)
    (room : length out ≡ 64) (passed : ReceiveOpen w f (length d)) where
  abbrev s : State
  s = w.state

  -- what is stored and leaves a fit world is read back
  abbrev Back : Effect Fate → Type 0
  Back e =
      HoldsFrame s.regs f d time e.world.memory (answers e.answer) → is_unfit e.world ≡ false
      → ReadsBack s.regs e.world f d time out e.answer

  formed : WellFormed f (length d)
  formed = well_formed f (length d) passed.formed

  slot_back : (k : ℕ) (m : Option ℕ) → k ≤ 1 → index_of m < 128 → (x : Option ℕ) (q : Ring) (r : Record) (last : List ℕ)
      → ((p : ℕ) → x ≡ Some p → held q (fifo_size s.regs k) p ≡ true)
      → HoldsFrame s.regs f d time last (answers (slot_says k m x))
      → is_unfit (world (with_fifo s k q) r last) ≡ false
      → ReadsBack s.regs (world (with_fifo s k q) r last) f d time out (slot_says k m x)
  unfolding with_fifo
  slot_back k m l i (Some place) q r last h there fit =
      fifo_is_read (with_fifo s k q) r last (arrival f time m) d out i formed short small fit room k place l
      (ap (λ (n : Ring). held n (fifo_size s.regs k) place) (ring_put s k q) ∙ h place refl) there
  slot_back k m l i None q r last h there fit = tt

  kept_held : (k p : ℕ) → let kept = keep_rule (keeper_of s.regs k) (fifo_ring s k) w.recorded in
      kept.slot ≡ Some p → held kept.ring (fifo_size s.regs k) p ≡ true
  unfolding keep_rule
  kept_held k =
      taken_held (fifo_size s.regs k) (overwrites s.regs k) (fifo_ring s k)
      (ring_fits s (length w.memory) k passed.sound)

  fifo_back : (k : ℕ) (priority : Bool) (m : Option ℕ) → k ≤ 1 → index_of m < 128
      → Back (into_fifo w k priority (arrival f time m) d)
  unfolding into_fifo
  fifo_back k priority m l i there fit =
      let keeper = keeper_of s.regs k in
      let q = fifo_ring s k in
      slot_back k m l i (keep_rule keeper q w.recorded).slot (keep_rule keeper q w.recorded).ring _ _
      (kept_held k) there fit

  buffer_back : (b i : ℕ) → b < buffers s.regs → i < 128 → Back (into_buffer w b (arrival f time (Some i)) d)
  unfolding into_buffer
  buffer_back b i l x there fit =
      buffer_is_read (with_new_data s (with_bit s.newdata b)) _ _ (arrival f time (Some i)) d out x formed short small
      fit room b l (eq-eqb _ 1 (set_same s.newdata b)) there

  nowhere_back : (why : ℕ) (m : Option ℕ) → Back (into_nothing w why (arrival f time m))
  unfolding into_nothing
  nowhere_back why m there fit = tt

  effect_back : Back (receives w f d time)
  effect_back =
      receives_cases w f d time passed Back fifo_back
      (λ b i l z x. buffer_back b i l x) (λ why m x. nowhere_back why m)

pub memory_told : (w : World) (f : Frame) (d : List ℕ) (time : ℕ) (fate : Fate)
    → (step w (receive f d time)).says ≡ answers fate → time < 2 ^ 16 → AreBytes d
    → InMemory w (step w (receive f d time)).world f d time fate
memory_told w f d time fate e short small =
    let g = w.state.regs in
    let p = call_answers w [] (receive_refusals w f (length d)) (receives w f d time) fate e in
    let there =
    subst (λ (o : Outcome Fate). HoldsFrame g f d time o.world.memory o.says) p.1
    (stored_is_there w f d time) in
    let same : answers (receives w f d time).answer ≡ answers fate =
    sym (ap (λ (o : Outcome Fate). o.says) p.1) ∙ e in
    let it : (receives w f d time).answer ≡ fate = cc in
    record {
      back = λ out room.
          subst (ReadsBack g (step w (receive f d time)).world f d time out) it
          (subst (λ (o : Outcome Fate). ReadsBack g o.world f d time out (receives w f d time).answer) (sym p.1)
          (effect_back w f d time out short small room (receive_open w f (length d) p.0) there
          (receive_fit w f d time p.0)));
      one =
          subst (λ (x : Says Fate). OneElement g (named_by g x) w.memory (step w (receive f d time)).world.memory) e
          (receive_writes_one_element w f d time);
    }
