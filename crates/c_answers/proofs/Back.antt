-- Answers come back from their words: word by word by computation, frames and flags by the laws of packing.
-- Assumes nothing.
use Rattle.std.proofs.Common.{ℕ, ◌+◌, ◌-◌, ◌≡◌, refl, ap, ◌∙◌, List, Option, Some, None, arith, ne_eqb}
use Rattle.words.specs.Runs.{splice}
use Rattle.words.proofs.Choices.{pick_second}
use Rattle.element.specs.declared.RxRead.{RxRead}
use Rattle.element.specs.declared.EventHeader.{EventHeader}
use Rattle.receiving.specs.Receive.{Fate, stored, stored_buffer, lost_to, dropped}
use Rattle.choosing.specs.Choosing.{send}
use Rattle.choosing.specs.declared.asking.Chosen.{Chosen}
use Rattle.c_words.specs.Frames.{pack_frame}
use Rattle.c_words.proofs.Inverse.{values_come_back, yes_back}
use Rattle.c_answers.specs.Answers.{filter_number, fate_words, read_words, chosen_words, choice_words, event_words}
use Rattle.c_answers.specs.Answers.{overview_words}
use Rattle.c_answers.specs.Back.{matched_in, fate_in, read_in, choice_in, event_in}
use Rattle.c_answers.specs.Promises.{AnswersComeBack}

one_less : (i : ℕ) → i + 1 - 1 ≡ i
one_less i = omega arith

matched_back : (m : Option ℕ) → matched_in (filter_number m) ≡ m
matched_back None = refl
matched_back (Some i) = pick_second _ _ (ne_eqb (i + 1) 0 (λ e. omega arith)) ∙ ap Some (one_less i)

fate_back : (lent : List ℕ) (f : Fate) → fate_in (splice lent 0 (fate_words f)) ≡ f
unfolding splice
fate_back lent (stored fifo place m) = ap (stored fifo place) (matched_back m)
fate_back lent (stored_buffer buffer i) = ap (stored_buffer buffer) (one_less i)
fate_back lent (lost_to fifo m) = ap (lost_to fifo) (matched_back m)
fate_back lent (dropped why m) = ap (dropped why) (matched_back m)

read_back : (lent : List ℕ) (r : RxRead) → read_in (splice lent 0 (read_words r)) ≡ r
unfolding splice read_words pack_frame
read_back lent r = λ i. record {
  header = record {
    frame = values_come_back.frame r.header.frame i;
    anmf = yes_back r.header.anmf i;
    index = r.header.index;
    time = r.header.time;
  };
  count = r.count;
}

choice_back : (lent : List ℕ) (c : Chosen) → (c.buffer ≡ 32 → ⊥)
    → choice_in (splice lent 0 (choice_words (send c))) ≡ send c
unfolding splice chosen_words pack_frame
choice_back lent c h =
    pick_second _ _ (ne_eqb c.buffer 32 h)
    ∙ (λ i. send (record {
      buffer = c.buffer;
      marker = c.marker;
      wish = yes_back c.wish i;
      frame = values_come_back.frame c.frame i;
      count = c.count;
    }))

event_back : (lent : List ℕ) (h : EventHeader) → event_in (splice lent 0 (event_words h)) ≡ h
unfolding splice event_words pack_frame
event_back lent h = λ i. record {
  frame = values_come_back.frame h.frame i;
  marker = h.marker;
  kind = h.kind;
  time = h.time;
}

pub answers_come_back : AnswersComeBack
unfolding splice overview_words
answers_come_back = record {
  fate = fate_back;
  read = read_back;
  buffer = λ lent b. refl;
  nothing = λ lent. refl;
  choice = choice_back;
  event = event_back;
  overview = λ lent t. refl;
}
