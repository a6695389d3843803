-- What is promised of answers in words: statements only.
use Rattle.std.specs.Prelude.{ℕ, ◌≡◌, List}
use Rattle.words.specs.Runs.{splice}
use Rattle.element.specs.declared.RxRead.{RxRead}
use Rattle.element.specs.declared.EventHeader.{EventHeader}
use Rattle.receiving.specs.Receive.{Fate}
use Rattle.choosing.specs.Choosing.{none, send}
use Rattle.choosing.specs.declared.asking.Chosen.{Chosen}
use Rattle.overview.specs.declared.Overview.{Overview}
use Rattle.c_answers.specs.Answers.{fate_words, read_words, buffer_words, choice_words, event_words, overview_words}
use Rattle.c_answers.specs.Back.{fate_in, read_in, buffer_in, choice_in, event_in, overview_in}

-- every answer comes back from the words lent, whatever stood there: no two answers are told alike. 32 is no buffer
pub record AnswersComeBack : Type 0 where
  pub fate : (lent : List ℕ) (f : Fate) → fate_in (splice lent 0 (fate_words f)) ≡ f
  pub read : (lent : List ℕ) (r : RxRead) → read_in (splice lent 0 (read_words r)) ≡ r
  pub buffer : (lent : List ℕ) (b : ℕ) → buffer_in (splice lent 0 (buffer_words b)) ≡ b
  pub nothing : (lent : List ℕ) → choice_in (splice lent 0 (choice_words none)) ≡ none
  pub choice : (lent : List ℕ) (c : Chosen) → (c.buffer ≡ 32 → ⊥)
      → choice_in (splice lent 0 (choice_words (send c))) ≡ send c
  pub event : (lent : List ℕ) (h : EventHeader) → event_in (splice lent 0 (event_words h)) ≡ h
  pub overview : (lent : List ℕ) (t : Overview) → overview_in (splice lent 0 (overview_words t)) ≡ t
