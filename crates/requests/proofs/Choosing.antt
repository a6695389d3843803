-- The choice: its candidates and ranks are the book's, and it tells the request's own form as sent.
-- Assumes nothing.
use native.Mathlib.Omega.{arith}
use Prim.Native.Nat.{ℕ, ◌≤◌}
use mathlib.Core.Path.{◌≡◌, refl, sym, ap, ◌∙◌}
use mathlib.Core.Bool.{Bool, true, false, not, ◌||◌}
use mathlib.Core.List.{List}
use lib.Dec.{eqb}
use lib.ListN.{length}
use Rattle.words.specs.Best.{Best, nobody, somebody, Wins}
use Rattle.words.specs.Runs.{splice}
use Rattle.words.proofs.Bests.{best_same, best_wins}
use Rattle.words.proofs.Choices.{and_both}
use Rattle.frame.specs.Arbitration.{rank_of}
use Rattle.registers.specs.Fields.{dedicated, shared, tx_count, is_queue}
use Rattle.element.specs.Bytes.{length_of, sent_from}
use Rattle.element.specs.declared.TxHeader.{TxHeader}
use Rattle.places.specs.Areas.{place_in}
use Rattle.areas.specs.Areas.{tx_area, data_words}
use Rattle.shape.specs.Calls.{answers}
use Rattle.shape.specs.Histories.{Told}
use Rattle.engine.specs.Calls.{is_unfit, output_refusals}
use Rattle.engine.specs.declared.state.State.{State}
use Rattle.choosing.specs.Buffers.{header_of}
use Rattle.choosing.specs.Choosing
use Rattle.choosing.specs.Choosing.{rank_at, choice, form_sent, Next, send, choice_refusals, chooses}
use Rattle.books.specs.Requests.{oldest_waiting, has_pending}
use Rattle.books.proofs.Circles.{oldest_first}
use Rattle.requests.specs.Requests.{Request, Book, request_in}
use Rattle.requests.specs.Expected.{in_fifo, is_candidate, rank_in, best_of, form_of, next_of, output_of, expect_choice}
use Rattle.requests.specs.Standing.{TxAgrees}
use Rattle.requests.specs.Promises.{ChoiceTold}
use Rattle.requests.proofs.Telling.{told_by}
use Rattle.requests.proofs.Holding.{pending_is, reads_back}

module _ (l : Book) (s : State) (mem : List ℕ) (a : TxAgrees s.regs l s mem) where
  pub candidate_told : (b : ℕ) → Choosing.is_candidate s b ≡ is_candidate s.regs l b
  unfolding Choosing.is_candidate is_candidate
  candidate_told b =
      let d = dedicated s.regs in
      let oldest = λ (f : is_queue s.regs ≡ false) (h : d ≤ b).
      oldest_first Request d (shared s.regs) l s.shared (a.fifo f) b h in
      grind (arith, pending_is s.regs l s mem a b, oldest)

  -- a candidate is pending
  candidate_pending : (b : ℕ) → is_candidate s.regs l b ≡ true → has_pending l b ≡ true
  unfolding is_candidate
  candidate_pending b e =
      (and_both (has_pending l b) (not (in_fifo s.regs b) || eqb (oldest_waiting (dedicated s.regs) l) b) e).0

  -- what the element of a pending buffer says is what was asked
  pub header_told : (b : ℕ) → has_pending l b ≡ true → header_of s mem b ≡ (request_in l b).header
  header_told b h = (reads_back s.regs l s mem a b h).header

  pub choice_best : choice s mem ≡ best_of s.regs l
  unfolding choice best_of
  choice_best =
      best_same (Choosing.is_candidate s) (is_candidate s.regs l) (rank_at s mem) (rank_in l) (tx_count s.regs)
      (λ b h. candidate_told b)
      (λ b h e. ap (λ (x : TxHeader). rank_of x.frame)
      (header_told b (candidate_pending b (sym (candidate_told b) ∙ e))))

  -- the best exists, is a candidate, and is pending
  module _ (b : ℕ) (e : best_of s.regs l ≡ somebody b) where
    pub best_is : Wins (is_candidate s.regs l) (rank_in l) (tx_count s.regs) b
    unfolding best_of
    best_is = best_wins (is_candidate s.regs l) (rank_in l) (tx_count s.regs) b e

    pub best_pending : has_pending l b ≡ true
    best_pending = candidate_pending b best_is.one

  module _ (passive : Bool) (out : List ℕ) where
    -- what is told, by a header and the bytes
    sends_of : ℕ → TxHeader → List ℕ → Told Next
    sends_of b x bytes =
        let f = form_sent s.regs x.frame passive in
        record {
          says =
              answers (send (record { buffer = b; marker = x.marker; wish = x.wish; frame = f; count = length_of f }));
          output = splice out 0 bytes;
        }

    told_of : Best → Told Next
    told_of m =
        record { says = answers (Choosing.next_of s mem passive m); output = Choosing.output_of s mem passive out m }

    best_told : told_of (choice s mem)
        ≡ record {
          says = answers (next_of s.regs l passive (best_of s.regs l));
          output = output_of s.regs l passive out (best_of s.regs l);
        }
    unfolding told_of sends_of
    best_told = ap told_of choice_best ∙ go (best_of s.regs l) refl
      where
        go : (m : Best) → best_of s.regs l ≡ m
            → told_of m
            ≡ record { says = answers (next_of s.regs l passive m); output = output_of s.regs l passive out m }
        go nobody e = refl
        go (somebody b) e =
            let h = best_pending b e in
            let at = place_in (tx_area s.regs) b in
            let n = data_words (tx_area s.regs) in
            let q = request_in l b in
            ap (λ (x : TxHeader). sends_of b x (sent_from mem at n (length_of (form_sent s.regs x.frame passive))))
            (header_told b h)
            ∙ ap (sends_of b q.header)
            ((reads_back s.regs l s mem a b h).bytes.sent (length_of (form_of s.regs q passive)))

pub choice_told : ChoiceTold
unfolding choice_refusals expect_choice chooses told_of
choice_told l w i passive out =
    let s = w.state in
    let g = s.regs in
    told_by w out (chooses w passive out) (next_of g l passive (best_of g l)) (output_of g l passive out (best_of g l))
    (is_unfit w) (output_refusals (length out)) (output_refusals (length out)) i.fit refl
    (λ e. best_told l s w.memory i.agrees passive out)
