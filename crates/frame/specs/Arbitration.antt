-- Arbitration bit by bit, as it goes on the bus, and that the rank's order is its order.
use Rattle.std.specs.Prelude.{ℕ, ◌+◌, ◌-◌, ◌<◌, ◌≡◌, ◌↔◌, Bool, true, false, List, [], ◌∷◌, ◌++◌}
use Rattle.words.specs.Choice.{pick}
use Rattle.words.specs.Bits.{bit}
use Rattle.words.specs.Runs.{run}
use Rattle.frame.specs.Identifier.{IdInKind}
use Rattle.frame.specs.Rank.{rank}
use Rattle.frame.specs.declared.Frame.{Frame}

-- bits high to low of a word, the highest first
abbrev pub down : ℕ → ℕ → ℕ → List ℕ
down high low w = run (λ i. bit w (high - i)) 0 (high + 1 - low)

-- the bits of the arbitration field, in the order in which they are sent.
-- 11 bits: identifier, RTR, IDE. 29 bits: base identifier, SRR, IDE, the other 18 bits, RTR.
unfoldable pub arbitration_bits : Bool → Bool → ℕ → List ℕ
arbitration_bits false rtr id = down 10 0 id ++ (pick rtr 1 0 ∷ 0 ∷ [])
arbitration_bits true rtr id = down 28 18 id ++ (1 ∷ 1 ∷ down 17 0 id ++ (pick rtr 1 0 ∷ []))

-- the first wins over the second: where they first differ it has 0, which is dominant, and the other has 1
pub data Wins : List ℕ → List ℕ → Type 0 where
  here : {a b : List ℕ} → Wins (0 ∷ a) (1 ∷ b)
  later : {x : ℕ} {a b : List ℕ} → Wins a b → Wins (x ∷ a) (x ∷ b)

abbrev pub rank_of : Frame → ℕ
rank_of f = rank f.xtd f.rtr f.id

abbrev pub bits_of : Frame → List ℕ
bits_of f = arbitration_bits f.xtd f.rtr f.id

-- the rank tells which of two frames wins, and whether neither does
pub record RankTells (f g : Frame) : Type 0 where
  pub wins : rank_of f < rank_of g ↔ Wins (bits_of f) (bits_of g)
  pub ties : rank_of f ≡ rank_of g ↔ bits_of f ≡ bits_of g

abbrev pub RankIsArbitration : Type 0
RankIsArbitration = (f g : Frame) → IdInKind f.xtd f.id → IdInKind g.xtd g.id → RankTells f g
