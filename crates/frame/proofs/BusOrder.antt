-- The rank is the value of the arbitration field's bits, so its order is that of arbitration.
-- Assumes nothing.
use Prim.Native.Nat.{ℕ, ◌+◌, ◌-◌, ◌≤◌, ◌<◌}
use mathlib.Core.Path.{◌≡◌, refl, ◌∙◌}
use mathlib.Core.Bool.{Bool, true, false}
use mathlib.Core.List.{List, [], ◌∷◌, ◌++◌}
use native.Mathlib.Omega.{arith}
use lib.ListN.{length, length-append}
use Rattle.words.specs.Choice.{pick}
use Rattle.words.specs.Bits.{bit}
use Rattle.words.specs.Runs.{run}
use Rattle.words.proofs.BitLaws.{bit_lt}
use Rattle.words.proofs.Runs.{length_run}
use Rattle.frame.specs.Identifier.{IdInKind}
use Rattle.frame.specs.Rank.{rank}
use Rattle.frame.specs.Arbitration.{down, arbitration_bits, Wins, here, later, RankIsArbitration}
use Rattle.frame.proofs.Order.{Binary, none, more, binary_append, binary_run, value, value_run, Compared, same}
use Rattle.frame.proofs.Order.{first, flipped, compared_append, compared_bit, compared_run, ordered}

flag_lt : (b : Bool) → pick b 1 0 < 2
flag_lt true = omega arith
flag_lt false = omega arith

down_binary : (high low x : ℕ) → Binary (down high low x)
down_binary high low x = binary_run (λ i. bit x (high - i)) (λ i. bit_lt x (high - i)) 0 (high + 1 - low)

field_binary : (xtd rtr : Bool) (id : ℕ) → Binary (arbitration_bits xtd rtr id)
unfolding arbitration_bits
field_binary false rtr id = binary_append (down_binary 10 0 id) (more (flag_lt rtr) (more (omega arith) none))
field_binary true rtr id =
    binary_append (down_binary 28 18 id)
    (more {x = 1} (omega arith)
    (more {x = 1} (omega arith) (binary_append (down_binary 17 0 id) (more (flag_lt rtr) none))))

field_length : (xtd rtr : Bool) (id : ℕ) → length (arbitration_bits xtd rtr id) ≤ 32
unfolding arbitration_bits
field_length false rtr id = simp (length-append, length_run) (omega arith)
field_length true rtr id = simp (length-append, length_run) (omega arith)

field_value : (xtd rtr : Bool) (id : ℕ) → IdInKind xtd id → value 32 (arbitration_bits xtd rtr id) ≡ rank xtd rtr id
unfolding arbitration_bits value rank
field_value false rtr id h = value_run id 10 0 11 0 21 32 (pick rtr 1 0 ∷ 0 ∷ []) refl refl ∙ omega (arith, h.within)
field_value true rtr id h =
    value_run id 28 0 11 18 21 32 (1 ∷ 1 ∷ down 17 0 id ++ (pick rtr 1 0 ∷ [])) refl refl
    ∙ omega (arith, h.within, value_run id 17 0 18 0 1 19 (pick rtr 1 0 ∷ []) refl refl)

-- RTR and IDE of an 11-bit identifier against SRR and IDE of a 29-bit one
short_first : (rtr : Bool) (l : List ℕ) → Wins (pick rtr 1 0 ∷ 0 ∷ []) (1 ∷ 1 ∷ l)
short_first true l = later here
short_first false l = here

-- as many bits of two numbers
bits_compared : (high high' n x y : ℕ) → Compared (run (λ i. bit x (high - i)) 0 n) (run (λ i. bit y (high' - i)) 0 n)
bits_compared high high' n x y =
    compared_run (λ i. bit x (high - i)) (λ i. bit y (high' - i)) (λ i. bit_lt x (high - i)) (λ i. bit_lt y (high' - i))
    0 n

remotes : (rtr rtr' : Bool) → Compared (pick rtr 1 0 ∷ []) (pick rtr' 1 0 ∷ [])
remotes rtr rtr' = compared_bit (pick rtr 1 0) (pick rtr' 1 0) (flag_lt rtr) (flag_lt rtr')

against : (rtr : Bool) (id : ℕ) (rtr' : Bool) (id' : ℕ)
    → Compared (arbitration_bits false rtr id) (arbitration_bits true rtr' id')
unfolding arbitration_bits
against rtr id rtr' id' =
    let rest = down 17 0 id' ++ (pick rtr' 1 0 ∷ []) in
    compared_append (pick rtr 1 0 ∷ 0 ∷ []) (1 ∷ 1 ∷ rest) (bits_compared 10 28 11 id id')
    (first (short_first rtr rest))

field_compared : (xtd rtr : Bool) (id : ℕ) (xtd' rtr' : Bool) (id' : ℕ)
    → Compared (arbitration_bits xtd rtr id) (arbitration_bits xtd' rtr' id')
unfolding arbitration_bits
field_compared false rtr id false rtr' id' =
    compared_append (pick rtr 1 0 ∷ 0 ∷ []) (pick rtr' 1 0 ∷ 0 ∷ []) (bits_compared 10 10 11 id id')
    (compared_append (0 ∷ []) (0 ∷ []) (remotes rtr rtr') (same refl))
field_compared false rtr id true rtr' id' = against rtr id rtr' id'
field_compared true rtr id false rtr' id' = flipped (against rtr' id' rtr id)
field_compared true rtr id true rtr' id' =
    let rest = down 17 0 id ++ (pick rtr 1 0 ∷ []) in
    let rest' = down 17 0 id' ++ (pick rtr' 1 0 ∷ []) in
    let marks : Compared (1 ∷ 1 ∷ []) (1 ∷ 1 ∷ []) = same refl in
    compared_append (1 ∷ 1 ∷ rest) (1 ∷ 1 ∷ rest') (bits_compared 28 28 11 id id')
    (compared_append rest rest' marks
    (compared_append (pick rtr 1 0 ∷ []) (pick rtr' 1 0 ∷ []) (bits_compared 17 17 18 id id') (remotes rtr rtr')))

pub rank_is_arbitration : RankIsArbitration
rank_is_arbitration f g h k =
    let order =
    ordered 32 (field_binary f.xtd f.rtr f.id) (field_binary g.xtd g.rtr g.id)
    (field_length f.xtd f.rtr f.id) (field_length g.xtd g.rtr g.id)
    (field_value f.xtd f.rtr f.id h) (field_value g.xtd g.rtr g.id k)
    (field_compared f.xtd f.rtr f.id g.xtd g.rtr g.id) in
    record { wins = order.0; ties = order.1 }
