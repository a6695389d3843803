-- The steps on the record of flags and priority.
use Rattle.std.specs.Prelude.{ℕ, ◌+◌, ◌*◌, ◌^◌, Bool, eqb}
use Rattle.words.specs.Choice.{pick}
use Rattle.words.specs.Bits.{with_bit, without_mask}
use Rattle.engine.specs.States.{with_flags}
use Rattle.engine.specs.declared.state.Record.{Record}

-- one flag is set
unfoldable pub raised : Record → ℕ → Record
raised r flag = with_flags r (with_bit r.flags flag)

abbrev pub raised_if : Record → Bool → ℕ → Record
raised_if r on flag = pick on (raised r flag) r

-- call 14: ones clear; the priority stays
unfoldable pub cleared : Record → ℕ → Record
cleared r mask = with_flags r (without_mask 32 r.flags mask)

unfoldable pub with_priority : Record → ℕ → Record
with_priority r word = record { flags = r.flags; priority = word }

-- a fill rose to a number, in a FIFO whose flags start at `first`: new; watermark where it rose to it; full where it
-- rose to the size. A fill is from 1 to the size, so a watermark of 0 or over the most is never met
unfoldable pub filling : Record → ℕ → ℕ → ℕ → ℕ → Record
filling r first fill mark size =
    raised_if (raised_if (raised r first) (eqb fill mark) (first + 1)) (eqb fill size) (first + 2)

-- the list in bit 15 (1 for 29 bits), the index from bit 8, the outcome from bit 6, the place from bit 0
unfoldable pub priority_word : Bool → ℕ → ℕ → ℕ → ℕ
priority_word xtd index outcome place = pick xtd 1 0 * 2 ^ 15 + index * 2 ^ 8 + outcome * 2 ^ 6 + place
