-- What is promised of the steps on the record that interrupt code takes in place: statements only.
use Rattle.std.specs.Prelude.{ℕ, ◌^◌, ◌<◌, max, ◌≡◌, false}
use Rattle.words.specs.Bits.{bit}
use Rattle.words.specs.Fields.{RestZero}
use Rattle.engine.specs.Fitness.{flag_fields, unfit}
use Rattle.engine.specs.Flags.{cleared, with_priority}
use Rattle.engine.specs.declared.state.State.{State}
use Rattle.engine.specs.declared.state.Record.{Record}
use Rattle.inplace.specs.Raising.{raised_mask}
use Rattle.inplace.specs.Taking.{taken, without_flags}

-- raise: each flag of the mask is set; every other, and the priority, is as it was
abbrev pub RaiseSetsTheMask : Type 0
RaiseSetsTheMask = (r : Record) (mask n : ℕ) → bit mask n ≡ 1 → bit (raised_mask r mask).flags n ≡ 1

abbrev pub RaiseKeepsTheRest : Type 0
RaiseKeepsTheRest =
    (r : Record) (mask : ℕ)
    → ((n : ℕ) → bit mask n ≡ 0 → bit (raised_mask r mask).flags n ≡ bit r.flags n)
    × ((raised_mask r mask).priority ≡ r.priority)

-- clear: each flag of the mask is 0; every other, and the priority, is as it was
abbrev pub ClearClearsTheMask : Type 0
ClearClearsTheMask =
    (r : Record) (mask n : ℕ) → mask < 2 ^ 32 → n < 32 → bit mask n ≡ 1 → bit (cleared r mask).flags n ≡ 0

abbrev pub ClearKeepsTheRest : Type 0
ClearKeepsTheRest =
    (r : Record) (mask : ℕ) → mask < 2 ^ 32
    → ((n : ℕ) → n < 32 → bit mask n ≡ 0 → bit (cleared r mask).flags n ≡ bit r.flags n)
    × ((cleared r mask).priority ≡ r.priority)

-- put: the priority is the word, and every flag is as it was
abbrev pub PutReplacesThePriority : Type 0
PutReplacesThePriority =
    (r : Record) (word : ℕ) → ((with_priority r word).priority ≡ word) × ((with_priority r word).flags ≡ r.flags)

-- take: where what is taken from one record is raised in another, each flag is up there exactly where it was up in
-- either; none is up where it was taken, and both priorities are as they were
abbrev pub TakeLosesNothing : Type 0
TakeLosesNothing =
    (r from : Record)
    → ((n : ℕ) → bit (raised_mask r (taken from)).flags n ≡ max (bit r.flags n) (bit from.flags n))
    × ((n : ℕ) → bit (without_flags from).flags n ≡ 0)
    × ((raised_mask r (taken from)).priority ≡ r.priority)
    × ((without_flags from).priority ≡ from.priority)

-- a fit state stays fit where the flags raised are named ones, where any are cleared, and where any priority is put
abbrev pub RaiseKeepsFit : Type 0
RaiseKeepsFit =
    (s : State) (r : Record) (words mask : ℕ) → RestZero flag_fields mask → unfit s r words ≡ false
    → unfit s (raised_mask r mask) words ≡ false

abbrev pub ClearKeepsFit : Type 0
ClearKeepsFit =
    (s : State) (r : Record) (words mask : ℕ) → unfit s r words ≡ false → unfit s (cleared r mask) words ≡ false

abbrev pub PutKeepsFit : Type 0
PutKeepsFit =
    (s : State) (r : Record) (words word : ℕ) → unfit s r words ≡ false → unfit s (with_priority r word) words ≡ false

-- and it stays fit where its own flags are taken, and where flags taken elsewhere, named ones, are raised in its record
abbrev pub TakeKeepsFit : Type 0
TakeKeepsFit =
    (s : State) (r from : Record) (words : ℕ) → unfit s r words ≡ false
    → (unfit s (without_flags r) words ≡ false)
    × (RestZero flag_fields from.flags → unfit s (raised_mask r (taken from)) words ≡ false)
