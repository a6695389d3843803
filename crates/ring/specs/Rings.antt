-- A ring of some size: the place of the oldest held, and how many are held, in a circle of places 0 to size - 1.
use Rattle.std.specs.Prelude.{ℕ, ◌+◌, ◌-◌, ◌%◌, ◌^◌, ◌<◌, ◌≤◌, max, Bool, ◌&&◌, ltb, leb}
use Rattle.ring.specs.declared.Ring.{Ring}

-- a ring that can be one of this size, at size 0 with both numbers 0. Below 2 ^ 31, so that sums of places fit 32 bits
pub record Fit (r : Ring) (size : ℕ) : Type 0 where
  pub small : size < 2 ^ 31
  pub place : r.oldest < max 1 size
  pub room : r.fill ≤ size

-- the same as a test, of any size
unfoldable pub fits : Ring → ℕ → Bool
fits r size = ltb r.oldest (max 1 size) && leb r.fill size

-- the empty ring
abbrev pub none_held : Ring
none_held = record { oldest = 0; fill = 0 }

-- the place n places after the oldest
unfoldable pub place_after : Ring → ℕ → ℕ → ℕ
place_after r size n = (r.oldest + n) % size

-- where the next one goes; 0 for a ring that fits size 0
abbrev pub put_place : Ring → ℕ → ℕ
put_place r size = place_after r size r.fill

-- one more, at the put place
abbrev pub pushed : Ring → Ring
pushed r = record { oldest = r.oldest; fill = r.fill + 1 }

-- the oldest gives way to a new one: oldest and put place move one on
abbrev pub overwritten : Ring → ℕ → Ring
overwritten r size = record { oldest = place_after r size 1; fill = r.fill }

-- how many places after the oldest place p is
unfoldable pub age : Ring → ℕ → ℕ → ℕ
age r size p = (p + size - r.oldest) % size

-- whether place p is held: no place past the size is
unfoldable pub held : Ring → ℕ → ℕ → Bool
held r size p = ltb p size && ltb (age r size p) r.fill

-- all held up to and including place p are given up
abbrev pub released_through : Ring → ℕ → ℕ → Ring
released_through r size p = record { oldest = (p + 1) % size; fill = r.fill - (age r size p + 1) }

-- the k oldest are given up
abbrev pub released : Ring → ℕ → ℕ → Ring
released r size k = record { oldest = place_after r size k; fill = r.fill - k }
