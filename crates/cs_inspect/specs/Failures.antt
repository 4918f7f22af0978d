-- By how much a count of failures rose.
use Rattle.std.specs.Prelude.{◌+◌, ◌-◌, ◌^◌, ◌≤◌, ℕ, min}

-- A count has risen by so many at least, or stands at 2^64 - 1, where it stays.
abbrev pub RisesBy : (amount before now : ℕ) → Type 0
RisesBy amount before now = min (before + amount) (2 ^ 64 - 1) ≤ now
