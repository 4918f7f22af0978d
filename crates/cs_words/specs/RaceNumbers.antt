-- What a race is run with.
use Rattle.std.specs.Prelude.{◌≤◌, ℕ, Bool}

-- So many threads put so many shards each; the first of them drops so many of its first tickets; and rounds of several syncs overlap, or
-- don't.
pub record Racing : Type 0 where
  pub threads : ℕ
  pub puts : ℕ
  pub dropped : ℕ
  pub streams : Bool

-- numbers with which a race may be run
pub record IsRaceable (threads puts dropped : ℕ) : Type 0 where
  pub some : 1 ≤ threads
  pub threads_fit : threads ≤ 64
  pub puts_fit : puts ≤ 1000
  pub drops_fit : dropped ≤ puts
