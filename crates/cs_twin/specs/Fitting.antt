-- A disk in pairs fits what tells which of its pages are whole.
use Rattle.std.specs.Prelude.{ℕ, List}
use Rattle.cs_disk.specs.Disk.{State}
use Rattle.cs_twin.specs.declared.pairs.Pair.{Pair}
use Rattle.cs_twin.specs.declared.pairs.PageRules.{Ghosts as PageRules}
use Rattle.cs_twin.specs.Kept.{AreAllowed}

-- What is durable fits, and no page of no pair was written that mayn't be.
pub record IsFit {R : Type 0} (rules : PageRules R) (r : R) (pairs : List Pair) (pages : ℕ) (s : State) : Type 0 where
  pub allowed : AreAllowed (rules.allowed r) pairs s
  pub durable : ∥ rules.fits r pairs pages s.durable ∥₁
