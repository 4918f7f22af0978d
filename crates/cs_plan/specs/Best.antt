-- Plans with the fewest flushes.
use Rattle.std.specs.Prelude.{◌≡◌, ◌<◌, List, All, length}
use Rattle.cs_deps.specs.declared.elements.Element.{Element}
use Rattle.cs_deps.specs.Named.{Named}
use Rattle.cs_deps.specs.Pending.{Pending}
use Rattle.cs_deps.specs.Chain.{IsChainOf}
use Rattle.cs_deps.specs.Rounds.{AreRounds}
use Rattle.cs_deps.specs.Schedule.{IsSchedule, Covers, Respects, IsFewest}

-- The rounds make the target persistent, a crash within them leaves a closed set, and no schedule that does both has fewer,
-- which the chain shows: it has a member a round. Each round has exactly what is needed at its height, once, and none is
-- empty.
pub record IsBestPlan (g : Pending) (target : Named) (rounds : List (List Element)) (chain : List Element) : Type 0 where
  pub schedule : IsSchedule g rounds
  pub covers : Covers g rounds target
  -- whatever a crash leaves is closed
  pub respects : Respects g rounds
  pub fewest : IsFewest g target rounds
  -- the chain is one of needs, and its last member is named by the target
  pub links : IsChainOf g target chain
  pub chain_count : length chain ≡ length rounds
  pub no_empty : All (λ round. 0 < length round) rounds
  -- round n has what is needed at height n
  pub heights : AreRounds g target rounds
