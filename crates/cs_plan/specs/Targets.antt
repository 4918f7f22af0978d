-- Rounds of what a target needs, taken from the queues of what waits.
use Rattle.std.specs.Prelude.{◌≡◌, ℕ, ◌+◌, ◌-◌, ◌<◌, List, Some, Vec, AllPairs, Contains, length, min, slice_get, slice_index}
use Rattle.std.specs.Global.{Global}
use Rattle.cs_deps.specs.declared.elements.Element.{Element}
use Rattle.cs_deps.specs.declared.elements.Element.TheVariants.{Plain, Version}
use Rattle.cs_deps.specs.Named.{Named, Names}
use Rattle.cs_deps.specs.Pending.{Pending}
use Rattle.cs_deps.specs.Chain.{IsHeight}
use Rattle.cs_deps.specs.Rounds.{IsListedBefore}
use Rattle.cs_deps.specs.State.{IsQueue}

-- in place of a version that is later than those that are named the last of these
abbrev pub lowered : Named → Element → Element
lowered d (Plain n) = Plain n
lowered d (Version f v) = Version f (min v (slice_index d.least f))

-- d names x, and it waits at height n
abbrev pub IsNamedAt : Pending → Named → ℕ → Element → Type 0
IsNamedAt g d n x = Names d x × IsHeight g x n

-- Of the first k of a queue these are named at height n, a version no later than the last that is named.
pub record AreLowered (g : Pending) (d : Named) (n : ℕ) (queue : List Element) (k : ℕ) (xs : List Element) : Type 0 where
  pub came : (x : Element) → Contains xs x → IsNamedAt g d n x × ((j : ℕ) × (y : Element) × (j < k) × (slice_get queue j ≡ Some y) × (x ≡ lowered d y))
  pub there : (j : ℕ) (y : Element) → j < k → slice_get queue j ≡ Some y → IsNamedAt g d n (lowered d y) → Contains xs (lowered d y)
  pub order : AllPairs IsListedBefore queue → AllPairs IsListedBefore xs

-- what the queue of height n has of what is named
abbrev pub IsLoweredQueue : Pending → Named → ℕ → List Element → Type 0
IsLoweredQueue g d n xs = (queue : List Element) × IsQueue g n queue × AreLowered g d n queue (length queue) xs

-- round i is what the queue of height i + 1 has of what is named, and isn't empty
abbrev pub AreLoweredQueues : Pending → Named → List (Vec Element Global) → Type 0
AreLoweredQueues g d rounds = (i : ℕ) (round : Vec Element Global) → slice_get rounds i ≡ Some round → IsLoweredQueue g d (i + 1) round.items × (0 < length round.items)

-- x stands in the last of the rounds
abbrev pub IsInLast : List (Vec Element Global) → Element → Type 0
IsInLast rounds x = (round : Vec Element Global) × (slice_get rounds (length rounds - 1) ≡ Some round) × Contains round.items x
