-- What jobs give.
use Rattle.std.specs.Prelude.{◌≡◌, ℕ, ◌<◌, List, length, slice_index_or}
use Rattle.cs_node.specs.declared.jobs.Slot.{Slot}
use Rattle.cs_node.specs.declared.jobs.Slot.TheVariants.{Gave, Job}

-- of each of the values what is known of what the job at its slot gives
abbrev pub AllGive : {J X : Type 0} → (gives : J → X → Type 0) → List J → List X → Type 0
AllGive {J} {X} gives jobs values = (k : ℕ) (job : J) (value : X) → k < length jobs → gives (slice_index_or jobs k job) (slice_index_or values k value)

-- a slot where a job was has what it gave
abbrev pub Does : {J X : Type 0} → (gives : J → X → Type 0) → (old new : Slot J X) → Type 0
Does {J} {X} gives old new = (job : J) → old ≡ Job job → (out : X) × (new ≡ Gave out) × gives job out

-- what a job gave is there
abbrev pub HasGiven : {J X : Type 0} → Slot J X → Type 0
HasGiven {J} {X} slot = (out : X) × (slot ≡ Gave out)
