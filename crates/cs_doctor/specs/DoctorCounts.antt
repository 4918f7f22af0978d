-- What the damages of a scrub, and the frames on a device, come to.
use Rattle.std.specs.Prelude.{◌≡◌, ◌⊎◌, ◌↔◌, ℕ, Contains, List}
use Rattle.cs_frame.specs.declared.identifiers.ShardId.{ShardId}
use Rattle.cs_inspect.specs.Scrubs.{refusal_in}
use Rattle.cs_inspect.specs.declared.scrubs.Damage.{Damage}
use Rattle.cs_inspect.specs.declared.scrubs.Damage.TheVariants as damage
use Rattle.cs_refusal.specs.declared.refusals.Refusal.TheVariants.{DeviceFault}

-- a damage is of a chunk of this shard
abbrev pub IsOf : ShardId → Damage → Type 0
IsOf id (damage.Chunk d chunk place refusal) = d ≡ id
IsOf id (damage.Run place refusal) = ⊥

-- the extent on which a damaged frame begins
abbrev pub extent_of : Damage → ℕ
extent_of (damage.Chunk d chunk place refusal) = place.extent
extent_of (damage.Run place refusal) = place.extent

-- a damage is of a frame on this extent that the device refused to read
abbrev pub FailsOn : (extent : ℕ) → Damage → Type 0
FailsOn extent d = (extent_of d ≡ extent) × (refusal_in d ≡ DeviceFault)

-- of each of these something is named by a damage, and of no other
abbrev pub AreNamedBy : {X : Type 0} → (X → Damage → Type 0) → List Damage → List X → Type 0
AreNamedBy {X} P damages xs = (x : X) → Contains xs x ↔ ((d : Damage) × Contains damages d × P x d)

-- one more thing is in a list where a damage names it
abbrev pub Notes : {X : Type 0} → (X → Damage → Type 0) → Damage → (old new : List X) → Type 0
Notes {X} P d old new = (x : X) → Contains new x ↔ (Contains old x ⊎ P x d)
