-- The newest puts that aren't whole.
use Rattle.std.specs.Prelude.{◌≡◌, ◌≢◌, ◌↔◌, ◌-◌, ◌<◌, ◌≤◌, true, List, length, All, Contains, slice_index_or}
use Rattle.std.specs.List.{AllPairs}
use Rattle.cs_frame.specs.declared.identifiers.ShardId.{ShardId}
use Rattle.cs_salvage.specs.Shards.{ComesBefore, IsAmbiguous, IsWhole, put_of}
use Rattle.cs_salvage.specs.declared.whole_shards.Missing.{Missing}
use Rattle.cs_salvage.specs.declared.parts.Part.{Part}
use Rattle.cs_salvage.specs.declared.parts.Put.{Put}

-- The put is the newest of its identifier of which there are parts.
pub record IsNewestPut (parts : List Part) (put : Put) : Type 0 where
  pub part : Part
  pub there : Contains parts part
  pub own : put_of part ≡ put
  pub newest : (other : Part) → Contains parts other → (put_of other).id ≡ put.id → (put_of other).command ≤ put.command

-- It is reported as missing: it is the newest put of its identifier, it isn't whole, and it is reported as ambiguous if
-- it is.
pub record IsMissing (parts : List Part) (it : Missing) : Type 0 where
  pub newest : IsNewestPut parts it.put
  pub not_whole : IsWhole parts it.put → ⊥
  pub ambiguous : (it.ambiguous ≡ true) ↔ IsAmbiguous parts it.put

-- These are the newest puts of their identifiers that aren't whole, each once, in the order of their identifiers.
pub record AreMissing (parts : List Part) (missing : List Missing) : Type 0 where
  pub sound : All (IsMissing parts) missing
  pub complete : (put : Put) → IsNewestPut parts put → (IsWhole parts put → ⊥) → (it : Missing) × Contains missing it × (it.put ≡ put)
  pub ordered : AllPairs (λ (a b : Missing). ComesBefore a.put.id b.put.id) missing

-- one of the parts has this identifier
abbrev pub HasPart : ShardId → List Part → Type 0
HasPart id parts = (part : Part) × Contains parts part × (part.head.id ≡ id)

-- the last of them has another one, or there is none
abbrev pub LastIsOther : ShardId → List Part → Type 0
LastIsOther id parts = (d : Part) → 0 < length parts → (slice_index_or parts (length parts - 1) d).head.id ≢ id
