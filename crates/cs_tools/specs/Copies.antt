-- What a copy of a store is.
use Rattle.std.specs.Prelude.{◌≡◌, ◌≢◌, ◌==◌, ℕ, List, [], ◌∷◌, None, Some, if◌then◌else◌}
use Rattle.cs_chunk.specs.Reads.{IsNoAnswer}
use Rattle.cs_core.specs.Views.{View}
use Rattle.cs_frame.specs.declared.identifiers.ShardId.{ShardId}
use Rattle.cs_index.specs.State.{id_number}
use Rattle.law_machine.specs.Element.{Bytes, Damaged, Map}
use Rattle.law_machine.specs.Refusal.{Refusal as Ground}
use Rattle.cs_store.specs.Errors.{IsGetRefusal, IsPutRefusal}
use Rattle.cs_store.specs.Maps.{HasMap}
use Rattle.cs_advice.specs.declared.outcomes.Outcome.{Outcome}
use Rattle.cs_advice.specs.declared.outcomes.Outcome.TheVariants.{Absent, Damaged as Differs, Done, Failed, MayBeLost, NoStore, Refused, Unopened, Unread}

-- the store has some map
abbrev pub HasAMap : {D : Type 0} → View D → Type 0
HasAMap v = (m : Map) × HasMap v m

-- two maps have the same of each identifier
abbrev pub Agree : (m n : Map) → Type 0
Agree m n = (id : ℕ) → n id ≡ m id

-- a map has nothing
abbrev pub HasNothing : Map → Type 0
HasNothing m = (id : ℕ) → m id ≡ None

-- no shard of a map is damaged
abbrev pub NoneDamaged : Map → Type 0
NoneDamaged m = (id : ℕ) (f : Ground) → m id ≢ Some (Damaged f)

-- a map has bytes under an identifier
abbrev pub HasBytes : Map → (id : ℕ) → Type 0
HasBytes m id = (bytes : List ℕ) × (m id ≡ Some (Bytes bytes))

-- a map n, and over it what m has under this identifier
abbrev pub over : (n m : Map) → (id : ℕ) → Map
over n m id x = if x == id then m x else n x

-- and over it what m has under each of these
abbrev pub over_all : (n m : Map) → List ShardId → Map
over_all n m [] = n
over_all n m (id ∷ ids) = over_all (over n m (id_number id)) m ids

-- A copy may end so before it is done: refused as a put of the other store may be, unread as a get may be refused, or
-- since the other store has other shards or other bytes.
abbrev pub MayStopCopy : Outcome → Type 0
MayStopCopy (Refused r) = IsPutRefusal r
MayStopCopy (Unread r) = IsGetRefusal r
MayStopCopy Differs = Unit {0}
MayStopCopy Done = ⊥
MayStopCopy Absent = ⊥
MayStopCopy Failed = ⊥
MayStopCopy (NoStore r) = ⊥
MayStopCopy (Unopened f) = ⊥
MayStopCopy MayBeLost = ⊥

-- So may a copy end of whole shards into a store that has none: done, refused as a put may be, or unread since the
-- device or memory refused a read. It doesn't end as damaged.
abbrev pub EndsWhole : Outcome → Type 0
EndsWhole Done = Unit {0}
EndsWhole (Refused r) = IsPutRefusal r
EndsWhole (Unread r) = IsNoAnswer r
EndsWhole Differs = ⊥
EndsWhole Absent = ⊥
EndsWhole Failed = ⊥
EndsWhole (NoStore r) = ⊥
EndsWhole (Unopened f) = ⊥
EndsWhole MayBeLost = ⊥
