-- What the command `export` prints.
use Rattle.std.specs.Prelude.{◌≡◌, ◌↔◌, ◌<◌, ◌≤◌, ℕ, Bool, true, false, List, [], ◌∷◌, ◌++◌, None, Option, Some, Result, Ok, Err, ◌≢◌, codes, flat_map, length, map}
use Rattle.std.specs.Io.KnownBytes.{Appends}
use Rattle.std.specs.List.{AllByRecursion, AllZip, list_all}
use Rattle.cs_core.specs.Lookups.{AreMeantBytes, IsReading}
use Rattle.cs_core.specs.Stored.{Stored}
use Rattle.cs_refusal.specs.declared.refusals.Refusal.{Refusal}
use Rattle.cs_refusal.specs.declared.refusals.Refusal.TheVariants.{DeviceFault, OutOfMemory}
use Rattle.cs_disk.specs.Disk.{Rises}
use Rattle.cs_frame.specs.declared.identifiers.ShardId.{ShardId}
use Rattle.cs_index.specs.State.{id_number, index_of}
use Rattle.law_machine.specs.Index.{live_at}
use Rattle.law_machine.specs.Element.{Bytes, Map}
use Rattle.law_machine.specs.Lists.{◌∈◌}
use Rattle.cs_inspect.specs.Listings.{Rising}
use Rattle.cs_advice.specs.Outputs.{id_text, payload_text, refusal_text}
use Rattle.cs_advice.specs.declared.outcomes.Outcome.{Outcome}
use Rattle.cs_advice.specs.declared.outcomes.Outcome.TheVariants.{Absent, Damaged, Done, Failed, MayBeLost, NoStore, Refused, Unopened, Unread}

-- the line of a script that puts a shard
abbrev pub put_line : ShardId → List ℕ → List ℕ
put_line id bytes = codes "put " ++ id_text id ++ codes " " ++ payload_text bytes ++ 10 ∷ []

-- the remark in a script of a shard that can't be read
abbrev pub remark_line : ShardId → Refusal → List ℕ
remark_line id r = codes "# " ++ id_text id ++ codes " " ++ refusal_text r ++ 10 ∷ []

-- the line of a script that makes all persistent
abbrev pub sync_line : List ℕ
sync_line = codes "sync" ++ 10 ∷ []

-- a shard by its identifier, with its bytes, or with why they can't be read
abbrev pub Shard : Type 0
Shard = ShardId × Result (List ℕ) Refusal

-- its line
abbrev pub shard_line : Shard → List ℕ
shard_line (id, Ok bytes) = put_line id bytes
shard_line (id, Err r) = remark_line id r

-- whether it could be read
abbrev pub is_whole : Shard → Bool
is_whole (id, Ok bytes) = true
is_whole (id, Err r) = false

-- the lines of some shards, and a sync behind them
abbrev pub piece_lines : List Shard → List ℕ
piece_lines shards = flat_map shard_line shards ++ sync_line

-- Pieces of a list: each has 1,000 elements, but the last one may have fewer. None is empty.
abbrev pub ArePieces : {X : Type 0} → List (List X) → Type 0
ArePieces [] = Unit {0}
ArePieces (piece ∷ []) = (0 < length piece) × (length piece ≤ 1000)
ArePieces (piece ∷ next ∷ pieces) = (length piece ≡ 1000) × ArePieces (next ∷ pieces)

-- The script of some shards: their lines in order, with a sync behind each 1,000 of them and behind the last.
pub record IsScript (shards : List Shard) (text : List ℕ) : Type 0 where
  pub pieces : List (List Shard)
  pub cut : ArePieces pieces
  pub all : flat_map (λ piece. piece) pieces ≡ shards
  pub lines : text ≡ flat_map piece_lines pieces

-- what is told of a shard is what the map has, unless the device or memory refuses
abbrev pub IsToldBy : Map → Shard → Type 0
IsToldBy m (id, Ok bytes) = m (id_number id) ≡ Some (Bytes bytes)
IsToldBy m (id, Err r) = IsReading (m (id_number id)) (Err r)

-- 1 is told of a shard only where the disk's count of failures rose from the one to the other, or stood at its end
abbrev pub IsCausedBy : (failed failed_then : ℕ) → Shard → Type 0
IsCausedBy failed failed_then (id, Ok bytes) = Unit {0}
IsCausedBy failed failed_then (id, Err r) = r ≡ DeviceFault → Rises failed failed_then

-- it is told of the shard with this identifier, and whether it could be read, with these counts of the disk's failures before and after
abbrev pub IsReadOf : (m : Map) → (failed failed_then : ℕ) → ShardId → (whole : Bool) → Shard → Type 0
IsReadOf m failed failed_then id whole shard = (shard.0 ≡ id) × IsToldBy m shard × IsCausedBy failed failed_then shard × (whole ≡ is_whole shard)

-- it is told of the shards with these identifiers, in order, and whether all could be read, with these counts of the disk's failures before and after
pub record AreReadOf (m : Map) (failed failed_then : ℕ) (ids : List ShardId) (whole : Bool) (shards : List Shard) : Type 0 where
  pub ids_are : map (λ shard. shard.0) shards ≡ ids
  pub each : AllByRecursion (IsToldBy m) shards
  pub caused : AllByRecursion (IsCausedBy failed failed_then) shards
  pub whole_is : whole ≡ list_all is_whole shards

-- All of the identifiers from one on that are there, and no others, by rising numbers.
pub record AreAllFrom (is_there : ℕ → Type 0) (from : ℕ) (ids : List ℕ) : Type 0 where
  pub rising : Rising ids
  pub each : (id : ℕ) → (id ∈ ids) ↔ ((from ≤ id) × is_there id)

-- the script of all shards of a map from one identifier on was written out, by rising identifiers, and whether all could be read, with these counts of the disk's
-- failures
pub record IsExported (m : Map) (from failed failed_then : ℕ) (before after : Option (List ℕ)) (whole : Bool) : Type 0 where
  pub ids : List ShardId
  pub all : AreAllFrom (λ id. m id ≢ None) from (map id_number ids)
  pub shards : List Shard
  pub are : AreReadOf m failed failed_then ids whole shards
  pub text : List ℕ
  pub script : IsScript shards text
  pub written : Appends before after text

-- With this map, and these counts of the disk's failures before and after: the script of all its shards from one identifier on was written out, and all could be
-- read, or some couldn't; or memory ran out, or the writer failed.
abbrev pub Exports : Map → (from failed failed_then : ℕ) → (before after : Option (List ℕ)) → Outcome → Type 0
Exports m from failed failed_then before after Done = IsExported m from failed failed_then before after true
Exports m from failed failed_then before after Damaged = IsExported m from failed failed_then before after false
Exports m from failed failed_then before after (Refused r) = r ≡ OutOfMemory
Exports m from failed failed_then before after Failed = Unit {0}
Exports m from failed failed_then before after Absent = ⊥
Exports m from failed failed_then before after (NoStore r) = ⊥
Exports m from failed failed_then before after (Unopened f) = ⊥
Exports m from failed failed_then before after MayBeLost = ⊥
Exports m from failed failed_then before after (Unread r) = ⊥

-- What is told of the shard with this identifier is bytes that its places in the index mean, or why they can't be read: 1 only where the disk's count of failures
-- rose from the one to the other, or stood at its end.
abbrev pub IsMeantOf : Stored → (failed failed_then : ℕ) → ShardId → Shard → Type 0
IsMeantOf v failed failed_then id (told, Ok bytes) = (told ≡ id) × AreMeantBytes v (id_number id) bytes
IsMeantOf v failed failed_then id (told, Err r) = (told ≡ id) × (r ≡ DeviceFault → Rises failed failed_then)

-- Whatever the disk does: the script of all shards from one identifier on that have places in the index was written out, and whether all could be read, with these
-- counts of the disk's failures before and after.
pub record IsMeantExport (v : Stored) (from failed failed_then : ℕ) (before after : Option (List ℕ)) (whole : Bool) : Type 0 where
  pub ids : List ShardId
  pub all : AreAllFrom (λ id. live_at (index_of v.index) id ≢ []) from (map id_number ids)
  pub shards : List Shard
  pub told : AllZip (IsMeantOf v failed failed_then) ids shards
  pub whole_is : whole ≡ list_all is_whole shards
  pub text : List ℕ
  pub script : IsScript shards text
  pub written : Appends before after text

-- it is done only if all could be read
abbrev pub MeansExport : Stored → (from failed failed_then : ℕ) → (before after : Option (List ℕ)) → Outcome → Type 0
MeansExport v from failed failed_then before after Done = IsMeantExport v from failed failed_then before after true
MeansExport v from failed failed_then before after Damaged = IsMeantExport v from failed failed_then before after false
MeansExport v from failed failed_then before after (Refused r) = Unit {0}
MeansExport v from failed failed_then before after Failed = Unit {0}
MeansExport v from failed failed_then before after Absent = ⊥
MeansExport v from failed failed_then before after (NoStore r) = ⊥
MeansExport v from failed failed_then before after (Unread r) = ⊥
MeansExport v from failed failed_then before after (Unopened f) = ⊥
MeansExport v from failed failed_then before after MayBeLost = ⊥
