-- Whole shards: puts all of whose parts are there.
use Rattle.std.specs.Prelude.{◌≡◌, ◌≢◌, ◌⊎◌, ◌<◌, ◌≤◌, ◌^◌, ℕ, true, List, length, All, Contains, slice_index_or}
use Rattle.std.specs.List.{AllPairs}
use Rattle.std.specs.Cmp.Lexicographic.{slice_cmp}
use Rattle.std.specs.declared.cmp.Ordering.TheVariants.{Less}
use Rattle.std.specs.Ordering.{nat_cmp}
use Rattle.cs_disk.specs.Disk.{Image}
use Rattle.cs_frame.specs.declared.identifiers.ShardId.{ShardId}
use Rattle.cs_frame.specs.Geometries.{Dimensions}
use Rattle.cs_frame.specs.Identifiers.{id_number}
use Rattle.law_machine.specs.Events.{ArePayloads}
use Rattle.law_machine.specs.Geometry.{heads_in}
use Rattle.cs_salvage.specs.Parts.{AreParts, IsChunkAt, IsIdentifier, IsPart, formats_in, shape_in}
use Rattle.cs_salvage.specs.declared.parts.Part.{Part}
use Rattle.cs_salvage.specs.declared.parts.Put.{Put}
use Rattle.cs_salvage.specs.declared.searches.Sought.{Sought}
use Rattle.cs_salvage.specs.declared.searches.Whose.{Whose}
use Rattle.cs_salvage.specs.declared.whole_shards.WholeShard.{WholeShard}

-- the put that a part is of, by its head
abbrev pub put_of : Part → Put
put_of part = record { id = part.head.id; command = part.head.command }

-- a put of these bytes has chunks with these payloads, in a store of these dimensions
abbrev pub HasPayloads : Dimensions → Put → (bytes : List ℕ) → (payloads : List (List ℕ)) → Type 0
HasPayloads g put bytes payloads = ArePayloads (shape_in g) (formats_in g) (id_number put.id) put.command bytes payloads

-- Two parts can't be of one put: they are of different stores, say different numbers of chunks, or have different
-- payloads of one number.
abbrev pub Conflict : Part → Part → Type 0
Conflict a b = (a.store ≢ b.store) ⊎ (a.head.count ≢ b.head.count) ⊎ ((a.head.number ≡ b.head.number) × (a.digest ≢ b.digest))

-- two parts of the put are there that conflict
pub record IsAmbiguous (parts : List Part) (put : Put) : Type 0 where
  pub one : Part
  pub other : Part
  pub one_there : Contains parts one
  pub other_there : Contains parts other
  pub one_of : put_of one ≡ put
  pub other_of : put_of other ≡ put
  pub conflict : Conflict one other

-- These are the parts of a put, one of each number, in order, as many as each of them says. No two parts of the put
-- conflict.
pub record AreAllOf (parts : List Part) (put : Put) (pieces : List Part) : Type 0 where
  pub some : 0 < length pieces
  pub there : All (Contains parts) pieces
  pub own : All (λ piece. put_of piece ≡ put) pieces
  pub numbered : (k : ℕ) (d : Part) → k < length pieces → (slice_index_or pieces k d).head.number ≡ k
  pub counted : All (λ (piece : Part). piece.head.count ≡ length pieces) pieces
  pub clear : IsAmbiguous parts put → ⊥

-- all parts of the put are there
abbrev pub IsWhole : List Part → Put → Type 0
IsWhole parts put = (pieces : List Part) × AreAllOf parts put pieces

-- an identifier comes before another, as their bytes do
abbrev pub ComesBefore : ShardId → ShardId → Type 0
ComesBefore a b = slice_cmp nat_cmp a.0 b.0 ≡ Less

-- the shards are in the order of their identifiers, each identifier once
abbrev pub AreOrdered : List WholeShard → Type 0
AreOrdered shards = AllPairs (λ (a b : WholeShard). ComesBefore a.put.id b.put.id) shards

-- These are the shards of which some put is whole, each once, in the order of their identifiers. Each is as its newest
-- whole put has it.
pub record AreNewest (parts : List Part) (shards : List WholeShard) : Type 0 where
  pub whole : All (λ (shard : WholeShard). AreAllOf parts shard.put shard.parts.items) shards
  pub newest : All (λ (shard : WholeShard). (put : Put) → put.id ≡ shard.put.id → IsWhole parts put → put.command ≤ shard.put.command) shards
  pub there : (put : Put) → IsWhole parts put → (shard : WholeShard) × Contains shards shard × (shard.put.id ≡ put.id)
  pub ordered : AreOrdered shards

-- a put is listed before another: its identifier comes before the other's, or is the same and the put is newer
abbrev pub IsListedBefore : Put → Put → Type 0
IsListedBefore a b = ComesBefore a.id b.id ⊎ ((a.id ≡ b.id) × (b.command < a.command))

-- These are the puts that are ambiguous, each once, in the order of their identifiers, and of one identifier the newest
-- first.
pub record AreAmbiguous (parts : List Part) (puts : List Put) : Type 0 where
  pub sound : All (IsAmbiguous parts) puts
  pub complete : (put : Put) → IsAmbiguous parts put → Contains puts put
  pub once : AllPairs (λ (a b : Put). a ≢ b) puts
  pub ordered : AllPairs IsListedBefore puts

-- the parts of a put on the device, of a store whose chunks are sought, have these payloads and no others
abbrev pub HasOnly : Sought → Image → Put → (payloads : List (List ℕ)) → Type 0
HasOnly sought image put payloads = (part : Part) (payload : List ℕ) → IsPart sought image part payload → put_of part ≡ put → Contains payloads payload

-- of each of the payloads a whole frame stands on the device
abbrev pub HasFrames : Dimensions → Image → (payloads : List (List ℕ)) → Type 0
HasFrames g image payloads = (payload : List ℕ) → Contains payloads payload → (extent : ℕ) × (first : ℕ) × IsChunkAt g image extent first payload

-- a whole shard of this identifier is there that is no older than this put
abbrev pub HasAsNew : List WholeShard → Put → Type 0
HasAsNew shards put = (shard : WholeShard) × Contains shards shard × (shard.put.id ≡ put.id) × (put.command ≤ shard.put.command)

-- If these are the payloads of a put of this identifier and these bytes, and it isn't ambiguous among the parts of the
-- image, their newest whole shards have it, or a newer one.
abbrev pub IsPutFound : Dimensions → Image → (id : ℕ) → (bytes : List ℕ) → (payloads : List (List ℕ)) → Type 0
IsPutFound g image id bytes payloads = (put : Put) (whose : Whose) (parts : List Part) (shards : List WholeShard)
    → id_number put.id ≡ id → IsIdentifier put.id → put.command < 2 ^ 64 → heads_in g.format ≡ true → HasPayloads g put bytes payloads
    → AreParts (record { geometry = g; whose = whose }) image parts → (IsAmbiguous parts put → ⊥) → AreNewest parts shards → HasAsNew shards put
