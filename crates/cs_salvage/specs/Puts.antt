-- Parts in the order of their puts.
use Rattle.std.specs.Prelude.{◌≡◌, ◌≢◌, ◌⊎◌, ◌==◌, ◌-◌, ◌<◌, ◌≤◌, ℕ, List, Option, None, Some, length, All, Contains, slice_index_or}
use Rattle.std.specs.List.{AllPairs, find}
use Rattle.std.specs.Cmp.Lexicographic.{slice_cmp}
use Rattle.std.specs.declared.cmp.Ordering.{Ordering}
use Rattle.std.specs.declared.cmp.Ordering.TheVariants.{Less}
use Rattle.std.specs.Ordering.{nat_cmp, ordering_then}
use Rattle.cs_salvage.specs.Shards.{Conflict, put_of}
use Rattle.cs_salvage.specs.declared.parts.Part.{Part}
use Rattle.cs_salvage.specs.declared.parts.Put.{Put}
use Rattle.cs_salvage.specs.declared.whole_shards.WholeShard.{WholeShard}
use Rattle.cs_frame.specs.declared.identifiers.ShardId.{ShardId}

-- how two puts are ordered: by their identifiers, and of one identifier the newer comes first
abbrev pub put_cmp : Put → Put → Ordering
put_cmp a b = ordering_then (slice_cmp nat_cmp a.id.0 b.id.0) (nat_cmp b.command a.command)

-- a put comes before another
abbrev pub Precedes : Put → Put → Type 0
Precedes a b = put_cmp a b ≡ Less

-- the parts are of this put
abbrev pub AreOf : Put → List Part → Type 0
AreOf put parts = All (λ (part : Part). put_of part ≡ put) parts

-- the parts are of puts before it
abbrev pub AreBefore : Put → List Part → Type 0
AreBefore put parts = All (λ (part : Part). Precedes (put_of part) put) parts

-- no part comes before one of an earlier put
abbrev pub AreInOrder : List Part → Type 0
AreInOrder parts = AllPairs (λ (a b : Part). Precedes (put_of a) (put_of b) ⊎ (put_of a ≡ put_of b)) parts

-- the parts from start on up to end are all that are of the put that the first of them is of
pub record IsEndOfPut (parts : List Part) (start end : ℕ) : Type 0 where
  pub above : start < end
  pub inside : end ≤ length parts
  pub own : (k : ℕ) (d : Part) → start ≤ k → k < end → put_of (slice_index_or parts k d) ≡ put_of (slice_index_or parts start d)
  pub next : (d : Part) → end < length parts → put_of (slice_index_or parts end d) ≢ put_of (slice_index_or parts start d)

-- the first of the parts with a number
abbrev pub first_with : (number : ℕ) → List Part → Option Part
first_with number parts = find (λ (part : Part). part.head.number == number) parts

-- a part is of the store of the first part of all and says as many chunks, and has the payload of the first of its
-- number
pub record Agrees (parts : List Part) (part : Part) : Type 0 where
  pub store : (d : Part) → part.store ≡ (slice_index_or parts 0 d).store
  pub count : (d : Part) → part.head.count ≡ (slice_index_or parts 0 d).head.count
  pub digest : (first : Part) → first_with part.head.number parts ≡ Some first → first.digest ≡ part.digest

-- a part conflicts with one that is there
abbrev pub Conflicts : List Part → Part → Type 0
Conflicts parts part = (other : Part) × Contains parts other × Conflict other part

-- the pieces are the first parts of the numbers below a count, in order
pub record AreFirst (parts : List Part) (count : ℕ) (pieces : List Part) : Type 0 where
  pub size : length pieces ≡ count
  pub each : (k : ℕ) (d : Part) → k < count → first_with k parts ≡ Some (slice_index_or pieces k d)

-- there is no part of a number below a count
abbrev pub Lacks : List Part → (count : ℕ) → Type 0
Lacks parts count = (k : ℕ) × (k < count) × (first_with k parts ≡ None)

-- one of the shards has this identifier
abbrev pub Have : ShardId → List WholeShard → Type 0
Have id shards = (shard : WholeShard) × Contains shards shard × (shard.put.id ≡ id)

-- the last of them has another one, or there is none
abbrev pub EndOtherwise : ShardId → List WholeShard → Type 0
EndOtherwise id shards = (d : WholeShard) → 0 < length shards → (slice_index_or shards (length shards - 1) d).put.id ≢ id
