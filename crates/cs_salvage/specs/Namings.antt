-- What the runs that were read say of a shard whose parts were found.
use Rattle.std.specs.Prelude.{◌≡◌, ◌≢◌, ◌⊎◌, ◌+◌, ◌∷◌, ℕ, List, [], None, Some, Contains, map}
use Rattle.cs_frame.specs.Bytes.{number}
use Rattle.cs_frame.specs.declared.identifiers.ShardId.{ShardId}
use Rattle.cs_index.specs.State.{id_number, index_of}
use Rattle.law_machine.specs.Element.{Locator as Place}
use Rattle.law_machine.specs.Index.{live_at, lookup}
use Rattle.cs_salvage.specs.Answers.{IsUnknown}
use Rattle.cs_salvage.specs.Founds.{Found}
use Rattle.cs_salvage.specs.declared.namings.Naming.{Naming}
use Rattle.cs_salvage.specs.declared.namings.Naming.TheVariants.{AsItIs, Deleted, Otherwise, Unknown, Unnamed}
use Rattle.cs_salvage.specs.declared.parts.Part.{Part}
use Rattle.cs_salvage.specs.declared.whole_shards.WholeShard.{WholeShard}

-- the mark of a part's frame: the first eight bytes of its payload's digest, as a number
abbrev pub mark_of : Part → ℕ
mark_of part = number 0 8 part.digest

-- where the chunks of the shard's identifier lie, by the newest of the runs that were read which names it
abbrev pub live_of : Found → WholeShard → List Place
live_of f shard = live_at (index_of f.index) (id_number shard.put.id)

-- these places mean the frames of these parts, one by one, by their marks
abbrev pub AreMarked : List Place → List Part → Type 0
AreMarked places parts = map (λ (l : Place). l.mark) places ≡ map mark_of parts

-- this is what the runs that were read say of the shard
abbrev pub IsNaming : Found → WholeShard → Naming → Type 0
IsNaming f shard AsItIs = (live_of f shard ≢ []) × AreMarked (live_of f shard) shard.parts.items
IsNaming f shard Otherwise = (live_of f shard ≢ []) × (AreMarked (live_of f shard) shard.parts.items → ⊥)
IsNaming f shard Deleted = lookup (id_number shard.put.id) (index_of f.index) ≡ Some []
IsNaming f shard Unnamed = (lookup (id_number shard.put.id) (index_of f.index) ≡ None) × (f.damaged ≡ None)
IsNaming f shard Unknown = IsUnknown f (id_number shard.put.id)

-- so many of them are this one
abbrev pub AreCounted : Naming → List Naming → (count : ℕ) → Type 0
AreCounted naming [] count = count ≡ 0
AreCounted naming (one ∷ others) count =
    ((one ≡ naming) × (rest : ℕ) × (count ≡ rest + 1) × AreCounted naming others rest) ⊎ ((one ≢ naming) × AreCounted naming others count)

-- one of the shards has this identifier
abbrev pub HasShard : List WholeShard → ShardId → Type 0
HasShard shards id = (shard : WholeShard) × Contains shards shard × (shard.put.id ≡ id)

-- so many of these identifiers no shard has
abbrev pub AreLacking : List WholeShard → List ShardId → (count : ℕ) → Type 0
AreLacking shards [] count = count ≡ 0
AreLacking shards (id ∷ ids) count =
    ((HasShard shards id → ⊥) × (rest : ℕ) × (count ≡ rest + 1) × AreLacking shards ids rest) ⊎ (HasShard shards id × AreLacking shards ids count)
