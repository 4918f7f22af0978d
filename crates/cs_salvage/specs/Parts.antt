-- Parts of shards: the whole frames of chunks on a device, by the heads that their payloads end with.
use Rattle.std.specs.Prelude.{◌≡◌, ◌⊎◌, ◌+◌, ◌^◌, ◌<◌, ◌≤◌, ◌++◌, ℕ, true, List, length, All, Contains}
use Rattle.std.specs.List.{AllPairs}
use Rattle.sha2.specs.Sha256.{sha256}
use Rattle.cs_disk.specs.Disk.{Image, page}
use Rattle.cs_frame.specs.declared.heads.ChunkHead.{ChunkHead}
use Rattle.cs_frame.specs.declared.identifiers.ShardId.{ShardId}
use Rattle.cs_frame.specs.Bytes.{IsBytes}
use Rattle.cs_frame.specs.Formats.{formats_of}
use Rattle.cs_frame.specs.Frames.{page_count}
use Rattle.cs_frame.specs.Geometries.{Dimensions, section_size}
use Rattle.cs_frame.specs.Heads.{spelled_head}
use Rattle.cs_frame.specs.Identifiers.{id_number}
use Rattle.law_machine.specs.Device.{Shape}
use Rattle.law_machine.specs.Formats.{ChunkFrame, Formats, Stand}
use Rattle.law_machine.specs.Geometry.{heads_in, shape_of, store_front}
use Rattle.cs_salvage.specs.declared.parts.Part.{Part}
use Rattle.cs_salvage.specs.declared.searches.Sought.{Sought}
use Rattle.cs_salvage.specs.declared.searches.Whose.{Whose}
use Rattle.cs_salvage.specs.declared.searches.Whose.TheVariants.{OfAny, OfStore}

-- the shape and the formats of a store of these dimensions
abbrev pub shape_in : Dimensions → Shape
shape_in g = shape_of g.extents g.pages g.sections (section_size g.extents g.sections) g.format

abbrev pub formats_in : Dimensions → Formats
formats_in g = formats_of (shape_in g)

-- Chunks are taken of a store whose identity begins with the bytes `front`. That of the store of the geometry begins
-- with `own`.
abbrev pub AreTaken : Whose → (own front : List ℕ) → Type 0
AreTaken OfStore own front = front ≡ own
AreTaken OfAny own front = Unit {0}

-- the chunks of the store of these dimensions are sought, and no others
abbrev pub of_store : Dimensions → Sought
of_store g = record { geometry = g; whose = OfStore }

-- chunks are sought of a store whose identity begins with these eight bytes
abbrev pub IsSought : Sought → (front : List ℕ) → Type 0
IsSought sought front = AreTaken sought.whose (store_front sought.geometry.format) front

-- the payload ends with this head, and with the first eight bytes of a store's identity
abbrev pub EndsWith : ChunkHead → (front : List ℕ) → (payload : List ℕ) → Type 0
EndsWith head front payload = (piece : List ℕ)
    × (payload ≡ piece ++ spelled_head (id_number head.id) head.number head.count head.command front)

-- an identifier has sixteen bytes
abbrev pub IsIdentifier : ShardId → Type 0
IsIdentifier id = IsBytes id.0 × (length id.0 ≡ 16)

-- thirty-four bytes can spell the head with these first bytes of a store's identity
abbrev pub IsSpellable : ChunkHead → (front : List ℕ) → Type 0
IsSpellable head front = IsIdentifier head.id × (head.command < 2 ^ 64) × (length front ≡ 8)

-- the chunk's number is one of those that a shard of so many chunks has, and a shard may have so many
abbrev pub IsNumbered : ChunkHead → Type 0
IsNumbered head = (head.number < head.count) × (head.count ≤ 8)

-- The whole frame of a chunk with this payload begins on this page of an extent, and ends on the extent.
pub record IsChunkAt (g : Dimensions) (image : Image) (extent first : ℕ) (payload : List ℕ) : Type 0 where
  pub there : extent < g.extents
  pub ends : first + page_count (length payload) ≤ g.pages
  pub stands : Stand (shape_in g) (formats_in g) (page image) extent first ((formats_in g).frame ChunkFrame payload)

-- The part is such a frame, of a store whose chunks are sought, in a format that has heads. It says where the frame
-- begins, its pages, the head, the store and the payload's digest.
pub record IsPart (sought : Sought) (image : Image) (part : Part) (payload : List ℕ) : Type 0 where
  pub heads : heads_in sought.geometry.format ≡ true
  pub chunk : IsChunkAt sought.geometry image part.extent part.page payload
  pub pages : part.pages ≡ page_count (length payload)
  pub head : EndsWith part.head part.store payload
  pub store : IsSought sought part.store
  pub spellable : IsSpellable part.head part.store
  pub numbered : IsNumbered part.head
  pub digest : part.digest ≡ sha256 payload

-- the parts are of stores whose chunks are sought
abbrev pub AreSought : Sought → List Part → Type 0
AreSought sought parts = All (λ (part : Part). IsSought sought part.store) parts

-- a place lies before another on the device: on an earlier extent, or on an earlier page of the same
abbrev pub LiesBefore : (extent first other_extent other_first : ℕ) → Type 0
LiesBefore extent first other_extent other_first = (extent < other_extent) ⊎ ((extent ≡ other_extent) × (first < other_first))

-- a part lies before another
abbrev pub IsBefore : Part → Part → Type 0
IsBefore a b = LiesBefore a.extent a.page b.extent b.page

-- These are all parts on the device: each is one, each is there, and they come in the order in which they lie.
pub record AreParts (sought : Sought) (image : Image) (parts : List Part) : Type 0 where
  pub sound : (part : Part) → Contains parts part → (payload : List ℕ) × IsPart sought image part payload
  pub complete : (part : Part) (payload : List ℕ) → IsPart sought image part payload → Contains parts part
  pub ordered : AllPairs IsBefore parts

-- no part begins there
abbrev pub NoPartAt : Sought → Image → (extent first : ℕ) → Type 0
NoPartAt sought image extent first =
    (part : Part) (payload : List ℕ) → part.extent ≡ extent → part.page ≡ first → IsPart sought image part payload → ⊥
