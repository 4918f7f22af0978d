-- All chunks of all shards that are there, in order.
use Rattle.std.specs.Prelude.{◌≡◌, ◌∷◌, ◌++◌, ℕ, suc, List, []}
use Rattle.cs_frame.specs.Formats.{place_of}
use Rattle.cs_index.specs.declared.live.LiveChunk.{LiveChunk}
use Rattle.cs_index.specs.State.{id_number}
use Rattle.law_machine.specs.Device.{Inside, Shape}
use Rattle.law_machine.specs.Element.{Entry, Locator as Place}
use Rattle.law_machine.specs.Index.{IsMergedRun}

-- a chunk of a shard: whose it is, the how manyth of it, counted from 0, and where its frame begins
pub record Chunk : Type 0 where
  pub id : ℕ
  pub number : ℕ
  pub place : Place

-- a live chunk as such a one
abbrev pub chunk_of : LiveChunk → Chunk
chunk_of c = record { id = id_number c.id; number = c.chunk; place = place_of c.place }

-- the chunks of a shard at these places, numbered from k on
abbrev pub chunks_from : (id k : ℕ) → List Place → List Chunk
chunks_from id k [] = []
chunks_from id k (l ∷ ls) = record { id = id; number = k; place = l } ∷ chunks_from id (suc k) ls

-- the chunks of these entries, one after another
abbrev pub chunks_of : List Entry → List Chunk
chunks_of [] = []
chunks_of (x ∷ xs) = chunks_from x.id 0 x.locators ++ chunks_of xs

-- these are all chunks of all that is live in an index, by rising identifiers and by number
abbrev pub AreLiveChunks : (index : List Entry) → List Chunk → Type 0
AreLiveChunks index chunks = (entries : List Entry) × IsMergedRun index entries × (chunks ≡ chunks_of entries)

-- a chunk's frame begins on a page of an extent that is there
abbrev pub BeginsInside : Shape → Chunk → Type 0
BeginsInside S c = Inside S c.place.extent c.place.page
