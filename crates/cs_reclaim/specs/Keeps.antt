-- What keeps the chunks of shards while one is moved.
use Rattle.std.specs.Prelude.{ℕ, List, [], ◌∷◌, map}
use Rattle.cs_chunk.specs.Chunks.{IsFrameIn}
use Rattle.cs_chunk.specs.Stays.{IsBelow}
use Rattle.cs_extent.specs.State.{State as ExtentsState, extents_of}
use Rattle.cs_frame.specs.declared.locators.Locator.{Locator}
use Rattle.cs_frame.specs.Formats.{as_locator, formats_of}
use Rattle.cs_index.specs.State.{State, index_of}
use Rattle.law_machine.specs.Device.{Shape}
use Rattle.law_machine.specs.Element.{Copy}
use Rattle.law_machine.specs.Extents.{Extents}
use Rattle.law_machine.specs.Formats.{ChunkFrame}
use Rattle.law_machine.specs.Index.{live_at}
use Rattle.law_machine.specs.Lists.{◌∈◌}
use Rattle.cs_reclaim.specs.Moves.{chunk_frame}

-- the frames of these chunks at these places are of the generations that their extents have, and below the pointers
abbrev pub AreBelow : Shape → Extents → List Locator → (chunks : List (List ℕ)) → Type 0
AreBelow S x [] [] = Unit {0}
AreBelow S x (l ∷ ls) (c ∷ cs) = IsBelow x l ((formats_of S).frame ChunkFrame c) × AreBelow S x ls cs
AreBelow S x [] (c ∷ cs) = ⊥
AreBelow S x (l ∷ ls) [] = ⊥

-- the frame of this chunk is read at l, of the generation that its extent has, and below the pointer
abbrev pub IsChunkThere : ExtentsState → (view : ℕ → List ℕ) → Locator → (chunk : List ℕ) → Type 0
IsChunkThere x view l chunk = IsFrameIn x view ChunkFrame l chunk × IsBelow (extents_of x) l (chunk_frame x chunk)

-- where a copy was read and where it was written lies the frame of one chunk, below the pointers
abbrev pub IsCopyRead : ExtentsState → (view : ℕ → List ℕ) → Copy → Type 0
IsCopyRead x view c = (chunk : List ℕ) × IsChunkThere x view (as_locator c.from) chunk × IsChunkThere x view (as_locator c.to) chunk

-- so it is with each of these
abbrev pub AreCopiesRead : ExtentsState → (view : ℕ → List ℕ) → List Copy → Type 0
AreCopiesRead x view copies = (c : Copy) → c ∈ copies → IsCopyRead x view c

-- where the chunks of an identifier are
abbrev pub places_at : State → ℕ → List Locator
places_at s id = map as_locator (live_at (index_of s) id)
