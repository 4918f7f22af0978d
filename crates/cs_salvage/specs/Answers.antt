-- What a get answers of a store that can't be opened as usual.
use Rattle.std.specs.Prelude.{◌≡◌, ◌≢◌, ◌⊎◌, ℕ, List, [], Option, Some, None, map}
use Rattle.std.specs.List.{AllByRecursion}
use Rattle.cs_chunk.specs.Chunks.{AreChunksIn, AreMeant}
use Rattle.cs_chunk.specs.Reads.{IsNoAnswer, IsOfChunkIn}
use Rattle.cs_refusal.specs.declared.refusals.Refusal.{Refusal}
use Rattle.cs_refusal.specs.declared.refusals.Refusal.TheVariants.{Misplaced}
use Rattle.cs_extent.specs.State.{State as ExtentsState, shape}
use Rattle.cs_frame.specs.declared.locators.Locator.{Locator}
use Rattle.cs_frame.specs.Formats.{as_locator, formats_of}
use Rattle.cs_reader.specs.ImageReads.{IsLocated}
use Rattle.cs_index.specs.State.{index_of}
use Rattle.law_machine.specs.Element.{Bytes, Content, Damaged}
use Rattle.law_machine.specs.Index.{joined_bodies, live_at, lookup}
use Rattle.law_machine.specs.Refusal.{Refusal as Ground}
use Rattle.law_refinement.specs.Refusals.{refusal_for}
use Rattle.cs_salvage.specs.Founds.{Found}

-- the runs that were read name the identifier as deleted; or they don't name it, and all runs were read
abbrev pub IsAbsent : Found → (id : ℕ) → Type 0
IsAbsent f id = (lookup id (index_of f.index) ≡ Some []) ⊎ ((lookup id (index_of f.index) ≡ None) × (f.damaged ≡ None))

-- the runs that were read don't name it, and there is one that couldn't be read
abbrev pub IsUnknown : Found → (id : ℕ) → Type 0
IsUnknown f id = (lookup id (index_of f.index) ≡ None) × (f.damaged ≢ None)

-- where the chunks of the identifier lie, by the newest of the runs that were read which names it
abbrev pub places_of : Found → (id : ℕ) → List Locator
places_of f id = map as_locator (live_at (index_of f.index) id)

-- the bytes are the payloads of the chunks whose frames these places mean, without their heads, one by one
abbrev pub AreMeantBytes : Found → (id : ℕ) → (bytes : List ℕ) → Type 0
AreMeantBytes f id bytes = (cs : List (List ℕ)) × AreMeant (shape f.extents) (places_of f id) cs × (bytes ≡ joined_bodies (formats_of (shape f.extents)) cs)

-- this is so of any chunks that lie at the places of the identifier, where it has places and all of them are located
abbrev pub WhereTheyLie : Found → (view : ℕ → List ℕ) → (id : ℕ) → (List (List ℕ) → Type 0) → Type 0
WhereTheyLie f view id P = (cs : List (List ℕ)) → live_at (index_of f.index) id ≢ [] → AllByRecursion (IsLocated f.extents) (places_of f id) → AreChunksIn f.extents view (places_of f id) cs → P cs

-- the bytes are those of chunks that lie there
abbrev pub AreReadBytes : Found → (view : ℕ → List ℕ) → (id : ℕ) → (bytes : List ℕ) → Type 0
AreReadBytes f view id bytes = (cs : List (List ℕ)) × AreChunksIn f.extents view (places_of f id) cs × (bytes ≡ joined_bodies (formats_of (shape f.extents)) cs)

-- Chunks aren't read at these places: one of them isn't located any more. Or all are, and the refusal is that of the
-- first that has no chunk, or the device or memory refused.
abbrev pub IsWhyNoChunks : ExtentsState → (view : ℕ → List ℕ) → List Locator → Refusal → Type 0
IsWhyNoChunks x view ls r = ((¬ AllByRecursion (IsLocated x) ls) × (r ≡ Misplaced)) ⊎ (AllByRecursion (IsLocated x) ls × IsOfChunkIn x view ls r)

-- What is there of an identifier that has this in a map. If there is nothing, it is deleted, or not named by any run.
-- If there are bytes, its places are located, and chunks of these bytes lie there. If it is damaged, it has places.
abbrev pub HasContent : Found → (view : ℕ → List ℕ) → (id : ℕ) → Option Content → Type 0
HasContent f view id None = IsAbsent f id
HasContent f view id (Some (Bytes bytes)) = (live_at (index_of f.index) id ≢ []) × AllByRecursion (IsLocated f.extents) (places_of f id) × AreReadBytes f view id bytes
HasContent f view id (Some (Damaged g)) = live_at (index_of f.index) id ≢ []

-- What is there of an identifier that is damaged by this: no bytes are read of it. Why there are none is the refusal of
-- the damage, unless the device or memory refuses.
pub record IsRefusedFor (f : Found) (view : ℕ → List ℕ) (id : ℕ) (reason : Ground) : Type 0 where
  pub no_bytes : (bytes : List ℕ) → AreReadBytes f view id bytes → ⊥
  pub refused : (r : Refusal) → IsWhyNoChunks f.extents view (places_of f id) r → IsNoAnswer r ⊎ (r ≡ refusal_for reason)
