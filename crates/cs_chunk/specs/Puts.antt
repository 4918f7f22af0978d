-- What a put does, one frame after another.
use Rattle.std.specs.Prelude.{◌≡◌, ◌+◌, ◌<◌, ◌≤◌, ℕ, true, List, [], ◌∷◌, length, slice_index_or, sum}
use Rattle.std.specs.List.{AllByRecursion}
use Rattle.cs_chunk.specs.Chunks.{AreChunksIn}
use Rattle.cs_chunk.specs.Newest.{AreNewest}
use Rattle.cs_deps.specs.Staging.{Staging}
use Rattle.cs_deps.specs.State.{IsNewestOn, State as Graph}
use Rattle.cs_disk.specs.Disk.{Image}
use Rattle.cs_extent.specs.Appended.{AreAppended, IsReady}
use Rattle.cs_extent.specs.Places.{FitIn}
use Rattle.cs_extent.specs.State.{State, extents_of, shape}
use Rattle.cs_extent.specs.Worn.{AreWorn}
use Rattle.cs_frame.specs.declared.locators.Locator.{Locator}
use Rattle.cs_frame.specs.Formats.{formats_of}
use Rattle.law_machine.specs.Append.{chunk_frames, page_counts}
use Rattle.law_machine.specs.Device.{Shape, is_meant}
use Rattle.law_machine.specs.Events.{ArePayloads}
use Rattle.law_machine.specs.Extents.{Extents, ForPut}

-- these are the payloads of the chunks of a put to this store, which is this command
abbrev pub ArePayloadsIn : State → (id command : ℕ) → (bytes : List ℕ) → (cs : List (List ℕ)) → Type 0
ArePayloadsIn x id command bytes cs = ArePayloads (shape x) (formats_of (shape x)) id command bytes cs

-- the frames of chunks of these payloads
abbrev pub frames_in : State → (cs : List (List ℕ)) → List (List (List ℕ))
frames_in x cs = chunk_frames (shape x) (formats_of (shape x)) cs

-- they find their places, one after another
abbrev pub ChunksFit : State → (cs : List (List ℕ)) → Type 0
ChunksFit x cs = FitIn x ForPut (page_counts (frames_in x cs))

-- they would take a number past the greatest
abbrev pub AreChunksWorn : State → Staging → (cs : List (List ℕ)) → Type 0
AreChunksWorn x s cs = AreWorn x s ForPut (page_counts (frames_in x cs))

-- the chunks of a put have places
abbrev pub PutFits : State → (id command : ℕ) → (bytes : List ℕ) → Type 0
PutFits x id command bytes = (cs : List (List ℕ)) × ArePayloadsIn x id command bytes cs × ChunksFit x cs

-- they have none, so it is refused as full
abbrev pub IsPutFull : State → (id command : ℕ) → (bytes : List ℕ) → Type 0
IsPutFull x id command bytes = (cs : List (List ℕ)) → ArePayloadsIn x id command bytes cs → ¬ ChunksFit x cs

-- they have places, and would take a number past the greatest
abbrev pub IsPutWorn : State → Staging → (id command : ℕ) → (bytes : List ℕ) → Type 0
IsPutWorn x s id command bytes = (cs : List (List ℕ)) × ArePayloadsIn x id command bytes cs × ChunksFit x cs × AreChunksWorn x s cs

-- chunks of these payloads were appended at these places, and are read back there
abbrev pub ArePutIn : State → Graph → (cs : List (List ℕ)) → List Locator → State → Graph → Type 0
ArePutIn x g cs ls y h = AreAppended x g ForPut (frames_in x cs) ls y h
    × ((image : Image) (view : ℕ → List ℕ) → AreNewest h image view → AreChunksIn y view ls cs)

-- these frames may be appended, one after another, and nothing refuses one of them
pub record MayPut (x : State) (g : Graph) (frames : List (List (List ℕ))) : Type 0 where
  pub ready : IsReady x g.staging
  pub sections : (e : ℕ) → e < (shape x).extents → (shape x).section e < (shape x).sections
  pub pointers : (e : ℕ) → (extents_of x).pointer e ≤ x.pages
  pub found : (shape x).fills ≡ true → (e : ℕ) → (extents_of x).found e ≤ (extents_of x).pointer e
  pub pages : AllByRecursion (λ k. (1 ≤ k) × (k ≤ x.pages)) (page_counts frames)
  pub fits : FitIn x ForPut (page_counts frames)
  pub numbers : ¬ AreWorn x g.staging ForPut (page_counts frames)
  pub room : length frames + sum (page_counts frames) ≤ g.room

-- the frame at l lies below the pointer of its extent, where extents are filled up behind what counts as found there,
-- it is the one that l means, and the newest waiting writes are its pages
pub record IsNewestFrame (S : Shape) (x : Extents) (g : Graph) (l : Locator) (frame : List (List ℕ)) : Type 0 where
  pub extent : l.extent < S.extents
  pub given : l.page + length frame ≤ x.pointer l.extent
  pub behind : S.fills ≡ true → x.found l.extent ≤ l.page
  pub meant : is_meant S l.mark frame ≡ true
  pub newest : (i : ℕ) → i < length frame → IsNewestOn g (S.address l.extent (l.page + i)) (slice_index_or frame i [])

-- the same of each of these frames
abbrev pub AreNewestFrames : Shape → Extents → Graph → List Locator → List (List (List ℕ)) → Type 0
AreNewestFrames S x g [] [] = Unit {0}
AreNewestFrames S x g (l ∷ ls) (frame ∷ frames) = IsNewestFrame S x g l frame × AreNewestFrames S x g ls frames
AreNewestFrames S x g [] (frame ∷ frames) = ⊥
AreNewestFrames S x g (l ∷ ls) [] = ⊥

-- of the frames of a put, those that are done were appended at these places, and those that are left may be
pub record IsPutSoFar (x : State) (g : Graph) (done left : List (List (List ℕ))) (places : List Locator) (y : State) (h : Graph) : Type 0 where
  pub appended : AreAppended x g ForPut done places y h
  pub newest : AreNewestFrames (shape x) (extents_of y) h places done
  pub may : MayPut y h left
  pub same_shape : shape y ≡ shape x
  pub room : g.room ≤ h.room + (length done + sum (page_counts done))
