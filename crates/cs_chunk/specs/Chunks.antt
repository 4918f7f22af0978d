-- Where frames are read, and the chunks of a shard.
use Rattle.std.specs.Prelude.{◌≡◌, ◌≢◌, ◌⊎◌, ◌+◌, ◌≤◌, ℕ, true, List, [], ◌∷◌, length}
use Rattle.cs_extent.specs.State.{State, extents_of, shape}
use Rattle.cs_frame.specs.declared.frames.FrameKind.{FrameKind as Kind}
use Rattle.cs_frame.specs.declared.frames.FrameKind.TheVariants.{Chunk, Run}
use Rattle.cs_frame.specs.declared.locators.Locator.{Locator}
use Rattle.cs_frame.specs.Formats.{formats_of}
use Rattle.cs_frame.specs.Frames.{digest_front}
use Rattle.law_machine.specs.Device.{Shape, is_meant}
use Rattle.law_machine.specs.Extents.{reach}
use Rattle.law_machine.specs.Formats.{ChunkFrame, FrameKind, RunFrame, Stand, is_long_frame}

-- a kind of frame, in the words of the store's machine
abbrev pub kind_of : Kind → FrameKind
kind_of Chunk = ChunkFrame
kind_of Run = RunFrame

-- how far a frame may reach that begins at l in these extents
abbrev pub end_in : State → Locator → ℕ
end_in x l = reach (shape x) ((extents_of x).found l.extent) l.page

-- the frame of this payload is the one that l means
abbrev pub IsMeant : Shape → FrameKind → Locator → (payload : List ℕ) → Type 0
IsMeant S kind l payload = is_meant S l.mark ((formats_of S).frame kind payload) ≡ true

-- the frame of this payload is long enough for what it holds: a chunk's for its head
abbrev pub IsLong : Shape → FrameKind → (payload : List ℕ) → Type 0
IsLong S kind payload = is_long_frame (formats_of S) ((formats_of S).frame kind payload) ≡ true

-- The frame of this payload begins at l, reaches no further than it may, and is the one that l means. It is long enough
-- for what it holds.
abbrev pub IsFrameIn : State → (view : ℕ → List ℕ) → FrameKind → Locator → (payload : List ℕ) → Type 0
IsFrameIn x view kind l payload = (l.page + length ((formats_of (shape x)).frame kind payload) ≤ end_in x l)
    × Stand (shape x) (formats_of (shape x)) view l.extent l.page ((formats_of (shape x)).frame kind payload)
    × IsMeant (shape x) kind l payload × IsLong (shape x) kind payload

-- chunks with these payloads have their frames at these places
abbrev pub AreChunksIn : State → (view : ℕ → List ℕ) → List Locator → (chunks : List (List ℕ)) → Type 0
AreChunksIn x view [] [] = Unit {0}
AreChunksIn x view (l ∷ ls) (c ∷ cs) = IsFrameIn x view ChunkFrame l c × AreChunksIn x view ls cs
AreChunksIn x view [] (c ∷ cs) = ⊥
AreChunksIn x view (l ∷ ls) [] = ⊥

-- the frames of chunks with these payloads are those that these places mean
abbrev pub AreMeant : Shape → List Locator → (chunks : List (List ℕ)) → Type 0
AreMeant S [] [] = Unit {0}
AreMeant S (l ∷ ls) (c ∷ cs) = IsMeant S ChunkFrame l c × AreMeant S ls cs
AreMeant S [] (c ∷ cs) = ⊥
AreMeant S (l ∷ ls) [] = ⊥

-- the digests of these texts and of those begin with the same eight bytes, one by one
abbrev pub AgreeInDigests : List (List ℕ) → List (List ℕ) → Type 0
AgreeInDigests [] [] = Unit {0}
AgreeInDigests (c ∷ cs) (d ∷ ds) = (digest_front c ≡ digest_front d) × AgreeInDigests cs ds
AgreeInDigests [] (d ∷ ds) = ⊥
AgreeInDigests (c ∷ cs) [] = ⊥

-- somewhere among these texts and those two different ones stand at one place, and their digests begin with the same
-- eight bytes
abbrev pub TwoAgree : List (List ℕ) → List (List ℕ) → Type 0
TwoAgree (c ∷ cs) (d ∷ ds) = ((c ≢ d) × (digest_front c ≡ digest_front d)) ⊎ TwoAgree cs ds
TwoAgree [] ds = ⊥
TwoAgree (c ∷ cs) [] = ⊥
