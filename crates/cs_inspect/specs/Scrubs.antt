-- What a scrub goes through, and what it names.
use Rattle.std.specs.Prelude.{◌≡◌, ◌⊎◌, ◌∷◌, ◌++◌, ◌+◌, ℕ, List, [], Some, None, Result, MatchResult, length, map, reverse}
use Rattle.std.specs.List.{AllByRecursion}
use Rattle.cs_chunk.specs.Reads.{IsOfFault, fault_in}
use Rattle.cs_refusal.specs.declared.refusals.Refusal.{Refusal}
use Rattle.cs_refusal.specs.declared.refusals.Refusal.TheVariants.{DeviceFault, NotAStore, OutOfMemory}
use Rattle.cs_disk.specs.Disk.{Rises}
use Rattle.cs_extent.specs.State.{State as ExtentsState, shape}
use Rattle.cs_frame.specs.declared.faults.FormatFault.{FormatFault}
use Rattle.cs_frame.specs.declared.frames.FrameKind.{FrameKind}
use Rattle.cs_frame.specs.declared.frames.FrameKind.TheVariants as kind
use Rattle.cs_frame.specs.declared.locators.Locator.{Locator}
use Rattle.cs_frame.specs.Formats.{as_locator, place_of}
use Rattle.cs_index.specs.State.{State as Index, id_number, index_of}
use Rattle.law_machine.specs.Device.{Inside, Shape}
use Rattle.law_machine.specs.Element.{Locator as Place, Run}
use Rattle.law_machine.specs.Formats.{places}
use Rattle.law_machine.specs.Index.{live_at}
use Rattle.law_machine.specs.Lists.{◌∈◌}
use Rattle.cs_inspect.specs.Chunks.{AreLiveChunks, Chunk}
use Rattle.cs_inspect.specs.declared.scrubs.Damage.{Damage}
use Rattle.cs_inspect.specs.declared.scrubs.Damage.TheVariants as damage
use Rattle.cs_inspect.specs.declared.scrubs.Scrubbed.{Scrubbed}

-- a frame that is to be read: that of a chunk, or that of the run at this place
pub data Frame : Type 0 where
  OfChunk : Chunk → Frame
  OfRun : Place → Frame

-- the frames of these chunks, and behind them those of these runs, from the oldest on; the runs are listed newest first
abbrev pub frames_of : List Chunk → List Run → List Frame
frames_of chunks runs = map OfChunk chunks ++ map OfRun (reverse (places runs))

-- of which kind a frame is, and where it begins
abbrev pub kind_in : Frame → FrameKind
kind_in (OfChunk c) = kind.Chunk
kind_in (OfRun l) = kind.Run

abbrev pub place_in : Frame → Locator
place_in (OfChunk c) = as_locator c.place
place_in (OfRun l) = as_locator l

-- which frame is damaged
abbrev pub frame_of : Damage → Frame
frame_of (damage.Chunk id chunk place refusal) = OfChunk (record { id = id_number id; number = chunk; place = place_of place })
frame_of (damage.Run place refusal) = OfRun (place_of place)

-- with which refusal it is named
abbrev pub refusal_in : Damage → Refusal
refusal_in (damage.Chunk id chunk place refusal) = refusal
refusal_in (damage.Run place refusal) = refusal

-- the place is on an extent
abbrev pub IsInside : Shape → Locator → Type 0
IsInside S l = Inside S l.extent l.page

-- a frame of this kind begins at the place, and has no fault as far as it may reach in these extents
abbrev pub IsIntact : ExtentsState → (view : ℕ → List ℕ) → FrameKind → Locator → Type 0
IsIntact x view kind l = IsInside (shape x) l × (fault_in x view kind l ≡ None)

-- why a frame isn't read: the device refused, or it has this fault, or its place is on no extent
abbrev pub IsWhyUnread : ExtentsState → (view : ℕ → List ℕ) → FrameKind → Locator → Refusal → Type 0
IsWhyUnread x view kind l r = (r ≡ DeviceFault) ⊎ (IsInside (shape x) l × IsOfFault (fault_in x view kind l) r) ⊎ (¬ IsInside (shape x) l × (r ≡ NotAStore))

-- a frame was read and has no fault; or it isn't read, for such a reason or for want of memory
abbrev pub TellsFrame : {T : Type 0} → ExtentsState → (view : ℕ → List ℕ) → FrameKind → Locator → Result T Refusal → Type 0
TellsFrame x view kind l result = MatchResult result (λ _. IsIntact x view kind l) (λ r. (r ≡ OutOfMemory) ⊎ IsWhyUnread x view kind l r)

-- a frame was passed over: it has no fault, and what is named is named of others
abbrev pub IsPassed : ExtentsState → (view : ℕ → List ℕ) → Frame → Type 0
IsPassed x view f = IsIntact x view (kind_in f) (place_in f)

-- a damage is of this frame, and has the reason for which it isn't read
abbrev pub IsNamed : ExtentsState → (view : ℕ → List ℕ) → Frame → Damage → Type 0
IsNamed x view f d = (frame_of d ≡ f) × IsWhyUnread x view (kind_in f) (place_in f) (refusal_in d)

-- each of these frames in turn is passed over or named, and nothing else is named
abbrev pub AreNamed : ExtentsState → (view : ℕ → List ℕ) → List Frame → List Damage → Type 0
AreNamed x view [] damages = damages ≡ []
AreNamed x view (f ∷ fs) damages = (IsPassed x view f × AreNamed x view fs damages)
    ⊎ ((d : Damage) × (ds : List Damage) × (damages ≡ d ∷ ds) × IsNamed x view f d × AreNamed x view fs ds)

-- What a scrub of this index found: of the frames of all live chunks and of all runs those are named that can't be
-- read.
pub record IsScrubbed (x : ExtentsState) (view : ℕ → List ℕ) (index : Index) (found : Scrubbed) : Type 0 where
  pub chunks : List Chunk
  pub live : AreLiveChunks (index_of index) chunks
  pub count : found.chunks ≡ length chunks
  -- each chunk begins on an extent, so 43 is said of runs alone
  pub inside : (c : Chunk) → c ∈ chunks → IsInside (shape x) (as_locator c.place)
  pub named : AreNamed x view (frames_of chunks index.runs) found.damages.items

-- 1 is said only where the disk's count of failures rose, or stood at its end
abbrev pub AreCaused : (before after : ℕ) → List Damage → Type 0
AreCaused before after damages = AllByRecursion (λ d. refusal_in d ≡ DeviceFault → Rises before after) damages

-- one, where a read failed
abbrev pub failed_reads : Refusal → ℕ
failed_reads DeviceFault = 1
failed_reads refusal = 0

-- how many damages are named 1
abbrev pub device_faults : List Damage → ℕ
device_faults [] = 0
device_faults (d ∷ damages) = failed_reads (refusal_in d) + device_faults damages

-- a damage is of a chunk of this shard
abbrev pub IsOfShard : ℕ → Damage → Type 0
IsOfShard id (damage.Chunk d chunk place refusal) = id_number d ≡ id
IsOfShard id (damage.Run place refusal) = ⊥

-- a damage of this shard is named
abbrev pub NamesShard : List Damage → ℕ → Type 0
NamesShard damages id = (d : Damage) × (d ∈ damages) × IsOfShard id d

-- a chunk of this shard, as the index has it, has a fault, so a read of the shard is refused
abbrev pub HasFault : ExtentsState → (view : ℕ → List ℕ) → Index → ℕ → Type 0
HasFault x view index id = (l : Place) × (f : FormatFault) × (l ∈ live_at (index_of index) id) × (fault_in x view kind.Chunk (as_locator l) ≡ Some f)

-- a damage is named of each shard with such a chunk
abbrev pub HidesNothing : ExtentsState → (view : ℕ → List ℕ) → Index → List Damage → Type 0
HidesNothing x view index damages = (id : ℕ) → HasFault x view index id → NamesShard damages id

-- and of no other
abbrev pub NamesNoOther : ExtentsState → (view : ℕ → List ℕ) → Index → List Damage → Type 0
NamesNoOther x view index damages = (id : ℕ) → NamesShard damages id → HasFault x view index id
