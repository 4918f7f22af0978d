-- The machine of a store: that of the shape of its extents, with the formats of stores of this shape.
use Rattle.std.specs.Prelude.{◌≡◌, ◌+◌, ◌^◌, ◌≤◌, ℕ, suc, Bool, List, None, length}
use Rattle.cs_deps.specs.Staging.{Staging}
use Rattle.cs_deps.specs.State.{Write as PageWrite}
use Rattle.cs_disk.specs.Disk.{State as DiskState}
use Rattle.cs_extent.specs.State.{State as ExtentsState, extents_of, shape}
use Rattle.cs_extent.specs.Worn.{AreWornBy}
use Rattle.cs_frame.specs.Formats.{formats_of}
use Rattle.cs_reclaim.specs.Moves.{NowhereBy, chunk_frame}
use Rattle.law_machine.specs.Append.{chunk_frames, page_counts}
use Rattle.law_machine.specs.Device.{Page}
use Rattle.law_machine.specs.Disk.{page_write}
use Rattle.law_machine.specs.Element.{Element, Locator, Map}
use Rattle.law_machine.specs.Events.{ArePayloads, Does, IsFrontier, ReadsNow}
use Rattle.law_machine.specs.Extents.{FitsBy, ForPut}
use Rattle.law_machine.specs.Formats.{ChunkFrame}
use Rattle.law_machine.specs.Grounds.{WouldPass}
use Rattle.law_machine.specs.Recovery.{Recovers}
use Rattle.law_machine.specs.Sound.{Bounded, Sound}
use Rattle.law_machine.specs.State.{Accepted, Event, Reply, State, next_command}
use Rattle.law_machine.specs.Step.{Step}
use Rattle.law_refinement.specs.Devices.{IsDiskOf}

-- the state is a sound one of the store's machine
abbrev pub SoundFor : ExtentsState → State → Type 0
SoundFor x s = Sound (shape x) (formats_of (shape x)) s

-- the state keeps the bounds of the store's machine
abbrev pub BoundedFor : ExtentsState → State → Type 0
BoundedFor x s = Bounded (shape x) (formats_of (shape x)) s

-- one event of the store's machine, with this reply, leads from s to t
abbrev pub StepFor : ExtentsState → State → Event → Reply → State → Type 0
StepFor x s event reply t = Step (shape x) (formats_of (shape x)) s event reply t

-- what an event of the store's machine does where nothing refuses it
abbrev pub DoesFor : ExtentsState → State → Event → Reply → State → Type 0
DoesFor x s event reply t = Does (shape x) (formats_of (shape x)) s event reply t

-- the event would take a number past its greatest
abbrev pub WouldPassFor : ExtentsState → State → Event → Type 0
WouldPassFor x s event = WouldPass (shape x) (formats_of (shape x)) s event

-- so many commands since open are persistent
abbrev pub IsFrontierFor : ExtentsState → State → ℕ → Type 0
IsFrontierFor x s n = IsFrontier (shape x) (formats_of (shape x)) s n

-- the disk is that of the state
abbrev pub IsDiskFor : ExtentsState → State → DiskState → Type 0
IsDiskFor x s disk = IsDiskOf (shape x) (formats_of (shape x)) s disk

-- a store of this shape that is opened on the image has so many commands and this map
abbrev pub RecoversFor : ExtentsState → (view : ℕ → Page) → ℕ → Map → Type 0
RecoversFor x view n m = Recovers (shape x) (formats_of (shape x)) view n m

-- at this locator the frame of a chunk with this payload is read
abbrev pub HasChunkAt : ExtentsState → State → Locator → (payload : List ℕ) → Type 0
HasChunkAt x s l payload = ReadsNow (shape x) (formats_of (shape x)) s l ChunkFrame payload

-- At this locator a chunk isn't damaged, and the frame of this payload is read.
pub record HasWholeChunkAt (x : ExtentsState) (s : State) (l : Locator) (payload : List ℕ) : Type 0 where
  pub undamaged : s.opening.damage l ≡ None
  pub reads : HasChunkAt x s l payload

-- what the machine writes for an element: a page, and its bytes
abbrev pub write_for : ExtentsState → Element → PageWrite
write_for x element = page_write (shape x) (formats_of (shape x)) element

-- the payloads of the chunks of a put of these bytes, where it is the next command
abbrev pub AreNextPayloads : ExtentsState → State → (id : ℕ) → (bytes : List ℕ) → (chunks : List (List ℕ)) → Type 0
AreNextPayloads x s id bytes chunks = ArePayloads (shape x) (formats_of (shape x)) id (next_command s) bytes chunks

-- the reply to the next command that is accepted
abbrev pub next_accepted : State → Reply
next_accepted s = Accepted (suc (length s.commands))

-- the frames of chunks with these payloads
abbrev pub frames_for : ExtentsState → (chunks : List (List ℕ)) → List (List Page)
frames_for x chunks = chunk_frames (shape x) (formats_of (shape x)) chunks

-- how many pages the frame of a chunk with this payload takes
abbrev pub frame_pages : ExtentsState → (payload : List ℕ) → ℕ
frame_pages x payload = length (chunk_frame x payload)

-- no extent takes the frame of a chunk with this payload that is moved
abbrev pub GoesNowhereBy : (apart : Bool) → ExtentsState → (payload : List ℕ) → Type 0
GoesNowhereBy apart x payload = NowhereBy apart x (frame_pages x payload)

-- the frames of chunks with these payloads fit, for a put
abbrev pub ChunksFitBy : (apart : Bool) → ExtentsState → (chunks : List (List ℕ)) → Type 0
ChunksFitBy apart x chunks = FitsBy (shape x) apart (extents_of x) ForPut (page_counts (frames_for x chunks))

-- one of the numbers that are staged with these frames would pass its greatest
abbrev pub AreChunksWornBy : (apart : Bool) → ExtentsState → Staging → (chunks : List (List ℕ)) → Type 0
AreChunksWornBy apart x staging chunks = AreWornBy apart x staging ForPut (page_counts (frames_for x chunks))

-- the number of the next command would pass its greatest
abbrev pub AreCommandsWorn : State → Type 0
AreCommandsWorn s = 2 ^ 63 ≤ s.count + length s.commands + 1

-- the generation of the extent is the greatest
abbrev pub IsExtentWorn : ExtentsState → ℕ → Type 0
IsExtentWorn x e = (extents_of x).generation e ≡ (shape x).greatest_generation
