-- Reads of frames: what they leave of the disk, and how they are refused.
use Rattle.std.specs.Prelude.{◌≡◌, ◌⊎◌, ◌+◌, ◌-◌, ◌<◌, ◌≤◌, ℕ, List, [], Option, Some, None, Result, MatchResult, IsErrOf, length, slice_get, slice_index_or, take}
use Rattle.cs_chunk.specs.Chunks.{AreChunksIn, end_in}
use Rattle.cs_chunk.specs.Newest.{IsReadAs}
use Rattle.cs_refusal.specs.declared.refusals.Refusal.{Refusal}
use Rattle.cs_refusal.specs.declared.refusals.Refusal.TheVariants as refusal
use Rattle.cs_refusal.specs.Refusals.{number_of}
use Rattle.cs_deps.specs.State.{State as Graph}
use Rattle.cs_disk.specs.Disk.{Image, Rises}
use Rattle.cs_extent.specs.State.{State, shape}
use Rattle.cs_frame.specs.declared.faults.FormatFault.{FormatFault}
use Rattle.cs_frame.specs.declared.frames.FrameKind.{FrameKind}
use Rattle.cs_frame.specs.declared.frames.FrameKind.TheVariants.{Chunk}
use Rattle.cs_frame.specs.declared.locators.Locator.{Locator}
use Rattle.cs_frame.specs.Formats.{formats_of}
use Rattle.cs_frame.specs.Frames.{frame_count, kind_byte}
use Rattle.cs_frame.specs.MeantFrames.{meant_fault}
use Rattle.cs_frame.specs.Refusals.{refusal_for}
use Rattle.law_machine.specs.Formats.{pages_from}

-- the device or memory refused
abbrev pub IsNoAnswer : Refusal → Type 0
IsNoAnswer r = (r ≡ refusal.DeviceFault) ⊎ (r ≡ refusal.OutOfMemory)

-- the frame is damaged, or it is another one: 20 to 24, and 26
abbrev pub IsFrameRefusal : Refusal → Type 0
IsFrameRefusal r = ((20 ≤ number_of r) × (number_of r ≤ 24)) ⊎ (r ≡ refusal.Misplaced)

-- the device or memory refused, or the frame is damaged or another one: 1, 9, 20 to 24 and 26
abbrev pub IsReadRefusal : Refusal → Type 0
IsReadRefusal r = IsNoAnswer r ⊎ IsFrameRefusal r

-- the refusal is that of this fault, where there is one
abbrev pub IsOfFault : Option FormatFault → Refusal → Type 0
IsOfFault found r = (f : FormatFault) × (found ≡ Some f) × (r ≡ refusal_for f)

-- Something was read, and there is no fault; or the refusal is that of the fault; or the device or memory refused.
abbrev pub AnswersFault : {T : Type 0} → Option FormatFault → Result T Refusal → Type 0
AnswersFault found result = MatchResult result (λ _. found ≡ None) (λ r. IsNoAnswer r ⊎ IsOfFault found r)

-- what lies from a place on, as far as its frame may reach in these extents
abbrev pub pages_in : State → (view : ℕ → List ℕ) → Locator → List (List ℕ)
pages_in x view l = pages_from (shape x) (formats_of (shape x)) view l.extent l.page (end_in x l - l.page)

-- the first test that fails of the frame there. The last two are that it is the one that l means, and that it is long
-- enough for what it holds
abbrev pub fault_in : State → (view : ℕ → List ℕ) → FrameKind → Locator → Option FormatFault
fault_in x view kind l = meant_fault (shape x).format (kind_byte kind) l.mark (pages_in x view l)

-- the pages are those of the frame that the first of all pages begins, as many as its header counts
pub record IsFrameFront (all pages : List (List ℕ)) : Type 0 where
  pub enough : frame_count all ≤ length all
  pub taken : pages ≡ take (frame_count all) all

-- so many pages from number `first` on were read
pub record AreReadAs (g : Graph) (image : Image) (first count : ℕ) (pages : List (List ℕ)) : Type 0 where
  pub size : length pages ≡ count
  pub each : (i : ℕ) → i < count → IsReadAs g image (first + i) (slice_index_or pages i [])

-- 1 is answered only where the disk's count of failures rose, or stood at its end.
pub record IsCaused {T : Type 0} (before now : ℕ) (result : Result T Refusal) : Type 0 where
  pub later : before ≤ now
  pub failed : IsErrOf result refusal.DeviceFault → Rises before now

-- The chunks before place k are there, and the refusal is that of the fault at k; or the device or memory refused.
abbrev pub IsOfChunkIn : State → (view : ℕ → List ℕ) → List Locator → Refusal → Type 0
IsOfChunkIn x view ls r = IsNoAnswer r
    ⊎ ((k : ℕ) × (l : Locator) × (cs : List (List ℕ)) × (slice_get ls k ≡ Some l) × AreChunksIn x view (take k ls) cs × IsOfFault (fault_in x view Chunk l) r)
