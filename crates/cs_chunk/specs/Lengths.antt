-- The lengths of payloads, as the first pages of their frames say them.
use Rattle.std.specs.Prelude.{◌≡◌, ◌≢◌, ◌⊎◌, ◌-◌, ℕ, List, Option, Some, None, slice_get, take}
use Rattle.std.specs.List.{AllByRecursion, sum_by}
use Rattle.cs_chunk.specs.Chunks.{end_in}
use Rattle.cs_chunk.specs.Reads.{IsNoAnswer, IsOfFault}
use Rattle.cs_refusal.specs.declared.refusals.Refusal.{Refusal}
use Rattle.cs_refusal.specs.declared.refusals.Refusal.TheVariants.{BadLength, BadMagic, BadVersion, Misplaced}
use Rattle.cs_extent.specs.State.{State, shape}
use Rattle.cs_frame.specs.declared.faults.FormatFault.{FormatFault}
use Rattle.cs_frame.specs.declared.frames.FrameKind.{FrameKind}
use Rattle.cs_frame.specs.declared.frames.FrameKind.TheVariants.{Chunk}
use Rattle.cs_frame.specs.declared.locators.Locator.{Locator}
use Rattle.cs_frame.specs.Frames.{kind_byte, payload_length}
use Rattle.cs_frame.specs.MeantFrames.{meant_header_fault}
use Rattle.law_machine.specs.Device.{Shape}
use Rattle.law_machine.specs.Geometry.{head_bytes_in}

-- the first test that fails of the header at a place in these extents, the last of which is that its frame is the one
-- that l means
abbrev pub header_fault_in : State → (view : ℕ → List ℕ) → FrameKind → Locator → Option FormatFault
header_fault_in x view kind l = meant_header_fault (shape x).format (kind_byte kind) l.mark (view ((shape x).address l.extent l.page)) (end_in x l - l.page)

-- the length of a payload that the header at a place says
abbrev pub length_at : Shape → (view : ℕ → List ℕ) → Locator → ℕ
length_at S view l = payload_length (view (S.address l.extent l.page))

-- the header at a place in these extents passes as that of the frame that l means, and says so many bytes
pub record IsHeaderIn (x : State) (view : ℕ → List ℕ) (kind : FrameKind) (l : Locator) (count : ℕ) : Type 0 where
  pub passes : header_fault_in x view kind l ≡ None
  pub says : count ≡ length_at (shape x) view l

-- the device or memory refused, or one of a header's tests: 1, 9, 20, 22, 24 and 26
abbrev pub IsHeaderRefusal : Refusal → Type 0
IsHeaderRefusal r = IsNoAnswer r ⊎ (r ≡ BadMagic) ⊎ (r ≡ BadVersion) ⊎ (r ≡ BadLength) ⊎ (r ≡ Misplaced)

-- The refusal is that of a frame's fault; or it is 26, and the frame has a fault: its header has another mark, and
-- whether the frame is damaged or another one shows behind the header.
abbrev pub IsOfFaultOrMark : Option FormatFault → Refusal → Type 0
IsOfFaultOrMark found r = IsOfFault found r ⊎ ((r ≡ Misplaced) × (found ≢ None))

-- a chunk's header is at each of these places
abbrev pub AreHeadersIn : State → (view : ℕ → List ℕ) → List Locator → Type 0
AreHeadersIn x view ls = AllByRecursion (λ l. header_fault_in x view Chunk l ≡ None) ls

-- how many bytes of a shard the chunk at a place has by what its header says: all but its head
abbrev pub body_length_at : Shape → (view : ℕ → List ℕ) → Locator → ℕ
body_length_at S view l = length_at S view l - head_bytes_in S.format

-- how many the chunks at these places have so together
abbrev pub lengths_at : Shape → (view : ℕ → List ℕ) → List Locator → ℕ
lengths_at S view ls = sum_by (body_length_at S view) ls

-- The headers before place k are there, and the refusal is that of the header at k; or the device or memory refused.
abbrev pub IsOfHeaderIn : State → (view : ℕ → List ℕ) → List Locator → Refusal → Type 0
IsOfHeaderIn x view ls r = IsNoAnswer r
    ⊎ ((k : ℕ) × (l : Locator) × (slice_get ls k ≡ Some l) × AreHeadersIn x view (take k ls) × IsOfFault (header_fault_in x view Chunk l) r)
