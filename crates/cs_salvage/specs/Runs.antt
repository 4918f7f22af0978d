-- The newest runs of a root, up to the first that can't be read.
use Rattle.std.specs.Prelude.{◌≡◌, ◌≢◌, ◌⊎◌, ◌-◌, ◌<◌, ◌≤◌, ℕ, IfSome, List, Option, Some, None, drop, length, map, slice_get}
use Rattle.std.specs.List.{AllByRecursion}
use Rattle.cs_chunk.specs.Chunks.{IsFrameIn}
use Rattle.cs_chunk.specs.Reads.{IsFrameFront, IsOfFault, fault_in, pages_in}
use Rattle.cs_refusal.specs.declared.refusals.Refusal.{Refusal}
use Rattle.cs_refusal.specs.declared.refusals.Refusal.TheVariants.{DeviceFault, Misplaced, OutOfMemory}
use Rattle.cs_disk.specs.Disk.{Rises}
use Rattle.cs_extent.specs.State.{State as ExtentsState}
use Rattle.cs_frame.specs.declared.frames.FrameKind.TheVariants.{Run}
use Rattle.cs_frame.specs.declared.locators.Locator.{Locator}
use Rattle.cs_frame.specs.declared.faults.FormatFault.TheVariants.{BadPadding}
use Rattle.cs_frame.specs.FormatRuns.{SpellsRun, run_fault}
use Rattle.cs_frame.specs.declared.faults.FormatFault.{FormatFault}
use Rattle.cs_frame.specs.declared.formats.FormatNumber.{FormatNumber}
use Rattle.cs_frame.specs.FormatNumbers.{number_in}
use Rattle.cs_frame.specs.Frames.{first_page, header_fault, payload_in, payload_test}
use Rattle.cs_frame.specs.MeantFrames.{mark_test, meant_header_fault}
use Rattle.cs_frame.specs.Runs.{Entry, entries_of as spelled_entries}
use Rattle.cs_reader.specs.ImageReads.{IsLocated, IsRunRead}
use Rattle.cs_index.specs.declared.stored_runs.StoredRun.{StoredRun}
use Rattle.law_machine.specs.Format.{Format}
use Rattle.law_machine.specs.Formats.{RunFrame}
use Rattle.cs_salvage.specs.declared.rescued_runs.DamagedRun.{DamagedRun}

-- The first page at this place is that of the frame that is meant there, and the payload by its header is that of a run
-- with these entries.
pub record HasMeantRun (x : ExtentsState) (view : ℕ → List ℕ) (place : Locator) (entries : List Entry) : Type 0 where
  pub located : IsLocated x place
  pub marked : mark_test x.format place.mark (first_page (pages_in x view place)) ≡ None
  pub spelled : SpellsRun (payload_in (pages_in x view place)) x.format entries

-- A run's frame lies at this place of which all is right but the zeros behind its payload, some of which are other
-- bytes: that is the first of its faults. It is the frame that is meant there, and has these entries.
pub record HasRunBeforeNoise (x : ExtentsState) (view : ℕ → List ℕ) (place : Locator) (entries : List Entry) : Type 0 where
  pub fault : fault_in x view Run place ≡ Some BadPadding
  pub run : HasMeantRun x view place entries

-- the run was read where its place says: it lies there, or does but for the zeros behind it
abbrev pub IsRunRescued : ExtentsState → (view : ℕ → List ℕ) → StoredRun → Type 0
IsRunRescued x view run = IsRunRead x view run ⊎ HasRunBeforeNoise x view run.place (spelled_entries run.entries.items)

-- the pages are those of a run's frame, by its header and the digest of its payload, whatever follows the payload
pub record HasRightDigest (number : FormatNumber) (pages : List (List ℕ)) : Type 0 where
  pub header : header_fault number 1 (first_page pages) (length pages) ≡ None
  pub digest : payload_test pages ≡ None

-- these pages of a frame have no run, whatever follows the payload
abbrev pub HasNoRun : Format → (pages : List (List ℕ)) → Type 0
HasNoRun format pages = (entries : List Entry) → HasRightDigest (number_in format) pages → SpellsRun (payload_in pages) format entries → ⊥

-- the first of all pages isn't that of the run's frame of this mark
abbrev pub IsOtherHeader : Format → (mark : ℕ) → (all : List (List ℕ)) → Type 0
IsOtherHeader format mark all = (fault : FormatFault) × (meant_header_fault format 1 mark (first_page all) (length all) ≡ Some fault)

-- it is, and the pages are those of that frame
pub record IsMeantFront (format : Format) (mark : ℕ) (all pages : List (List ℕ)) : Type 0 where
  pub meant : meant_header_fault format 1 mark (first_page all) (length all) ≡ None
  pub front : IsFrameFront all pages

-- none lies at this place but for the zeros behind it
abbrev pub NoneBeforeNoise : ExtentsState → (view : ℕ → List ℕ) → Locator → Type 0
NoneBeforeNoise x view place = (entries : List Entry) → HasRunBeforeNoise x view place entries → ⊥

-- What lies at a place isn't the run that is meant there, not even but for the zeros behind it: the place isn't located
-- any more, or the frame there has this fault, or its payload has it.
abbrev pub IsWhyNoRun : ExtentsState → (view : ℕ → List ℕ) → Locator → Refusal → Type 0
IsWhyNoRun x view place r = NoneBeforeNoise x view place × (((¬ IsLocated x place) × (r ≡ Misplaced))
    ⊎ (IsLocated x place × IsOfFault (fault_in x view Run place) r)
    ⊎ (IsLocated x place × ((payload : List ℕ) × IsFrameIn x view RunFrame place payload × IsOfFault (run_fault x.format payload) r)))

-- Reading stopped at this run, the last of those at so many places, oldest first: an honest disk has no run there, or
-- the device failed.
pub record IsStopped (honest : Type 0) (x : ExtentsState) (view : ℕ → List ℕ) (places : List Locator) (left : ℕ) (damaged : DamagedRun) : Type 0 where
  pub some : 0 < left
  pub last : slice_get places (left - 1) ≡ Some damaged.place
  pub answered : damaged.refusal ≢ OutOfMemory
  pub why : honest → (damaged.refusal ≡ DeviceFault) ⊎ IsWhyNoRun x view damaged.place damaged.refusal

-- reading stopped where so many runs were left, the oldest ones: it ended, or the last of them is damaged
abbrev pub IsEndOf : (honest : Type 0) → ExtentsState → (view : ℕ → List ℕ) → (places : List Locator) → (left : ℕ) → Option DamagedRun → Type 0
IsEndOf honest x view places left None = left ≡ 0
IsEndOf honest x view places left (Some damaged) = IsStopped honest x view places left damaged

-- Of the runs at these places, oldest first, the newest were read, up to the first that can't be. So many older ones
-- are left.
pub record AreNewestRead (honest : Type 0) (x : ExtentsState) (view : ℕ → List ℕ) (places : List Locator) (runs : List StoredRun) (damaged : Option DamagedRun) : Type 0 where
  pub left : ℕ
  pub no_more : left ≤ length places
  pub listed : map (λ run. run.place) runs ≡ drop left places
  pub each : honest → AllByRecursion (IsRunRescued x view) runs
  pub end : IsEndOf honest x view places left damaged

-- where the device failed for a run, its count of failures rose meanwhile, or stood at its greatest
abbrev pub IsDamageCaused : (before now : ℕ) → Option DamagedRun → Type 0
IsDamageCaused before now damaged = IfSome damaged (λ d. d.refusal ≡ DeviceFault → Rises before now)
