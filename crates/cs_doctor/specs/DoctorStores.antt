-- What is told of a store that is opened for a diagnosis, and what is left of its disk.
use Rattle.std.specs.Prelude.{◌≡◌, ◌≢◌, ◌⊎◌, ◌↔◌, ◌<◌, ◌-◌, ◌^◌, ℕ, Bool, true, false, Contains, List, [], ◌∷◌, None, MatchResult, MatchOption, length, map}
use Rattle.std.specs.List.{AllZip}
use Rattle.cs_core.specs.Openings.{IsOpened}
use Rattle.cs_core.specs.Stored.{Stored}
use Rattle.cs_disk.specs.declared.disk.PageDisk.{Ghosts as PageDisk}
use Rattle.cs_disk.specs.Disk.{Image, Rises, State, Write, flushed, page}
use Rattle.cs_extent.specs.State.{State as ExtentsState, extents_of, shape}
use Rattle.cs_frame.specs.declared.locators.Locator.{Locator}
use Rattle.cs_index.specs.declared.stored_runs.StoredRun.{StoredRun}
use Rattle.cs_inspect.specs.Scrubs.{IsScrubbed}
use Rattle.cs_mount.specs.Identities.{AreOfTwo}
use Rattle.cs_mount.specs.MadeSections.{AreMadeOn}
use Rattle.cs_mount.specs.Remaking.{remade}
use Rattle.cs_mount.specs.Showing.{shown_on}
use Rattle.cs_reader.specs.Counts.{HasCount}
use Rattle.cs_reader.specs.Heads.{IsHeadRead, IsWhyNoHead}
use Rattle.cs_reader.specs.ImageReads.{IsRunRead}
use Rattle.cs_reader.specs.Openings.{IsWhyNotOpened, IsWhyNotRead}
use Rattle.cs_reader.specs.declared.heads.Head.{Head}
use Rattle.cs_refusal.specs.declared.refusals.Refusal.{Refusal}
use Rattle.cs_refusal.specs.declared.refusals.Refusal.TheVariants.{BadDigest, BadLength, BadMagic, BadPadding, BadVersion, DeviceFault, NotAStore}
use Rattle.law_machine.specs.Element.{Map}
use Rattle.cs_doctor.specs.declared.diagnoses.HeadFound.{HeadFound}
use Rattle.cs_doctor.specs.declared.diagnoses.Opening.{Opening}
use Rattle.cs_doctor.specs.declared.diagnoses.Opening.TheVariants.{Opened, Refused}
use Rattle.cs_doctor.specs.declared.diagnoses.RootFound.{RootFound}
use Rattle.cs_doctor.specs.declared.diagnoses.RunFound.{RunFound}

-- ---- what is told of runs

-- a run was read at this place, with so many entries; or this is why it wasn't, 1 only where the disk's count of failures rose from the one to the other
pub record IsRunFound (x : ExtentsState) (view : ℕ → List ℕ) (before after : ℕ) (place : Locator) (found : RunFound) : Type 0 where
  pub at : found.place ≡ place
  pub read : MatchResult found.entries (λ n. (run : StoredRun) × IsRunRead x view run × (run.place ≡ place) × (n ≡ length run.entries.items))
      (λ r. ((r ≡ DeviceFault) × Rises before after) ⊎ IsWhyNotRead x view place r)

-- and at each of these places
abbrev pub AreRunsFound : ExtentsState → (view : ℕ → List ℕ) → (before after : ℕ) → List Locator → List RunFound → Type 0
AreRunsFound x view before after places found = AllZip (IsRunFound x view before after) places found

-- the generation of these extents is the greatest, and that of no other
abbrev pub AreWorn : ExtentsState → List ℕ → Type 0
AreWorn x worn = (e : ℕ) → Contains worn e ↔ ((e < (shape x).extents) × ((extents_of x).generation e ≡ 2 ^ 32 - 1))

-- what a root says that was read
abbrev pub root_of : Head → RootFound
root_of head = record { version = head.root.version; commands = head.root.commands; lost = head.root_lost }

-- superblock and root of a device of so many pages, which read as these, were read, and the root's runs; or this is why they weren't
pub record IsOfHead (count : ℕ) (view : ℕ → List ℕ) (before after : ℕ) (runs : List RunFound) (worn : List ℕ) (root : RootFound) : Type 0 where
  pub head : Head
  pub read : IsHeadRead (Unit {0}) count view head
  pub root_is : root ≡ root_of head
  pub runs_are : AreRunsFound head.extents view before after head.root.runs.items runs
  pub worn_are : AreWorn head.extents worn

abbrev pub IsHeadFound : (count : ℕ) → (view : ℕ → List ℕ) → (before after : ℕ) → HeadFound → Type 0
IsHeadFound count view before after found =
    MatchOption found.root (Rises before after ⊎ ((r : Refusal) × IsWhyNoHead count view r)) (IsOfHead count view before after found.runs.items found.worn.items)

-- ---- whether it opens

-- A device of so many pages, which holds this image, was opened: a store was made of what was read, with so many shards, and this is what a scrub
-- of it found. Or this is why it wasn't: 1, or a test that fails.
abbrev pub IsOpeningOn : (count : ℕ) → Image → Opening → Type 0
IsOpeningOn count image (Opened shards scrubbed) =
    (store : Stored) × (commands : ℕ) × IsOpened (Unit {0}) image (commands, shards) store × IsScrubbed store.extents (page image) store.index scrubbed
IsOpeningOn count image (Refused r rest) = (r ≡ DeviceFault) ⊎ IsWhyNotOpened count (page image) r

-- it is refused so
abbrev pub IsRefusedAs : Refusal → Opening → Type 0
IsRefusedAs why (Opened shards scrubbed) = ⊥
IsRefusedAs why (Refused r rest) = r ≡ why

-- The same of a device as it shows, the newest page of each pair for both: or it holds pages of two stores.
abbrev pub IsOpeningShown : (count : ℕ) → Image → Opening → Type 0
IsOpeningShown count image opening = IsOpeningOn count (shown_on count image) opening ⊎ (AreOfTwo count image × IsRefusedAs NotAStore opening)

-- it opens with as many shards as the map has, or the device refused
abbrev pub OpensAs : Map → Opening → Type 0
OpensAs m (Opened shards scrubbed) = HasCount (λ id. m id ≢ None) shards
OpensAs m (Refused r rest) = r ≡ DeviceFault

-- ---- whether it opens with sections that are made

-- A store that is refused so may lack a section: a page isn't whole, or no superblock is found.
abbrev pub may_lack_section : Refusal → Bool
may_lack_section BadMagic = true
may_lack_section BadDigest = true
may_lack_section BadLength = true
may_lack_section BadPadding = true
may_lack_section BadVersion = true
may_lack_section NotAStore = true
may_lack_section other = false

-- it is refused, and may lack a section
abbrev pub may_lack : Opening → Bool
may_lack (Opened shards scrubbed) = false
may_lack (Refused r rest) = may_lack_section r

-- it opens
abbrev pub opens : Opening → Bool
opens (Opened shards scrubbed) = true
opens (Refused r rest) = false

-- A device that holds this image was found to be refused so as it lies, and may lack sections. They are made by these
-- writes.
pub record LacksSections (count : ℕ) (image : Image) (before : Opening) (writes : List Write) : Type 0 where
  pub refused : may_lack before ≡ true
  pub as_it_lies : IsOpeningShown count image before
  pub some : writes ≢ []
  pub are_made : AreMadeOn count image writes

-- It does, and with the sections that are made on these pages it was found to open so.
pub record IsOpenedRemade (count : ℕ) (image : Image) (made : List ℕ) (opening : Opening) : Type 0 where
  pub before : Opening
  pub writes : List Write
  pub lacks : LacksSections count image before writes
  pub on_pages : made ≡ map (λ w. w.0) writes
  pub does_open : opens opening ≡ true
  pub shown : IsOpeningShown count (remade writes image) opening

-- What was found of it. If no page is listed on which a section was made, that is so as it lies.
abbrev pub IsOpeningFound : (count : ℕ) → Image → (made : List ℕ) → Opening → Type 0
IsOpeningFound count image [] opening = IsOpeningShown count image opening
IsOpeningFound count image (page ∷ made) opening = IsOpenedRemade count image (page ∷ made) opening

-- ---- what is left of its disk

-- a disk holds what it held, or that made durable
abbrev pub IsStateKept : (old new : State) → Type 0
IsStateKept old new = (new ≡ old) ⊎ (new ≡ flushed old)

-- Nothing was written to a disk, where it is honest.
pub record IsKept {D : Type 0} (disks : PageDisk D) (old new : D) : Type 0 where
  pub honesty : disks.honest old ↔ disks.honest new
  pub pages : disks.page_count new ≡ disks.page_count old
  pub state : disks.honest old → IsStateKept (disks.state old) (disks.state new)

-- nor to the device below it
pub record IsUnwritten {D : Type 0} (disks : PageDisk D) (old new : D) : Type 0 where
  pub kept : IsKept disks old new
  pub device : disks.honest old → IsStateKept (disks.device old) (disks.device new)
