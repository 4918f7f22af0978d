-- What a line `crash` does, and what it prints.
use Rattle.std.specs.Prelude.{◌≡◌, ◌⊎◌, ◌++◌, ◌↔◌, ℕ, Bool, List, [], count_by, length}
use Rattle.cs_writeback.specs.cs_chunk.Reads.{IsNoAnswer}
use Rattle.cs_refusal.specs.declared.refusals.Refusal.{Refusal}
use Rattle.cs_refusal.specs.declared.refusals.Refusal.TheVariants.{DeviceFault}
use Rattle.cs_disk.specs.declared.disk.PageDisk.{Ghosts as PageDisk}
use Rattle.cs_disk.specs.Disk.{Rises, crashed, flushed, page, seen}
use Rattle.cs_writeback.specs.cs_extent.State.{shape}
use Rattle.cs_writeback.specs.cs_reader.Openings.{IsOpeningRefusal, IsWhyNotOpened}
use Rattle.cs_writeback.specs.cs_core.Openings.{IsOpened}
use Rattle.cs_writeback.specs.cs_core.Views.{IsFound, View}
use Rattle.cs_script.specs.Lines.{Said, says_crash}
use Rattle.cs_script.specs.Outputs.{crash_line, open_line, refusal_line}

-- for how many a mask says true
abbrev pub kept_count : List Bool → ℕ
kept_count mask = count_by (λ b. b) mask

-- a line `crash` that fits the disk: the disk can crash, and the line has one digit for each of its volatile writes
abbrev pub IsCrash : {D : Type 0} → (can_crash : D → Type 0) → (volatile_count : D → ℕ) → Said → View D → List Bool → Type 0
IsCrash can_crash volatile_count said v mask = (said ≡ says_crash mask) × can_crash v.disk × (length mask ≡ volatile_count v.disk)

module _ {D : Type 0} (disks : PageDisk D) (can_crash : D → Type 0) (volatile_count : D → ℕ) where
  -- The disk crashed, and kept those of its volatile writes for which the mask says true.
  pub record IsCrashed (mask : List Bool) (before after : D) : Type 0 where
    pub image : disks.honest before → disks.state after ≡ crashed (disks.state before) mask
    pub stays_honest : disks.honest before ↔ disks.honest after
    pub pages : disks.page_count after ≡ disks.page_count before
    pub failures : disks.failure_count after ≡ disks.failure_count before

  -- The store on a disk is opened: a core with an empty history and the same limit, and with the numbers of the image.
  pub record IsReopened (disk : D) (limit : ℕ) (new : View D) : Type 0 where
    pub history : new.history ≡ []
    pub base : new.base ≡ 0
    pub limit_is : new.limit ≡ limit
    pub image : disks.honest disk → (new.opened ≡ seen (disks.state disk)) × (disks.state new.disk ≡ flushed (disks.state disk))
    pub store : IsOpened (disks.honest disk) new.opened new.found new.store
    pub found : disks.honest disk → IsFound (shape new.store.extents) new.opened new.found
    pub stays_honest : disks.honest disk ↔ disks.honest new.disk

  -- the core that goes on after a crash
  abbrev pub Reopens : List Bool → (old new : View D) → Type 0
  Reopens mask old new = (disk : D) × IsCrashed mask old.disk disk × IsReopened disk old.limit new

  -- Opening a store on a disk answers this refusal. The disk was flushed or left as it was, and 1 is answered only
  -- where it failed.
  pub record IsOpeningRefused (disk : D) (r : Refusal) : Type 0 where
    pub after : D
    pub number : IsOpeningRefusal r
    pub why : disks.honest disk → IsNoAnswer r ⊎ IsWhyNotOpened (disks.page_count disk) (page (seen (disks.state disk))) r
    pub kept : disks.honest disk → (disks.state after ≡ disks.state disk) ⊎ (disks.state after ≡ flushed (disks.state disk))
    pub stays_honest : disks.honest disk ↔ disks.honest after
    pub pages : disks.page_count after ≡ disks.page_count disk
    pub cause : r ≡ DeviceFault → Rises (disks.failure_count disk) (disks.failure_count after)

  -- no store is opened after a crash
  abbrev pub IsNotReopened : List Bool → View D → Refusal → Type 0
  IsNotReopened mask old r = (disk : D) × IsCrashed mask old.disk disk × IsOpeningRefused disk r

  -- the disk crashes, and the store that is left is opened: it is printed how many of the volatile writes were kept,
  -- and the numbers with which the core was opened
  abbrev pub Crashes : List Bool → (old new : View D) → List ℕ → Type 0
  Crashes mask old new out = Reopens mask old new × (out ≡ crash_line (kept_count mask) (length mask) ++ open_line new.found.0 new.found.1)

  -- the disk crashes, and the store that is left isn't opened for this reason: that is printed
  abbrev pub CrashesUnder : Said → View D → Refusal → List ℕ → Type 0
  CrashesUnder said old r out = (mask : List Bool) × IsCrash can_crash volatile_count said old mask × IsNotReopened mask old r
      × (out ≡ crash_line (kept_count mask) (length mask) ++ refusal_line r)

  -- the disk crashes, and the store that is left isn't opened: that is printed
  abbrev pub CrashesForGood : Said → View D → List ℕ → Type 0
  CrashesForGood said old out = (r : Refusal) × CrashesUnder said old r out
