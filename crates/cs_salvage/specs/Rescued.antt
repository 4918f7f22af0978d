-- A store that is read for what can be got of it, and why none is.
use Rattle.std.specs.Prelude.{◌≡◌, ◌⊎◌, ◌<◌, ℕ, List, MatchBool, Option, length, slice_index}
use Rattle.cs_refusal.specs.declared.refusals.Refusal.{Refusal}
use Rattle.cs_refusal.specs.declared.refusals.Refusal.TheVariants.{NotAStore}
use Rattle.cs_frame.specs.declared.locators.Locator.{Locator}
use Rattle.cs_frame.specs.Geometries.{IsGeometry, device_pages}
use Rattle.cs_frame.specs.Roots.{SpellsRoot, identity_in}
use Rattle.cs_reader.specs.Loads.{index_at}
use Rattle.cs_extent.specs.State.{extents_at}
use Rattle.cs_reader.specs.ImageReads.{AreSectionsRead}
use Rattle.cs_index.specs.declared.stored_runs.StoredRun.{StoredRun}
use Rattle.cs_index.specs.State.{newest_first}
use Rattle.law_machine.specs.Format.{Format}
use Rattle.law_machine.specs.Geometry.{weigh_in}
use Rattle.law_machine.specs.Index.{entries_of, named_weight}
use Rattle.cs_reader.specs.Openings.{AreRecordedBy, IsOtherDevice, IsOtherRoot, IsOtherSection, IsRootDamaged, IsRootRead, IsSectionDamaged, IsSuperblockDamaged, IsTooSmall}
use Rattle.cs_salvage.specs.declared.rescued_runs.DamagedRun.{DamagedRun}
use Rattle.cs_salvage.specs.Founds.{Found}
use Rattle.cs_salvage.specs.Runs.{AreNewestRead}

-- what the newest entries may weigh together: as much as any index takes
abbrev pub most_taken : ℕ
most_taken = 536870911

-- The index is that of the newest of the runs at these places, up to the first that can't be read.
pub record IsOfNewest (honest : Type 0) (view : ℕ → List ℕ) (f : Found) : Type 0 where
  pub runs : List StoredRun
  pub newest : AreNewestRead honest f.extents view f.places runs f.damaged
  pub index : f.index ≡ index_at (newest_first runs) f.extents.format most_taken

-- This was read of a device of so many pages, which an honest disk has. It is the sections of a superblock with these
-- versions, extents, and records of the root, then the root, whatever they record of it, and of its runs the newest.
pub record IsFoundIn (honest : Type 0) (count : ℕ) (view : ℕ → List ℕ) (format : Format) (versions records : List ℕ) (pages : ℕ) (written : List (ℕ × ℕ)) (f : Found) : Type 0 where
  pub sized : count ≡ device_pages format (length written) pages (length versions)
  pub geometry : IsGeometry format (length written) pages (length versions)
  pub extents : f.extents ≡ extents_at format pages (length versions) written
  pub sections : honest → AreSectionsRead view format versions records pages written
  pub root : honest → SpellsRoot (view 1) (identity_in format) f.root f.commands f.places
  pub lost : MatchBool f.lost ((j : ℕ) × (j < length versions) × (f.root < slice_index records j)) (AreRecordedBy (length versions) records f.root)
  pub runs : IsOfNewest honest view f

-- the same of some superblock
abbrev pub IsRescued : (honest : Type 0) → (count : ℕ) → (view : ℕ → List ℕ) → Found → Type 0
IsRescued honest count view f = (format : Format) × (versions : List ℕ) × (records : List ℕ) × (pages : ℕ) × (written : List (ℕ × ℕ)) × IsFoundIn honest count view format versions records pages written f

-- The newest entries of the root's newest runs, up to the first that can't be read, weigh more than those of any index.
pub record IsTooHeavy (count : ℕ) (view : ℕ → List ℕ) (r : Refusal) : Type 0 where
  pub format : Format
  pub versions : List ℕ
  pub records : List ℕ
  pub pages : ℕ
  pub written : List (ℕ × ℕ)
  pub places : List Locator
  pub root : IsRootRead count view format versions records pages written places
  pub runs : List StoredRun
  pub damaged : Option DamagedRun
  pub read : AreNewestRead (Unit {0}) (extents_at format pages (length versions) written) view places runs damaged
  pub heavy : most_taken < named_weight (weigh_in format) (entries_of (newest_first runs))
  pub refusal : r ≡ NotAStore

-- why nothing is got of a device of so many pages, which read as these: the first of these tests that fails
abbrev pub IsWhyNotRescued : (count : ℕ) (view : ℕ → List ℕ) → Refusal → Type 0
IsWhyNotRescued count view r = IsTooSmall count r ⊎ IsSuperblockDamaged count view r ⊎ IsOtherSection count view r ⊎ IsOtherDevice count view r
    ⊎ IsSectionDamaged count view r ⊎ IsRootDamaged count view r ⊎ IsOtherRoot count view r ⊎ IsTooHeavy count view r
