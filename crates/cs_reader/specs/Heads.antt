-- The head of a store, as it is read, and why none is.
use Rattle.std.specs.Prelude.{◌≡◌, ◌⊎◌, ◌<◌, ℕ, List, MatchBool, length, slice_index}
use Rattle.cs_refusal.specs.declared.refusals.Refusal.{Refusal}
use Rattle.cs_frame.specs.Geometries.{IsGeometry, device_pages}
use Rattle.cs_frame.specs.Roots.{SpellsRoot, identity_in}
use Rattle.cs_reader.specs.Loads.{graph_at}
use Rattle.cs_extent.specs.State.{extents_at}
use Rattle.cs_reader.specs.ImageReads.{AreSectionsRead}
use Rattle.cs_reader.specs.declared.heads.Head.{Head}
use Rattle.cs_reader.specs.Openings.{AreRecordedBy, IsOtherDevice, IsOtherRoot, IsOtherSection, IsRootDamaged, IsSectionDamaged, IsSuperblockDamaged}
use Rattle.law_machine.specs.Format.{Format}

-- This head was read of a device of so many pages, which an honest disk has: sections of a superblock with these versions, extents, and records
-- of the root, then the root, whatever they record of it.
pub record IsHeadRead (honest : Type 0) (count : ℕ) (view : ℕ → List ℕ) (head : Head) : Type 0 where
  pub format : Format
  pub versions : List ℕ
  pub records : List ℕ
  pub pages : ℕ
  pub written : List (ℕ × ℕ)
  pub sized : count ≡ device_pages format (length written) pages (length versions)
  pub geometry : IsGeometry format (length written) pages (length versions)
  pub extents : head.extents ≡ extents_at format pages (length versions) written
  pub graph : head.graph ≡ graph_at versions head.root.version
  -- whatever the disk, these are a root's numbers and places
  pub some_root : (bytes : List ℕ) × SpellsRoot bytes (identity_in format) head.root.version head.root.commands head.root.runs.items
  pub lost : MatchBool head.root_lost ((j : ℕ) × (j < length versions) × (head.root.version < slice_index records j)) (AreRecordedBy (length versions) records head.root.version)
  pub sections : honest → AreSectionsRead view format versions records pages written
  pub root : honest → SpellsRoot (view 1) (identity_in format) head.root.version head.root.commands head.root.runs.items

-- why no head is read of a device of so many pages, which read as these: the first of these tests that fails
abbrev pub IsWhyNoHead : (count : ℕ) → (view : ℕ → List ℕ) → Refusal → Type 0
IsWhyNoHead count view r = IsSuperblockDamaged count view r ⊎ IsOtherSection count view r ⊎ IsOtherDevice count view r
    ⊎ IsSectionDamaged count view r ⊎ IsRootDamaged count view r ⊎ IsOtherRoot count view r
