-- A store whose section 0 records its newest root as persistent.
use Rattle.std.specs.Prelude.{◌≡◌, ◌≢◌, ◌⊎◌, ◌<◌, ◌≤◌, ◌==◌, ◌+◌, ◌^◌, ℕ, Bool, true, false, List, [], Option, Some, None, if◌then◌else◌, slice_index, slice_set}
use Rattle.cs_disk.specs.Disk.{Image, MayLeave, State, flushed, page, seen, written}
use Rattle.cs_core.specs.Stored.{Stored}
use Rattle.cs_core.specs.cs_chunk.Reads.{IsOfFault}
use Rattle.cs_frame.specs.Bytes.{number}
use Rattle.cs_frame.specs.declared.formats.FormatNumber.TheVariants as of_number
use Rattle.cs_frame.specs.declared.superblocks.Superblock.{Superblock}
use Rattle.cs_frame.specs.declared.locators.Locator.{Locator}
use Rattle.cs_frame.specs.Geometries.{Dimensions}
use Rattle.cs_frame.specs.Roots.{SpellsRoot, identity_in, root_fault}
use Rattle.cs_frame.specs.Superblocks.{format_in, spelled_superblock, superblock_extents, superblock_fault, superblock_record, superblock_version}
use Rattle.cs_refusal.specs.declared.refusals.Refusal.{Refusal}
use Rattle.cs_refusal.specs.declared.refusals.Refusal.TheVariants.{WornOut}
use Rattle.cs_mount.specs.StorePairs.{store_shape}

-- a section's page of format 4, one version later, with the root of this version on record. All else in it is the same
abbrev pub sealed_page : (root : ℕ) → List ℕ → List ℕ
sealed_page root bytes =
    spelled_superblock (format_in of_number.Four bytes) (superblock_version bytes + 1) root (number 12 14 bytes) (number 14 16 bytes) (slice_index bytes 16) (slice_index bytes 17)
    (superblock_extents of_number.Four bytes)

-- the version of the root that page 1 spells
abbrev pub root_said : Image → ℕ
root_said image = number 4 12 (page image 1)

-- section 0 records that root
abbrev pub is_sealed : Image → Bool
is_sealed image = superblock_record of_number.Four (page image 0) == root_said image

-- the page that section 0 has then
abbrev pub seal_of : Image → List ℕ
seal_of image = sealed_page (root_said image) (page image 0)

-- the image of a store that is sealed: itself if it was already
abbrev pub sealed_image : Image → Image
sealed_image image = if is_sealed image then image else slice_set image 0 (seal_of image)

-- how many calls of a disk seal it: none if it was sealed already, else a write and a flush
abbrev pub seal_calls : Image → ℕ
seal_calls image = if is_sealed image then 0 else 2

-- Why a store isn't sealed: section 0 has this fault; or the root has; or the version of section 0 is the last.
abbrev pub IsWhyUnsealed : Image → Refusal → Type 0
IsWhyUnsealed image r = IsOfFault (superblock_fault of_number.Four (page image 0)) r ⊎ IsOfFault (root_fault of_number.Four (page image 1)) r
    ⊎ ((r ≡ WornOut) × (2 ^ 63 ≤ superblock_version (page image 0) + 1))

-- Section 0 isn't sealed, and one version later it is written anew.
pub record IsSealing (s t : State) : Type 0 where
  pub not_yet : is_sealed (seen s) ≡ false
  pub unworn : superblock_version (page (seen s) 0) + 1 < 2 ^ 63
  pub write : t ≡ written s 0 (seal_of (seen s))

-- It was sealed already, and is as it was; or it was sealed, and flushed.
abbrev pub IsResealed : State → State → Type 0
IsResealed s t = ((is_sealed (seen s) ≡ true) × (t ≡ s)) ⊎ ((w : State) × IsSealing s w × (t ≡ flushed w))

-- an image that a crash before it or after its write may leave
abbrev pub LeavesSealing : State → Image → Type 0
LeavesSealing s image = MayLeave s image ⊎ ((w : State) × IsSealing s w × MayLeave w image)

-- The page that seals a store of which section 0 is this one and the root has this version: none if it is on record.
abbrev pub IsSealFor : Superblock → (root : ℕ) → Option (List ℕ) → Type 0
IsSealFor it root None = it.recorded ≡ root
IsSealFor it root (Some bytes) = (it.recorded ≢ root) × (it.version + 1 < 2 ^ 63)
    × (bytes ≡ spelled_superblock it.format (it.version + 1) root it.extent_count it.pages it.sections it.section it.extents.items)

-- the page that seals an image
abbrev pub IsSealOf : Image → Option (List ℕ) → Type 0
IsSealOf image None = is_sealed image ≡ true
IsSealOf image (Some bytes) = (is_sealed image ≡ false) × (superblock_version (page image 0) + 1 < 2 ^ 63) × (bytes ≡ seal_of image)

-- Nothing waits to be written, and no round is out.
pub record IsQuiet (s : Stored) : Type 0 where
  pub none_waits : s.graph.staging.pending.waiting ≡ []
  pub none_out : s.out ≡ None

-- The image has the sections of that one, and its page 1 spells an older root of the store.
pub record HasOlderRoot (d : Dimensions) (before after : Image) : Type 0 where
  pub sections : (j : ℕ) → j < d.sections → page after ((store_shape d).section_page j) ≡ page before ((store_shape d).section_page j)
  pub version : ℕ
  pub commands : ℕ
  pub places : List Locator
  pub root : SpellsRoot (page after 1) (identity_in d.format) version commands places
  pub older : version < root_said before
