-- A store of which an extent is left out.
use Rattle.std.specs.Prelude.{◌≡◌, ◌≢◌, ◌⊎◌, ◌+◌, ◌-◌, ◌<◌, ◌≤◌, ◌^◌, ℕ, Bool, List, MatchBool, None, if◌then◌else◌, slice_index, slice_index_or, slice_set}
use Rattle.cs_core.specs.Stored.{Stored}
use Rattle.cs_core.specs.Unstaged.{NothingToStage}
use Rattle.cs_disk.specs.Disk.{Image, MayLeave, State, flushed, page, seen, written}
use Rattle.cs_frame.specs.Bytes.{number}
use Rattle.cs_frame.specs.declared.formats.FormatNumber.TheVariants as of_number
use Rattle.cs_frame.specs.declared.superblocks.Superblock.{Superblock}
use Rattle.cs_frame.specs.Formats.{formats_of}
use Rattle.cs_frame.specs.Geometries.{Dimensions, section_start}
use Rattle.cs_frame.specs.Superblocks.{format_in, spelled_superblock, superblock_extents, superblock_record, superblock_version}
use Rattle.law_machine.specs.Device.{Shape}
use Rattle.law_machine.specs.Element.{Locator, Map, Run}
use Rattle.law_machine.specs.Formats.{Formats, damage_in}
use Rattle.law_machine.specs.Index.{entries_of, live_at}
use Rattle.law_machine.specs.Lists.{◌∈◌}
use Rattle.law_machine.specs.Recovery.{Recovers}
use Rattle.cs_mount.specs.Resectioned.{Lives}
use Rattle.cs_mount.specs.Seals.{IsQuiet}
use Rattle.cs_mount.specs.StorePairs.{store_shape}

-- none of these runs lies on the extent, and no chunk that lives
abbrev pub NothingOn : List Run → (extent : ℕ) → Type 0
NothingOn runs e = (l : Locator) → Lives runs l → l.extent ≢ e

-- the row of an extent of so many pages that is left out. All its pages are given. If something lives there it has its
-- generation, so it is full, and may be swept. Else it has the greatest generation, and is never emptied
abbrev pub left_out_row : (pages : ℕ) → (lives : Bool) → (row : ℕ × ℕ) → ℕ × ℕ
left_out_row pages lives row = (pages, if lives then row.1 else 4294967295)

-- the rows of a section with the row at this place so
abbrev pub left_out_rows : (pages : ℕ) → (lives : Bool) → (place : ℕ) → List (ℕ × ℕ) → List (ℕ × ℕ)
left_out_rows pages lives place rows = slice_set rows place (left_out_row pages lives (slice_index_or rows place (0, 0)))

-- a section's page of format 4, one version later, with the row at this place so. All else in it is the same
abbrev pub left_out_page : (lives : Bool) → (place : ℕ) → List ℕ → List ℕ
left_out_page lives place bytes =
    spelled_superblock (format_in of_number.Four bytes) (superblock_version bytes + 1) (superblock_record of_number.Four bytes) (number 12 14 bytes) (number 14 16 bytes) (slice_index bytes 16)
    (slice_index bytes 17) (left_out_rows (number 14 16 bytes) lives place (superblock_extents of_number.Four bytes))

-- on which page an extent's row stands, and at which place of the section
abbrev pub row_page : Dimensions → (extent : ℕ) → ℕ
row_page d e = (store_shape d).section_page ((store_shape d).section e)

abbrev pub row_place : Dimensions → (extent : ℕ) → ℕ
row_place d e = e - section_start d.extents d.sections ((store_shape d).section e)

-- the image of a store of these dimensions of which the extent is left out
abbrev pub left_out_image : Dimensions → (extent : ℕ) → (lives : Bool) → Image → Image
left_out_image d e lives image = slice_set image (row_page d e) (left_out_page lives (row_place d e) (page image (row_page d e)))

-- no live chunk on the extent is damaged
abbrev pub NoneDamagedOn : (S : Shape) (F : Formats) → (image : Image) → List Run → (pointers generations : ℕ → ℕ) → (extent : ℕ) → Type 0
NoneDamagedOn S F image runs p g e = (id : ℕ) (l : Locator) → l ∈ live_at (entries_of runs) id → l.extent ≡ e → damage_in S F (page image) p g l ≡ None

-- Nothing waits, no round is out, and there is nothing to stage a root for.
pub record IsAtRest (s : Stored) : Type 0 where
  pub quiet : IsQuiet s
  pub staged : NothingToStage s

-- The image is that one with the extent left out, as something of these runs lives there or not.
abbrev pub IsLeftOut : Dimensions → (extent : ℕ) → List Run → (before after : Image) → Type 0
IsLeftOut d e runs before after = (lives : Bool) × MatchBool lives (¬ NothingOn runs e) (NothingOn runs e) × (after ≡ left_out_image d e lives before)

-- The section of an extent is written anew with the extent's row so, one version later.
pub record IsCrossing (d : Dimensions) (e : ℕ) (lives : Bool) (s t : State) : Type 0 where
  pub unworn : superblock_version (page (seen s) (row_page d e)) + 1 < 2 ^ 63
  pub write : t ≡ written s (row_page d e) (left_out_page lives (row_place d e) (page (seen s) (row_page d e)))

-- that was done, and flushed
abbrev pub IsCrossed : Dimensions → (extent : ℕ) → (lives : Bool) → State → State → Type 0
IsCrossed d e lives s t = (w : State) × IsCrossing d e lives s w × (t ≡ flushed w)

-- an image that a crash before it or after its write may leave
abbrev pub LeavesCrossing : Dimensions → (extent : ℕ) → (lives : Bool) → State → Image → Type 0
LeavesCrossing d e lives s image = MayLeave s image ⊎ ((w : State) × IsCrossing d e lives s w × MayLeave w image)

-- the section of the extent has the last version
abbrev pub IsRowWorn : Dimensions → (extent : ℕ) → Image → Type 0
IsRowWorn d e image = 2 ^ 63 ≤ superblock_version (page image (row_page d e)) + 1

-- The section one version later, with the row at a place so.
pub record HasRowLeftOut (it : Superblock) (place : ℕ) (lives : Bool) (anew : Superblock) : Type 0 where
  pub format : anew.format ≡ it.format
  pub version : anew.version ≡ it.version + 1
  pub recorded : anew.recorded ≡ it.recorded
  pub extent_count : anew.extent_count ≡ it.extent_count
  pub pages : anew.pages ≡ it.pages
  pub sections : anew.sections ≡ it.sections
  pub section : anew.section ≡ it.section
  pub rows : anew.extents.items ≡ left_out_rows it.pages lives place it.extents.items

-- the page with which the section of an extent is written anew
abbrev pub IsCrossingPage : Dimensions → (extent : ℕ) → (lives : Bool) → Image → List ℕ → Type 0
IsCrossingPage d e lives image bytes = (superblock_version (page image (row_page d e)) + 1 < 2 ^ 63) × (bytes ≡ left_out_page lives (row_place d e) (page image (row_page d e)))

-- an image that a crash before it may leave, or one that recovers these commands and this map
abbrev pub LeavesTheMap : State → Shape → (n : ℕ) → Map → Image → Type 0
LeavesTheMap s S n m image = MayLeave s image ⊎ Recovers S (formats_of S) (page image) n m
