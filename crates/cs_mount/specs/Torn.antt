-- What a crash may leave of the device below a store, where it tears the pages that were being written.
use Rattle.std.specs.Prelude.{◌≢◌, ◌⊎◌, ◌-◌, ℕ, List, None, Option, Some, length}
use Rattle.cs_disk.specs.Disk.{Image, State as DiskState, page}
use Rattle.cs_core.specs.cs_extent.State.{State as ExtentsState, shape}
use Rattle.cs_core.specs.Views.{View}
use Rattle.cs_frame.specs.Formats.{formats_of}
use Rattle.law_machine.specs.Element.{Map}
use Rattle.law_machine.specs.Recovery.{Recovers}
use Rattle.cs_frame.specs.FirstFormat.{page_zero_fault}
use Rattle.cs_frame.specs.declared.faults.FormatFault.{FormatFault}
use Rattle.cs_frame.specs.declared.formats.FormatNumber.TheVariants as of_number
use Rattle.cs_frame.specs.Superblocks.{superblock_fault}
use Rattle.cs_frame.specs.Geometries.{Dimensions}
use Rattle.cs_mount.specs.StorePairs.{pages_of, store_pairs, store_version}
use Rattle.cs_twin.specs.Tears.{IsLeft, IsMixed, MayTear, MixesTwo}

-- P, if the image that the store was opened on recovers a map
abbrev pub IfRecovered : {D : Type 0} → View D → Type 0 → Type 0
IfRecovered v P = (count : ℕ) (start : Map) → Recovers (shape v.store.extents) (formats_of (shape v.store.extents)) (page v.opened) count start → P

-- the dimensions of a store with these extents
abbrev pub dimensions_of : ExtentsState → Dimensions
dimensions_of x = record { format = x.format; extents = length x.written; pages = x.pages; sections = x.sections }

-- What is assumed of digests again, of a half of section 0, by what is wrong with its bytes in a format. If it mixes two
-- pages, each whole or a fence, it holds one of them, or it is whole in no format. If it holds no mixture, it is whole in
-- no format. So it is never whole as a page of another store.
pub record IsTold (d : Dimensions) (device : DiskState) (image : Image) (p : ℕ) (fault : List ℕ → Option FormatFault) : Type 0 where
  pub mixed : IsMixed device p (page image p) ⊎ (fault (page image p) ≢ None)
  pub told : MixesTwo (store_version (Some d)) (store_pairs d) device p → IsMixed device p (page image p) → IsLeft device p (page image p) ⊎ (fault (page image p) ≢ None)

-- A crash of this device leaves this image, torn at any byte. An opening reads page 0 in each format, and the last page
-- in format 4.
pub record MayTearStore (d : Dimensions) (device : DiskState) (image : Image) : Type 0 where
  pub tears : MayTear (store_version (Some d)) (store_pairs d) device image
  pub first : IsTold d device image 0 page_zero_fault
  pub last : IsTold d device image (pages_of d - 1) (superblock_fault of_number.Four)
