-- What a core was opened on.
use Rattle.std.specs.Prelude.{ℕ, []}
use Rattle.cs_disk.specs.Disk.{Image}
use Rattle.cs_extent.specs.State.{shape}
use Rattle.cs_frame.specs.Geometries.{section_size}
use Rattle.law_machine.specs.Device.{Shape}
use Rattle.law_machine.specs.Format.{Format, Two}
use Rattle.law_machine.specs.Geometry.{shape_of}
use Rattle.cs_core.specs.Views.{View}

-- the image that was on the disk when the core was opened, the format of the store, how many extents it has, of how
-- many pages, in how many sections of the superblock, and how many events its history may have
pub record Start : Type 0 where
  pub opened : Image
  pub format : Format
  pub extents : ℕ
  pub pages : ℕ
  pub sections : ℕ
  pub limit : ℕ

-- the shape of such a store
abbrev pub shape_at : Start → Shape
shape_at start = shape_of start.extents start.pages start.sections (section_size start.extents start.sections) start.format

-- what this core was opened on
abbrev pub start_of : {D : Type 0} → View D → Start
start_of v = record {
  opened = v.opened;
  format = (shape v.store.extents).format;
  extents = (shape v.store.extents).extents;
  pages = (shape v.store.extents).pages;
  sections = (shape v.store.extents).sections;
  limit = v.limit;
}

-- the start of no core
abbrev pub no_start : Start
no_start = record { opened = []; format = Two; extents = 4; pages = 2; sections = 1; limit = 0 }
