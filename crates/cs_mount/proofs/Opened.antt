-- What is opened, by another fact that says that the disk is honest.
use Rattle.std.proofs.Common.{ℕ}
use Rattle.cs_core.specs.Openings.{IsOpened}
use Rattle.cs_core.specs.Stored.{Stored}
use Rattle.cs_disk.specs.Disk.{Image}

pub opened_by : (honest other : Type 0) (image : Image) (found : ℕ × ℕ) (store : Stored) → (other → honest) → IsOpened honest image found store → IsOpened other image found store
opened_by honest other image found store says it = record {
  format = it.format;
  versions = it.versions;
  records = it.records;
  pages = it.pages;
  written = it.written;
  root = it.root;
  runs = it.runs;
  extents = it.extents;
  opened = it.opened;
  made = it.made;
  read = λ h. it.read (says h);
}
