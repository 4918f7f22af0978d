-- Cores that have room, with all that is asked of them so that their calls keep it, and images on which such a core is
-- opened.
use Rattle.std.specs.Prelude.{◌≡◌, ℕ, true}
use Rattle.cs_disk.specs.declared.disk.PageDisk.{Ghosts as PageDisk}
use Rattle.cs_disk.specs.Disk.{Image}
use Rattle.cs_extent.specs.State.{shape}
use Rattle.law_machine.specs.Device.{Shape}
use Rattle.cs_core.specs.Openings.{IsOpened}
use Rattle.cs_core.specs.Stored.{Stored}
use Rattle.cs_core.specs.Views.{IsCore, View}
use Rattle.law_room_in_store.specs.Cores.{HasRoom}
use Rattle.law_room_in_store.specs.Images.{HasGeometry, HasRoomOn}

-- It is a core, on an honest disk, of a geometry and with chunks and runs apart, and it has room.
pub record IsRoomyCore {D : Type 0} (disks : PageDisk D) (v : View D) : Type 0 where
  pub core : IsCore disks v
  pub honest : disks.honest v.disk
  pub geometry : HasGeometry v.store.extents
  pub apart : (shape v.store.extents).apart ≡ true
  pub room : HasRoom v

-- Whatever store is opened on the image has this shape, and room.
pub record OpensWithRoom (S : Shape) (image : Image) : Type 0 where
  pub room : HasRoomOn S image
  pub same_shape : (found : ℕ × ℕ) (store : Stored) → IsOpened (Unit {0}) image found store → shape store.extents ≡ S
