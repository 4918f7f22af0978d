-- What a crash leaves of a core now.
use Rattle.std.proofs.Common.{◌≡◌, ◌∙◌, length, refl}
use Rattle.cs_disk.specs.declared.disk.PageDisk.{Ghosts as PageDisk}
use Rattle.cs_disk.specs.Disk.{Image, Leaves, LeavesOnly, MayLeave}
use Rattle.cs_extent.specs.State.{IsWhole}
use Rattle.cs_core.specs.Prefixes.{IsPrefixOf}
use Rattle.cs_core.specs.Views.{IsCore, View}
use Rattle.cs_core.proofs.Crashes.{left_of, only_before}

module _ {D : Type 0} (disks : PageDisk D) where
  -- a crash now
  pub left_now : {v : View D} → IsCore disks v → IsWhole v.store.extents → disks.honest v.disk → length (disks.state v.disk).durable ≡ disks.page_count v.disk → Leaves (disks.state v.disk) (IsPrefixOf v)
  left_now {v} core whole there long = let was = core.legal there in
      left_of v.store.extents whole v.store refl v.opened v.history was.0 (disks.state v.disk) was.1.reached was.1.store was.1.disk (long ∙ core.device)

  -- and at a moment at which the disk is asked for nothing
  pub only_left_now : {v : View D} → IsCore disks v → IsWhole v.store.extents → disks.honest v.disk → length (disks.state v.disk).durable ≡ disks.page_count v.disk
      → ((c : Image) → disks.left_since v.disk (disks.moment v.disk) c → MayLeave (disks.state v.disk) c) → LeavesOnly disks.moment disks.left_since v.disk v.disk (IsPrefixOf v)
  only_left_now {v} core whole there long only_now =
      only_before disks.state disks.moment disks.left_since v.disk (IsPrefixOf v) (left_now core whole there long) only_now
