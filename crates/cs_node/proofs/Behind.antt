-- What a core tells of itself is what one behind the lock keeps.
use Rattle.std.proofs.Common.{◌≡◌, subst}
use Rattle.cs_disk.specs.declared.disk.PageDisk.{Ghosts as PageDisk}
use Rattle.cs_disk.specs.Disk.{Leaves, page}
use Rattle.cs_extent.specs.State.{shape}
use Rattle.law_machine.specs.State.{State}
use Rattle.cs_core.specs.Meanings.{commands_said}
use Rattle.cs_core.specs.Views.{IsIn, View}
use Rattle.cs_core.specs.law_refinement.Crashes.{IsPrefix}
use Rattle.cs_node.specs.Behind.{IsBehind}
use Rattle.cs_node.specs.Starts.{Start, shape_at, start_of}

pub is_behind : {D : Type 0} (disks : PageDisk D) (start : Start) (v : View D) → start_of v ≡ start
    → (disks.honest v.disk → (s : State) × IsIn disks.state v s)
    → (disks.honest v.disk → Leaves (disks.state v.disk) (IsPrefix (shape v.store.extents) (page v.opened) (commands_said v.history) v.store.frontier v.store.accepted))
    → IsBehind disks start v
is_behind disks start v started legal left = record {
  started = started;
  legal = legal;
  left = λ is_honest. subst (λ (s : Start). Leaves (disks.state v.disk) (IsPrefix (shape_at s) (page s.opened) (commands_said v.history) v.store.frontier v.store.accepted)) started (left is_honest);
}
