-- Calls of a core, one after another, or none.
use Rattle.std.specs.Prelude.{◌≡◌, ◌⊎◌, List}
use Rattle.cs_disk.specs.declared.disk.PageDisk.{Ghosts as PageDisk}
use Rattle.cs_core.specs.Calls.{AreCalls}
use Rattle.cs_core.specs.Views.{View}

module _ {D : Type 0} (disks : PageDisk D) where
  -- nothing was called, or some calls were made, one after another, with these cores between them
  abbrev pub Ran : (old new : View D) → Type 0
  Ran old new = (new ≡ old) ⊎ ((between : List (View D)) × AreCalls disks old between new)
