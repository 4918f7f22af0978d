-- What map a store has, and what calls add to it.
use Rattle.std.specs.Prelude.{◌≡◌, ◌++◌, ◌↔◌, ℕ, List}
use Rattle.cs_disk.specs.declared.disk.PageDisk.{Ghosts as PageDisk}
use Rattle.cs_disk.specs.Disk.{page}
use Rattle.cs_extent.specs.State.{shape}
use Rattle.cs_frame.specs.Formats.{formats_of}
use Rattle.law_machine.specs.Element.{Map}
use Rattle.law_machine.specs.Recovery.{Recovers}
use Rattle.law_machine.specs.State.{Command, after_all}
use Rattle.cs_core.specs.Meanings.{commands_said}
use Rattle.cs_core.specs.Views.{View}

-- The store has this map: the one that was found as it was opened, after all commands accepted since.
pub record HasMap {D : Type 0} (v : View D) (m : Map) : Type 0 where
  pub start : Map
  pub found : Recovers (shape v.store.extents) (formats_of (shape v.store.extents)) (page v.opened) v.found.0 start
  pub after : (id : ℕ) → m id ≡ after_all start (commands_said v.history) id

module _ {D : Type 0} (disks : PageDisk D) where
  -- The store was opened on the same image, has the same shape, keeps as many events at most, and its disk is honest
  -- where it was; and these commands were accepted since, newest first.
  pub record Accepts (commands : List Command) (old new : View D) : Type 0 where
    pub same_shape : shape new.store.extents ≡ shape old.store.extents
    pub opened : new.opened ≡ old.opened
    pub found : new.found ≡ old.found
    pub limit : new.limit ≡ old.limit
    pub honest : disks.honest old.disk ↔ disks.honest new.disk
    pub commands_now : commands_said new.history ≡ commands ++ commands_said old.history
