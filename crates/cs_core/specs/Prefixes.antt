-- What a crash may leave of a core.
use Rattle.cs_disk.specs.Disk.{Image, page}
use Rattle.cs_extent.specs.State.{shape}
use Rattle.law_refinement.specs.Crashes.{IsPrefix}
use Rattle.cs_core.specs.Meanings.{commands_said}
use Rattle.cs_core.specs.Views.{View}

-- an image recovers the map after the first n of a core's commands, n from those that were persistent at an earlier
-- moment to all that were accepted at a later one
abbrev pub IsPrefixBetween : {D : Type 0} → (old new : View D) → Image → Type 0
IsPrefixBetween old new = IsPrefix (shape old.store.extents) (page old.opened) (commands_said new.history) old.store.frontier new.store.accepted

-- n from those that are persistent to all that are accepted
abbrev pub IsPrefixOf : {D : Type 0} → View D → Image → Type 0
IsPrefixOf v = IsPrefixBetween v v
