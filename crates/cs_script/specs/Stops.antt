-- What a sync that ended early has done and printed. Where the writer failed nothing is said of it.
use Rattle.std.specs.Prelude.{ℕ, List, [], Option}
use Rattle.std.specs.Io.KnownBytes.{Appends}
use Rattle.cs_disk.specs.declared.disk.PageDisk.{Ghosts as PageDisk}
use Rattle.cs_writeback.specs.cs_core.Views.{View}
use Rattle.cs_writeback.specs.declared.syncs.Stop.{Stop}
use Rattle.cs_writeback.specs.declared.syncs.Stop.TheVariants.{Refused, Untold}
use Rattle.cs_writeback.specs.Rounds.{StopsFirst}
use Rattle.cs_script.specs.Scripts.{PrintsStop}

module _ {D : Type 0} (disks : PageDisk D) where
  -- while the round that was out was ended: nothing is printed
  abbrev pub StopsAtFirst : {E : Type 0} → (old new : View D) → (before after : Option (List ℕ)) → Stop E → Type 0
  StopsAtFirst old new before after (Refused r) = StopsFirst disks old r new × Appends before after []
  StopsAtFirst old new before after (Untold e) = Unit {0}

  -- somewhere, after these lines
  abbrev pub StopsAfter : {E : Type 0} → (old new : View D) → (before after : Option (List ℕ)) → Stop E → Type 0
  StopsAfter old new before after (Refused r) = (out : List ℕ) × PrintsStop disks old new r out × Appends before after out
  StopsAfter old new before after (Untold e) = Unit {0}
