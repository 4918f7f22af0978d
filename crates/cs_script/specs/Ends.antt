-- How a line ends a script.
use Rattle.std.specs.Prelude.{ℕ, List, Option}
use Rattle.std.specs.Io.KnownBytes.{Appends}
use Rattle.cs_disk.specs.declared.disk.PageDisk.{Ghosts as PageDisk}
use Rattle.cs_writeback.specs.cs_core.Views.{View}
use Rattle.cs_script.specs.declared.crashes.End.{End}
use Rattle.cs_script.specs.declared.crashes.End.TheVariants.{Broken, Unopened}
use Rattle.cs_script.specs.Crashes.{CrashesUnder}
use Rattle.cs_script.specs.Lines.{Said}

-- a stream failed, or there was no memory
abbrev pub IsBroken : {D : Type 0} → End D → Type 0
IsBroken (Broken core) = Unit {0}
IsBroken (Unopened r) = ⊥

module _ {D : Type 0} (disks : PageDisk D) (can_crash : D → Type 0) (volatile_count : D → ℕ) where
  -- No store is opened after a crash, which is printed. Where a stream failed nothing is said.
  abbrev pub IsEnd : Said → View D → (before after : Option (List ℕ)) → End D → Type 0
  IsEnd said old before after (Unopened r) = (out : List ℕ) × CrashesUnder disks can_crash volatile_count said old r out × Appends before after out
  IsEnd said old before after (Broken core) = Unit {0}
