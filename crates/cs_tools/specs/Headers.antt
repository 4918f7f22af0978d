-- Whether the headers of a store's chunks can be read.
use Rattle.std.specs.Prelude.{◌≡◌, ◌≢◌, ◌==◌, ◌<◌, ℕ, List, MatchBool, Some, slice_get}
use Rattle.cs_core.specs.Views.{View}
use Rattle.cs_disk.specs.Disk.{Rises}
use Rattle.cs_disk.specs.declared.disk.PageDisk.{Ghosts as PageDisk}
use Rattle.cs_extent.specs.State.{shape}
use Rattle.cs_inspect.specs.Choices.{ReadsOn}
use Rattle.cs_inspect.specs.Uses.{Head, HoldsOfHeads, unreadable_on}
use Rattle.cs_inspect.specs.declared.surveys.ExtentUse.{ExtentUse}

-- none of these extents has a header that couldn't be read
abbrev pub NoneIsUnreadable : List ExtentUse → Type 0
NoneIsUnreadable uses = (e : ℕ) (used : ExtentUse) → slice_get uses e ≡ Some used → used.unreadable ≡ 0

-- one of them has
abbrev pub SomeIsUnreadable : List ExtentUse → Type 0
SomeIsUnreadable uses = (e : ℕ) × (used : ExtentUse) × (slice_get uses e ≡ Some used) × (used.unreadable ≢ 0)

-- so many headers couldn't be read, as these uses count them, up to the greatest number of 64 bits
abbrev pub AreUnreadable : List ExtentUse → ℕ → Type 0
AreUnreadable uses n = MatchBool (n == 0) (NoneIsUnreadable uses) (SomeIsUnreadable uses)

-- on none of so many extents a header says nothing
abbrev pub AllSay : (extents : ℕ) → List Head → Type 0
AllSay extents heads = (e : ℕ) → e < extents → unreadable_on e heads ≡ 0

-- on one of them a header says nothing
abbrev pub OneSaysNothing : (extents : ℕ) → List Head → Type 0
OneSaysNothing extents heads = (e : ℕ) × (e < extents) × (0 < unreadable_on e heads)

module _ {D : Type 0} (disks : PageDisk D) where
  -- on an honest disk the header of each live chunk says how many pages it has
  abbrev pub AreReadable : View D → Type 0
  AreReadable v = disks.honest v.disk → HoldsOfHeads disks v (AllSay (shape v.store.extents).extents)

  -- on an honest disk a header of a live chunk says nothing, or a read failed between the one and the other
  abbrev pub HasUnreadable : (old new : View D) → Type 0
  HasUnreadable old new = disks.honest old.disk → ¬ Rises (disks.failure_count old.disk) (disks.failure_count new.disk) → HoldsOfHeads disks old (OneSaysNothing (shape old.store.extents).extents)

  -- So many headers couldn't be read, none or some, as the extents of a store were looked at last, since when it was only read.
  abbrev pub IsLeft : ℕ → View D → Type 0
  IsLeft n new = MatchBool (n == 0) (AreReadable new) ((last : View D) × ReadsOn disks last new × HasUnreadable last new)

  -- as the extents were looked at first, a header said nothing, or a read failed
  abbrev pub WasUnreadable : View D → Type 0
  WasUnreadable old = (read : View D) × ReadsOn disks old read × HasUnreadable old read

  -- so many headers couldn't be read then, none or some
  abbrev pub WasCounted : ℕ → View D → Type 0
  WasCounted n old = MatchBool (n == 0) (AreReadable old) (WasUnreadable old)
