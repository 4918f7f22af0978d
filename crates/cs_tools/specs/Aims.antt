-- How far a reclaim goes.
use Rattle.std.specs.Prelude.{◌≡◌, ◌⊎◌, ◌+◌, ◌*◌, ℕ, List, Option, None, Some, length}
use Rattle.cs_chunk.specs.Cuts.{IsOversized}
use Rattle.cs_chunk.specs.Puts.{IsPutFull, PutFits}
use Rattle.cs_core.specs.Views.{View}
use Rattle.cs_disk.specs.declared.disk.PageDisk.{Ghosts as PageDisk}
use Rattle.cs_extent.specs.State.{State as Extents, shape}
use Rattle.cs_inspect.specs.Choices.{ReadsOn}
use Rattle.cs_inspect.specs.Past.{ChoosesPairPast, ChoosesPast, IsNoneOf}
use Rattle.cs_tools.specs.declared.aims.Aim.{Aim}
use Rattle.cs_tools.specs.declared.aims.Aim.TheVariants.{Brim, Pairs, Room}
use Rattle.cs_tools.specs.declared.seeks.Next.{Next}
use Rattle.cs_tools.specs.declared.seeks.Next.TheVariants.{Extent, Nothing}

-- So many bytes are no more than a shard may have, and the chunks of a put of them find places: whatever the bytes are,
-- under any identifier, and whichever command it is.
abbrev pub HasRoomFor : Extents → ℕ → Type 0
HasRoomFor x count = (¬ IsOversized (shape x) count) × ((bytes : List ℕ) (id command : ℕ) → length bytes ≡ count → PutFits x id command bytes)

-- a put of so many bytes is refused as full, whatever the bytes are, under any identifier, and whichever command it is
abbrev pub IsFullFor : Extents → ℕ → Type 0
IsFullFor x count = (bytes : List ℕ) (id command : ℕ) → length bytes ≡ count → IsPutFull x id command bytes

-- so many bytes are too many for a shard, or a put of them is refused as full
abbrev pub HasNoRoomFor : Extents → ℕ → Type 0
HasNoRoomFor x count = IsOversized (shape x) count ⊎ IsFullFor x count

-- what holds of the number of bytes of the put that is aimed at, if one is
abbrev pub IfPut : Aim → (ℕ → Type 0) → Type 0
IfPut Pairs Holds = Unit {0}
IfPut (Room bytes) Holds = Holds bytes
IfPut Brim Holds = Unit {0}

-- a put is aimed at, and this holds of the number of its bytes
abbrev pub IsPutAnd : Aim → (ℕ → Type 0) → Type 0
IsPutAnd Pairs Holds = ⊥
IsPutAnd (Room bytes) Holds = Holds bytes
IsPutAnd Brim Holds = ⊥

-- so many extents are emptied or passed over at most: two for each, or up to the brim three for each and one
abbrev pub most_emptied : Aim → (extents : ℕ) → ℕ
most_emptied Pairs extents = 2 * extents
most_emptied (Room bytes) extents = 3 * extents + 1
most_emptied Brim extents = 3 * extents + 1

module _ {D : Type 0} (disks : PageDisk D) where
  -- An extent is chosen, or none, by the headers as they were read, and these extents are passed over: one of two that
  -- fit on one (`ChoosesPairPast`), or by the rule up to the brim (`ChoosesPast`).
  abbrev pub ChoosesFor : Aim → (passed : List ℕ) → (old new : View D) → Option (ℕ × ℕ) → Type 0
  ChoosesFor Pairs passed old new chosen = ChoosesPairPast disks passed old new chosen
  ChoosesFor (Room bytes) passed old new chosen = ChoosesPast disks passed old new chosen
  ChoosesFor Brim passed old new chosen = ChoosesPast disks passed old new chosen

  -- this extent is chosen, with so many dead pages, and it is none of those that are passed over
  abbrev pub Picks : Aim → (passed : List ℕ) → (old new : View D) → (extent dead : ℕ) → Type 0
  Picks aim passed old new extent dead = ChoosesFor aim passed old new (Some (extent, dead)) × IsNoneOf passed extent

  -- none is chosen by what was read
  abbrev pub NoneIsChosen : Aim → (passed : List ℕ) → View D → Type 0
  NoneIsChosen aim passed old = (read : View D) × ReadsOn disks old read × ChoosesFor aim passed old read None

  -- nothing more is to be emptied: none is chosen, or the put that is aimed at has room
  abbrev pub IsSettled : Aim → (passed : List ℕ) → View D → Type 0
  IsSettled aim passed old = NoneIsChosen aim passed old ⊎ IsPutAnd aim (HasRoomFor old.store.extents)

  -- this extent is chosen to be emptied next, or nothing more is to be emptied
  abbrev pub IsNextFor : Aim → (passed : List ℕ) → (old new : View D) → Next → Type 0
  IsNextFor aim passed old new (Extent choice) = Picks aim passed old new choice.extent choice.dead
  IsNextFor aim passed old new (Nothing unreadable) = IsSettled aim passed old
