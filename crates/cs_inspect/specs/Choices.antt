-- How an extent is chosen to be swept.
use Rattle.std.specs.Prelude.{◌≡◌, ◌-◌, ◌<◌, ◌≤◌, ℕ, Bool, true, false, List, Option, Some, None, slice_get}
use Rattle.cs_core.specs.Views.{View}
use Rattle.cs_disk.specs.Reads.{OnlyReads}
use Rattle.cs_disk.specs.declared.disk.PageDisk.{Ghosts as PageDisk}
use Rattle.cs_extent.specs.State.{extents_of, shape}
use Rattle.cs_frame.specs.Frames.{page_count}
use Rattle.cs_frame.specs.Geometries.{run_bytes}
use Rattle.cs_index.specs.State.{index_of}
use Rattle.law_machine.specs.Device.{Shape}
use Rattle.law_machine.specs.Index.{names}
use Rattle.cs_inspect.specs.declared.choices.Choice.{Choice}
use Rattle.cs_inspect.specs.declared.choices.SweepRule.{SweepRule}
use Rattle.cs_inspect.specs.declared.choices.SweepRule.TheVariants.{FewestLive, MostGarbage}
use Rattle.cs_inspect.specs.declared.surveys.ExtentUse.{ExtentUse}
use Rattle.cs_inspect.specs.Brim.{AreSurveyed, ChoosesNext}
use Rattle.cs_inspect.specs.Fewest.{IsFewestLive, NoTwoFit}
use Rattle.cs_inspect.specs.Kinds.{LieApart, LieTogether}
use Rattle.cs_inspect.specs.Uses.{AreCountedAsRead, AreExtents, Head, HoldsOfHeads, IsMostGarbage, garbage}

-- by which rule extents of this shape are chosen
abbrev pub IsRule : Shape → SweepRule → Type 0
IsRule S FewestLive = LieApart S
IsRule S MostGarbage = LieTogether S

-- how many pages a run with so many entries takes
abbrev pub run_pages : ℕ → ℕ
run_pages entries = page_count (run_bytes entries)

-- an extent, and how many of its pages no shard has, of a choice
abbrev pub chosen_extent : Option Choice → Option (ℕ × ℕ)
chosen_extent None = None
chosen_extent (Some choice) = Some (choice.extent, choice.dead)

-- what is chosen by most garbage, in format 2: the first extent with most, if that is more than so many pages. None if
-- none has more
abbrev pub ChoosesTogether : List ExtentUse → (pages : ℕ) → Option (ℕ × ℕ) → Type 0
ChoosesTogether uses pages None = (e : ℕ) (used : ExtentUse) → slice_get uses e ≡ Some used → garbage used ≤ pages
ChoosesTogether uses pages (Some (extent, dead)) = (best : IsMostGarbage uses extent) × (garbage best.its ≡ dead) × (pages < dead)

-- what is chosen by fewest live pages: the first extent with fewest, but not the last one, where these and those of
-- another one have room on one extent; None where of no two extents they have
abbrev pub ChoosesApart : List ExtentUse → (last : Option ℕ) → (pages : ℕ) → Option (ℕ × ℕ) → Type 0
ChoosesApart uses last pages None = NoTwoFit uses pages
ChoosesApart uses last pages (Some (extent, dead)) = (chosen : IsFewestLive uses last pages extent) × (chosen.best.its.pointer - chosen.best.its.live ≡ dead)

-- what is chosen: by fewest live pages (true), or by most garbage (false), with an index that takes so many pages
abbrev pub ChoosesBy : Bool → List ExtentUse → (index_pages : ℕ) → (last : Option ℕ) → (pages : ℕ) → Option (ℕ × ℕ) → Type 0
ChoosesBy false uses index_pages last pages chosen = ChoosesTogether uses index_pages chosen
ChoosesBy true uses index_pages last pages chosen = ChoosesApart uses last pages chosen

-- what is chosen to be swept next: up to the brim (true), or by most garbage (false)
abbrev pub ChoosesNextBy : Bool → List ExtentUse → (greatest index_pages : ℕ) → (last : Option ℕ) → (pages : ℕ) → Option (ℕ × ℕ) → Type 0
ChoosesNextBy false uses greatest index_pages last pages chosen = ChoosesTogether uses index_pages chosen
ChoosesNextBy true uses greatest index_pages last pages chosen = ChoosesNext uses last pages greatest chosen

module _ {D : Type 0} (disks : PageDisk D) where
  -- nothing but reads was asked of the disk, and nothing else has changed
  abbrev pub ReadsOn : (old new : View D) → Type 0
  ReadsOn old new = (new ≡ record old { disk = new.disk }) × OnlyReads disks old.disk new.disk

  -- An extent is chosen, or none, by how the extents are used as these headers say, where one whose read failed says
  -- nothing, and by the rule of the format. In format 2 it has more garbage than a run takes that has so many entries.
  pub record GoesBy (heads : List Head) (entries : ℕ) (old new : View D) (chosen : Option (ℕ × ℕ)) : Type 0 where
    pub uses : List ExtentUse
    pub extents : AreExtents (shape old.store.extents).extents (extents_of old.store.extents) uses
    pub read : AreCountedAsRead (disks.failure_count old.disk) (disks.failure_count new.disk) heads uses
    pub chooses : ChoosesBy (shape old.store.extents).apart uses (run_pages entries) (extents_of old.store.extents).last (shape old.store.extents).pages chosen

  -- An extent is chosen to be swept next, or none, by how the extents are used and by the greatest chunk that lives, both as these
  -- headers say, where one whose read failed says nothing. In format 2 it is chosen as in `GoesBy`.
  pub record GoesNext (heads : List Head) (entries : ℕ) (old new : View D) (chosen : Option (ℕ × ℕ)) : Type 0 where
    pub uses : List ExtentUse
    pub greatest : ℕ
    pub extents : AreExtents (shape old.store.extents).extents (extents_of old.store.extents) uses
    pub read : AreSurveyed (disks.failure_count old.disk) (disks.failure_count new.disk) heads uses greatest
    pub chooses : ChoosesNextBy (shape old.store.extents).apart uses greatest (run_pages entries) (extents_of old.store.extents).last (shape old.store.extents).pages chosen

  -- on an honest disk it is chosen so by the headers of all live chunks, and by as many entries as the index names
  abbrev pub ChoosesSweep : (old new : View D) → (chosen : Option (ℕ × ℕ)) → Type 0
  ChoosesSweep old new chosen = disks.honest old.disk → HoldsOfHeads disks old (λ heads. GoesNext heads (names (index_of old.store.index)) old new chosen)

  -- the same of a choice by `GoesBy`
  abbrev pub Chooses : (old new : View D) → (chosen : Option (ℕ × ℕ)) → Type 0
  Chooses old new chosen = disks.honest old.disk → HoldsOfHeads disks old (λ heads. GoesBy heads (names (index_of old.store.index)) old new chosen)
