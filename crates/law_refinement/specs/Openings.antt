-- The state in which a store starts, of the parts that it is made of.
use Rattle.std.specs.Prelude.{◌≡◌, ◌++◌, ℕ, List, [], None, replicate}
use Rattle.cs_deps.specs.State.{State as GraphState}
use Rattle.cs_disk.specs.Disk.{Image, State as DiskState, Write, flushed, latest, page, seen}
use Rattle.cs_extent.specs.State.{State as ExtentsState, extents_of, shape}
use Rattle.cs_frame.specs.Formats.{formats_of}
use Rattle.cs_index.specs.declared.stored_runs.StoredRun.{StoredRun}
use Rattle.cs_index.specs.State.{State as IndexState}
use Rattle.cs_reader.specs.Loads.{graph_at, index_at}
use Rattle.cs_reclaim.specs.Rooted.{freed_under}
use Rattle.law_machine.specs.Device.{Page}
use Rattle.law_machine.specs.Element.{Map}
use Rattle.law_machine.specs.Events.{IsFrontier}
use Rattle.law_machine.specs.Format.{Format}
use Rattle.law_machine.specs.Open.{opened_state}
use Rattle.law_machine.specs.Sound.{Bounded, Sound}
use Rattle.law_machine.specs.State.{State}
use Rattle.law_refinement.specs.Copying.{AreAllPartsOf}
use Rattle.law_refinement.specs.Devices.{IsDiskOf}
use Rattle.law_refinement.specs.Images.{new_extents}
use Rattle.law_refinement.specs.Machines.{RecoversFor}
use Rattle.law_refinement.specs.Parts.{ArePartsOf}
use Rattle.law_refinement.specs.StoresRead.{StoreRead, extents_in, graph_in, index_in}

-- A sound state of which these are the parts, whose disk has this image and no volatile write, and in which no command since
-- then is persistent.
pub record IsStartOf (x : ExtentsState) (g : GraphState) (i : IndexState) (image : Image) (s : State) : Type 0 where
  pub sound : Sound (shape x) (formats_of (shape x)) s
  pub bounded : Bounded (shape x) (formats_of (shape x)) s
  pub parts : ArePartsOf x g i s
  pub disk : IsDiskOf (shape x) (formats_of (shape x)) s (record { durable = image; volatile = [] })
  pub frontier : IsFrontier (shape x) (formats_of (shape x)) s 0

-- so it is where chunks and runs lie apart, and no copy is noted
abbrev pub IsStartApartOf : ExtentsState → GraphState → IndexState → Image → State → Type 0
IsStartApartOf x g i image s = IsStartOf x g i image s × AreAllPartsOf x g i [] s

-- the machine's state at open, by what the image recovers for a store with these extents
abbrev pub opened_on : (x : ExtentsState) → (image : Image) → (n : ℕ) → (m : Map) → RecoversFor x (page image) n m → State
opened_on x image n m found = opened_state (shape x) (formats_of (shape x)) (page image) n m found

-- the image recovers so many commands and this map, and what it is opened as starts with these extents, graph and index
abbrev pub StartsOn : ExtentsState → Image → ℕ → Map → GraphState → IndexState → Type 0
StartsOn x image n m g i = (found : RecoversFor x (page image) n m) × IsStartOf x g i image (opened_on x image n m found)

-- so it does where chunks and runs lie apart, with the extents y
abbrev pub StartsApartOn : ExtentsState → Image → ℕ → Map → (y : ExtentsState) → GraphState → IndexState → Type 0
StartsApartOn x image n m y g i = (found : RecoversFor x (page image) n m) × IsStartApartOf y g i image (opened_on x image n m found)

-- so does what was read of the image, over these runs
abbrev pub StartsReadApart : Image → StoreRead → List StoredRun → (limit : ℕ) → (y : ExtentsState) → Type 0
StartsReadApart image read runs limit y =
    (m : Map) × StartsApartOn (extents_in read) image read.commands m y (graph_in read) (index_in read runs limit)

-- the image is one of a new store: with no command and no shard, and all versions 1
abbrev pub StartsNew : (format : Format) (extents pages sections limit : ℕ) → Image → Type 0
StartsNew format extents pages sections limit image = StartsOn (new_extents format extents pages sections) image 0 (λ id. None)
    (graph_at (replicate sections 1) 1) (index_at [] format limit)

-- The extents y are x, but that all blank ones were emptied under this version of the root, where no copy is noted.
pub record AreFreedUnder (x : ExtentsState) (i : IndexState) (root : ℕ) (y : ExtentsState) : Type 0 where
  pub same_shape : shape y ≡ shape x
  pub freed : extents_of y ≡ freed_under (shape x) (extents_of x) i [] root

-- what a page of the disk reads as once these writes were made
abbrev pub view_after : DiskState → List Write → ℕ → Page
view_after disk writes p = latest writes p (page (seen disk) p)

-- the pages of the disk once these writes were made and flushed
abbrev pub image_after : DiskState → List Write → Image
image_after disk writes = (flushed (record { durable = disk.durable; volatile = disk.volatile ++ writes })).durable
