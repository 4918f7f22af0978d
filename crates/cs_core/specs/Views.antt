-- A core as contracts see it, and what one event does to it.
use Rattle.std.specs.Prelude.{◌≡◌, ◌≢◌, ◌⊎◌, ◌<◌, ◌≤◌, ◌++◌, ◌∷◌, ℕ, List, [], None, drop, length}
use Rattle.cs_refusal.specs.declared.refusals.Refusal.TheVariants.{DeviceFault, HistoryFull}
use Rattle.cs_disk.specs.declared.disk.PageDisk.{Ghosts as PageDisk}
use Rattle.cs_disk.specs.Disk.{Image, Rises, State as DiskState, page}
use Rattle.cs_extent.specs.State.{shape}
use Rattle.cs_frame.specs.Formats.{formats_of}
use Rattle.cs_reader.specs.Counts.{HasCount}
use Rattle.cs_reader.specs.ImageReads.{page_total}
use Rattle.law_machine.specs.Device.{Shape}
use Rattle.law_machine.specs.Element.{Map}
use Rattle.law_machine.specs.Formats.{Formats}
use Rattle.law_machine.specs.Open.{opened_state}
use Rattle.law_machine.specs.Recovery.{Recovers}
use Rattle.law_machine.specs.State as model
use Rattle.law_machine.specs.Step.{History, Step}
use Rattle.law_refinement.specs.Devices.{IsDiskOf}
use Rattle.cs_core.specs.declared.events.Event.{Event}
use Rattle.cs_core.specs.declared.events.Reply.{Reply}
use Rattle.cs_core.specs.declared.events.Reply.TheVariants.{Refused}
use Rattle.cs_core.specs.Answered.{IsLimited}
use Rattle.cs_core.specs.Meanings.{Says, event_of}
use Rattle.cs_core.specs.Puts.{ArePutsMeant, ChangesMeaning}
use Rattle.cs_core.specs.States.{IsStateOf}
use Rattle.cs_core.specs.Stored.{Stored}

-- A core over a disk of this type: its disk, the image that it was opened on, how many commands the root counted there
-- and how many shards there were, its store, all events since then with their replies, how many of them, from the first
-- on, checkpoints replaced, and with how many kept ones no further put or the like is taken. The replaced events are
-- known to contracts alone.
pub record View (D : Type 0) : Type 0 where
  pub disk : D
  pub opened : Image
  pub found : ℕ × ℕ
  pub store : Stored
  pub history : List (Event × Reply)
  pub base : ℕ
  pub limit : ℕ

-- the events that the core keeps: those since the last checkpoint
abbrev pub kept : {D : Type 0} → View D → List (Event × Reply)
kept v = drop v.base v.history

-- a history says what one of the machine does
abbrev pub AreSaid : Shape → Formats → List (Event × Reply) → List (model.Event × model.Reply) → Type 0
AreSaid S F [] [] = Unit {0}
AreSaid S F (x ∷ xs) (y ∷ ys) = ((y.0 ≡ event_of x.0) × Says S F x.1 y.1) × AreSaid S F xs ys
AreSaid S F [] (y ∷ ys) = ⊥
AreSaid S F (x ∷ xs) [] = ⊥

-- The history leads from the state of a store that was opened on this image to the state s.
pub record IsReached (S : Shape) (F : Formats) (opened : Image) (history : List (Event × Reply)) (s : model.State) : Type 0 where
  pub count : ℕ
  pub start : Map
  pub gives : Recovers S F (page opened) count start
  pub events : List (model.Event × model.Reply)
  pub said : AreSaid S F history events
  pub legal : History S F (opened_state S F (page opened) count start gives) events s

-- A core with this disk is in the state s of the machine.
pub record IsIn {D : Type 0} (state : D → DiskState) (v : View D) (s : model.State) : Type 0 where
  pub store : IsStateOf v.store s
  pub disk : IsDiskOf (shape v.store.extents) (formats_of (shape v.store.extents)) s (state v.disk)
  pub reached : IsReached (shape v.store.extents) (formats_of (shape v.store.extents)) v.opened v.history s

-- the image has a map, of so many commands and with so many shards
abbrev pub IsFound : Shape → Image → (found : ℕ × ℕ) → Type 0
IsFound S image found = (m : Map) × Recovers S (formats_of S) (page image) found.0 m × HasCount (λ id. m id ≢ None) found.1

-- What every core keeps: the disk has the geometry's pages, the events that were replaced are some of its history, what
-- was put last under an identifier is what its places mean, and where the disk is honest the core is in a state of the
-- machine that its whole history leads to, and was opened on an image of that many commands and shards.
pub record IsCore {D : Type 0} (disks : PageDisk D) (v : View D) : Type 0 where
  pub device : disks.page_count v.disk ≡ page_total (shape v.store.extents)
  pub replaced : v.base ≤ length v.history
  pub puts : ArePutsMeant v.history v.store
  pub sized : disks.honest v.disk → length v.opened ≡ page_total (shape v.store.extents)
  pub legal : disks.honest v.disk → (s : model.State) × IsIn disks.state v s
  pub begun : disks.honest v.disk → IsFound (shape v.store.extents) v.opened v.found

-- as many events were kept as may be, and nothing has changed
pub record IsFull {D : Type 0} (old : View D) (event : Event) (reply : Reply) (new : View D) : Type 0 where
  pub limited : IsLimited event
  pub reply_is : reply ≡ Refused HistoryFull
  pub full : old.limit ≤ length (kept old)
  pub same : new ≡ old

-- The event with its reply was kept in the history, and where the disk is honest the core went on by one step of the
-- machine, from whichever state it was in. Whatever the disk is, places mean what the event made of them.
pub record IsStep {D : Type 0} (disks : PageDisk D) (old : View D) (event : Event) (reply : Reply) (new : View D) : Type 0 where
  pub room : IsLimited event → length (kept old) < old.limit
  pub history : new.history ≡ old.history ++ (event, reply) ∷ []
  pub base : new.base ≡ old.base
  pub opened : new.opened ≡ old.opened
  pub found : new.found ≡ old.found
  pub limit : new.limit ≡ old.limit
  pub same_shape : shape new.store.extents ≡ shape old.store.extents
  pub means : ChangesMeaning old.store event reply new.store
  -- 1 is answered only where the disk's count of failures rose, or stood at its end
  pub cause : reply ≡ Refused DeviceFault → Rises (disks.failure_count old.disk) (disks.failure_count new.disk)
  -- that count doesn't fall
  pub later : disks.failure_count old.disk ≤ disks.failure_count new.disk
  pub step : disks.honest old.disk → (s : model.State) → IsIn disks.state old s
      → (m : model.Reply) × (t : model.State) × Says (shape old.store.extents) (formats_of (shape old.store.extents)) reply m
      × Step (shape old.store.extents) (formats_of (shape old.store.extents)) s (event_of event) m t × IsIn disks.state new t

-- what a call does that has memory: the kept history was full, and nothing has changed; or the event was done or
-- refused by one step, and kept
abbrev pub Applies : {D : Type 0} → (disks : PageDisk D) → (old : View D) → Event → Reply → (new : View D) → Type 0
Applies disks old event reply new = IsFull old event reply new ⊎ IsStep disks old event reply new

-- What one event does to a store and to an honest disk: whichever state they are in, the machine makes a step from it
-- to one that they are in then.
unfoldable pub Serves : (old : Stored) (disk : DiskState) → Event → Reply → (new : Stored) (after : DiskState) → Type 0
Serves old disk event reply new after = (s : model.State) → IsStateOf old s → IsDiskOf (shape old.extents) (formats_of (shape old.extents)) s disk
    → (m : model.Reply) × (t : model.State) × Says (shape old.extents) (formats_of (shape old.extents)) reply m
    × Step (shape old.extents) (formats_of (shape old.extents)) s (event_of event) m t × IsStateOf new t × IsDiskOf (shape old.extents) (formats_of (shape old.extents)) t after

-- nothing but rooms has changed, and an honest disk holds what it held; the disk's count of failures doesn't fall
pub record IsUntouched {D : Type 0} (disks : PageDisk D) (old new : View D) : Type 0 where
  pub opened : new.opened ≡ old.opened
  pub found : new.found ≡ old.found
  pub store : new.store ≡ old.store
  pub history : new.history ≡ old.history
  pub base : new.base ≡ old.base
  pub limit : new.limit ≡ old.limit
  pub disk : disks.honest old.disk → disks.state new.disk ≡ disks.state old.disk
  pub later : disks.failure_count old.disk ≤ disks.failure_count new.disk
