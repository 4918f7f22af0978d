-- What a crash may leave of a store's disk.
use Rattle.std.specs.Prelude.{◌≡◌, ◌≢◌, ◌⊎◌, ◌+◌, ◌<◌, ◌≤◌, ℕ, List, Option, Some, length, slice_get}
use Rattle.cs_disk.specs.Disk.{Image, State as DiskState, Write, page}
use Rattle.cs_frame.specs.Formats.{formats_of}
use Rattle.cs_reader.specs.ImageReads.{ArePages}
use Rattle.law_machine.specs.Device.{FramePage, Page, Shape}
use Rattle.law_machine.specs.Element.{Content, Damaged, Map}
use Rattle.law_machine.specs.Formats.{Formats}
use Rattle.law_machine.specs.Index.{NoneDamaged}
use Rattle.law_machine.specs.Recovery.{Recovers}
use Rattle.law_machine.specs.Refusal.{Refusal}
use Rattle.law_machine.specs.Sound.{GivesFirst}
use Rattle.law_machine.specs.State.{Command, State, map_after}

-- the image gives the map after some number of the state's commands between the frontier and all of them
abbrev pub LeavesPrefixOn : Shape → Formats → State → Image → Type 0
LeavesPrefixOn S F s image = (n : ℕ) × GivesFirst S F s (page image) n

-- a write that isn't flushed goes to the page
abbrev pub HasWaitingWrite : DiskState → (page : ℕ) → Type 0
HasWaitingWrite disk p = (i : ℕ) × (w : Write) × (slice_get disk.volatile i ≡ Some w) × (w.0 ≡ p)

-- The image is what a crash left, but that each page of frames to which a write wasn't flushed may hold anything.
pub record IsTornFrom (S : Shape) (disk : DiskState) (left image : Image) : Type 0 where
  pub size : length image ≡ length left
  pub each : (p : ℕ) → p < length left → (page image p ≡ page left p) ⊎ ((S.kind p ≡ FramePage) × HasWaitingWrite disk p)

-- it is no damaged shard
abbrev pub IsUndamaged : Option Content → Type 0
IsUndamaged shard = (f : Refusal) → shard ≢ Some (Damaged f)

-- the second map has what the first one has, but for the shards that are damaged in the first
abbrev pub AgreeOnUndamaged : (m now : Map) → Type 0
AgreeOnUndamaged m now = (id : ℕ) → IsUndamaged (m id) → now id ≡ m id

-- the image counts n commands, and gives this map but for the shards that are damaged in it
abbrev pub GivesUndamaged : Shape → Image → (n : ℕ) → Map → Type 0
GivesUndamaged S image n m = (now : Map) × Recovers S (formats_of S) (page image) n now × AgreeOnUndamaged m now

-- Where a store was opened on an image, this one counts n commands more, and gives the map after the first n of these
-- commands, which are listed newest first. n lies between these numbers. It gives all of that map where no shard was
-- damaged as the store was opened. Where some were, and its pages are of bytes, it gives each shard that isn't.
abbrev pub IsPrefix : Shape → (opened : ℕ → Page) → List Command → (least most : ℕ) → Image → Type 0
IsPrefix S opened commands least most image = (count : ℕ) (start : Map) → Recovers S (formats_of S) opened count start
    → (n : ℕ) × (least ≤ n) × (n ≤ most)
    × (NoneDamaged start → Recovers S (formats_of S) (page image) (count + n) (map_after start commands n))
    × (ArePages (length image) (page image) → GivesUndamaged S image (count + n) (map_after start commands n))
