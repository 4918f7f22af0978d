-- The reserve of a store: how much of its room puts of new identifiers leave free.
use Rattle.std.specs.Prelude.{◌≡◌, ◌≢◌, ◌⊎◌, ◌∷◌, ◌+◌, ◌*◌, ◌-◌, ◌/◌, ◌<◌, ◌≤◌, ℕ, List, [], Option, None, Some, length, sum}
use Rattle.cs_chunk.specs.Cuts.{IsCut, IsOversized, pages_of}
use Rattle.cs_chunk.specs.declared.cuts.Cut.{Cut}
use Rattle.cs_refusal.specs.declared.refusals.Refusal.{Refusal}
use Rattle.cs_refusal.specs.declared.refusals.Refusal.TheVariants.{Reserved, TooLarge}
use Rattle.cs_disk.specs.declared.disk.PageDisk.{Ghosts as PageDisk}
use Rattle.cs_extent.specs.State.{extents_of, shape}
use Rattle.cs_frame.specs.declared.identifiers.ShardId.{ShardId}
use Rattle.cs_index.specs.State.{id_number, index_of}
use Rattle.cs_inspect.specs.Choices.{ReadsOn}
use Rattle.cs_inspect.specs.Uses.{AreCountedAsRead, AreExtents, Head, HoldsOfHeads}
use Rattle.cs_inspect.specs.declared.surveys.ExtentUse.{ExtentUse}
use Rattle.cs_core.specs.declared.events.Event.{Event}
use Rattle.cs_core.specs.declared.events.Event.TheVariants.{Put}
use Rattle.cs_core.specs.declared.events.Reply.TheVariants.{Accepted}
use Rattle.cs_core.specs.Views.{View}
use Rattle.law_machine.specs.Device.{Shape}
use Rattle.law_machine.specs.Format.{Format, Four, Two}
use Rattle.law_machine.specs.Geometry.{most_run_extents}
use Rattle.law_machine.specs.Index.{live_at}
use Rattle.cs_store.specs.declared.reserves.Reserve.{Reserve}
use Rattle.cs_store.specs.declared.reserves.Reserve.TheVariants as reserve
use Rattle.cs_store.specs.Events.{DeclinesCopy, Does}

-- the pages of the extents that puts may use: one extent or two are for the index, and puts leave two more
abbrev pub put_pages : (extents pages : ℕ) → ℕ
put_pages extents pages = (extents - (most_run_extents extents + 2)) * pages

-- how many pages of shards may live, by a reserve. It is None if nothing is held back, as always in format 2
abbrev pub most_live : Reserve → Format → (extents pages : ℕ) → Option ℕ
most_live reserve.None format extents pages = None
most_live (reserve.Percent percent) Two extents pages = None
most_live (reserve.Percent percent) (Four store device) extents pages = Some (put_pages extents pages * (100 - percent) / 100)

-- the same of a store of this shape
abbrev pub most_live_in : Reserve → Shape → Option ℕ
most_live_in held S = most_live held S.format S.extents S.pages

-- how many live pages are counted on all of these extents
abbrev pub total_live : List ExtentUse → ℕ
total_live [] = 0
total_live (used ∷ uses) = used.live + total_live uses

module _ {D : Type 0} (disks : PageDisk D) where
  -- The live pages of all extents are counted by these headers. One whose read failed between the two states says
  -- nothing. And this holds of how many pages they are.
  pub record LivesBy (heads : List Head) (old read : View D) (Holds : ℕ → Type 0) : Type 0 where
    pub uses : List ExtentUse
    pub extents : AreExtents (shape old.store.extents).extents (extents_of old.store.extents) uses
    pub counted : AreCountedAsRead (disks.failure_count old.disk) (disks.failure_count read.disk) heads uses
    pub holds : Holds (total_live uses)

  -- Nothing is under the identifier, and the reserve holds something back. On an honest disk, by the headers of all live
  -- chunks, this holds of two numbers: the pages that live with those of a shard of so many bytes, and the most that the
  -- reserve leaves.
  pub record Compares (held : Reserve) (id : ShardId) (bytes : ℕ) (old read : View D) (Holds : (live most : ℕ) → Type 0) : Type 0 where
    pub absent : live_at (index_of old.store.index) (id_number id) ≡ []
    pub most : ℕ
    pub leaves : most_live_in held (shape old.store.extents) ≡ Some most
    pub cut : Cut
    pub is_cut : IsCut (shape old.store.extents) bytes cut
    pub counted : disks.honest old.disk → HoldsOfHeads disks old (λ heads. LivesBy heads old read (λ live. Holds (live + sum (pages_of cut)) most))

  -- nothing is under the identifier, and with its shard more pages would live than the reserve leaves
  abbrev pub IsReserved : (held : Reserve) → ShardId → (bytes : ℕ) → (old read : View D) → Type 0
  IsReserved held id bytes old read = Compares held id bytes old read (λ live most. most < live)

  -- The reserve holds nothing back, or something is under the identifier, and nothing was read. Or no more pages live
  -- then than the reserve leaves.
  abbrev pub IsWithin : (held : Reserve) → ShardId → (bytes : ℕ) → (old read : View D) → Type 0
  IsWithin held id bytes old read =
      (((most_live_in held (shape old.store.extents) ≡ None) ⊎ (live_at (index_of old.store.index) (id_number id) ≢ [])) × (read ≡ old))
      ⊎ Compares held id bytes old read (λ live most. live ≤ most)

  -- after reads the put is done, and has this number
  abbrev pub PutsAfterReads : (old : View D) → ShardId → (bytes : List ℕ) → (number : ℕ) → (new : View D) → Type 0
  PutsAfterReads old id bytes number new = (read : View D) × ReadsOn disks old read × Does disks read (Put id bytes) (Accepted number) new

  -- the same, and by these reads the shard is within the reserve
  abbrev pub PutsWithin : (held : Reserve) → (old : View D) → ShardId → (bytes : List ℕ) → (number : ℕ) → (new : View D) → Type 0
  PutsWithin held old id bytes number new =
      (read : View D) × ReadsOn disks old read × IsWithin held id (length bytes) old read × Does disks read (Put id bytes) (Accepted number) new

  -- a put is refused before the store is asked for it: its bytes are too many, or it is over some reserve
  abbrev pub IsOverSize : (old read : View D) → ShardId → (bytes : ℕ) → Refusal → Type 0
  IsOverSize old read id bytes refusal =
      ((refusal ≡ TooLarge) × IsOversized (shape old.store.extents) bytes) ⊎ ((refusal ≡ Reserved) × (held : Reserve) × IsReserved held id bytes old read)

  -- After reads the put is refused for the size of the shard, and nothing else is done; or the store declines it.
  abbrev pub RefusesPut : (old : View D) → ShardId → (bytes : List ℕ) → Refusal → (new : View D) → Type 0
  RefusesPut old id bytes refusal new = (read : View D) × ReadsOn disks old read
      × ((IsOverSize old read id (length bytes) refusal × (new ≡ read)) ⊎ DeclinesCopy disks read (Put id bytes) refusal new)
