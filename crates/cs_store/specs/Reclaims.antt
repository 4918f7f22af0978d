-- What a reclaim does.
use Rattle.std.specs.Prelude.{◌≡◌, ◌⊎◌, ℕ, List, Option, Some, None, Result, IfOk}
use Rattle.cs_chunk.specs.Newest.{AreNewest}
use Rattle.cs_core.specs.Views.{View}
use Rattle.cs_refusal.specs.declared.refusals.Refusal.{Refusal}
use Rattle.cs_refusal.specs.declared.refusals.Refusal.TheVariants.{OutOfMemory}
use Rattle.cs_disk.specs.Disk.{seen}
use Rattle.cs_disk.specs.declared.disk.PageDisk.{Ghosts as PageDisk}
use Rattle.cs_index.specs.State.{index_of}
use Rattle.cs_store.specs.declared.reclaims.Reclaimed.{Reclaimed}
use Rattle.cs_store.specs.Sweeps.{DeclinesSweep, SweepsReady}
use Rattle.cs_inspect.specs.Choices.{GoesNext, ReadsOn}
use Rattle.cs_inspect.specs.Chunks.{AreLiveChunks, Chunk}
use Rattle.cs_inspect.specs.Uses.{Head, heads_of}
use Rattle.law_machine.specs.Index.{names}

-- an extent, and how many of its pages no shard has, of an answer
abbrev pub reclaimed_extent : Option Reclaimed → Option (ℕ × ℕ)
reclaimed_extent None = None
reclaimed_extent (Some swept) = Some (swept.extent, swept.dead)

module _ {D : Type 0} (disks : PageDisk D) where
  -- After the reads the extent that was chosen is swept, so many chunks are moved off it and it is retired under this
  -- root; where none was chosen nothing else is done.
  abbrev pub Reclaims : (read : View D) → Option Reclaimed → (new : View D) → Type 0
  Reclaims read None new = new ≡ read
  Reclaims read (Some swept) new = SweepsReady disks swept.extent read new swept.moved swept.root

  -- The extent is chosen by what reads find, and reclaimed after them: so of any pages that the disk has, and of all
  -- the chunks that live on them.
  abbrev pub ReclaimsChosen : {E : Type 0} → (old : View D) → Result (Option Reclaimed) E → (new : View D) → Type 0
  ReclaimsChosen old result new = (view : ℕ → List ℕ) (chunks : List Chunk) → AreNewest old.store.graph (seen (disks.state old.disk)) view → AreLiveChunks (index_of old.store.index) chunks
      → IfOk result (λ found. (read : View D) × ReadsOn disks old read × Reclaims read found new
      × GoesNext disks (heads_of old.store.extents view chunks) (names (index_of old.store.index)) old read (reclaimed_extent found))

  -- Memory was refused for the reads; or after them the extent that was chosen is declined.
  abbrev pub DeclinesChosen : List Head → (entries : ℕ) → (old : View D) → Refusal → (new : View D) → Type 0
  DeclinesChosen heads entries old refusal new = (read : View D) × ReadsOn disks old read
      × (((refusal ≡ OutOfMemory) × (new ≡ read))
      ⊎ ((extent : ℕ) × (dead : ℕ) × GoesNext disks heads entries old read (Some (extent, dead)) × DeclinesSweep disks extent read new refusal))
