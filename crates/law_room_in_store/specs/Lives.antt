-- What becomes of a core: calls, crashes between them or in the midst of one, and openings of what they left.
use Rattle.std.specs.Prelude.{◌≡◌, ◌⊎◌, ◌∷◌, List, []}
use Rattle.cs_disk.specs.declared.disk.PageDisk.{Ghosts as PageDisk}
use Rattle.cs_disk.specs.Disk.{GoesOn, MayLeave}
use Rattle.cs_extent.specs.State.{shape}
use Rattle.cs_core.specs.Views.{IsCore, View}
use Rattle.law_room_in_store.specs.Cores.{NoneWornIn}
use Rattle.law_room_in_store.specs.Sweeps.{Call, IsMade}

module _ {D : Type 0} (disks : PageDisk D) where
  -- It is a core, on an honest disk, of which no extent is worn out.
  pub record IsAlive (v : View D) : Type 0 where
    pub core : IsCore disks v
    pub honest : disks.honest v.disk
    pub young : NoneWornIn v

  -- w was opened on what a crash left of v
  pub record IsReopened (v w : View D) : Type 0 where
    pub left : MayLeave (disks.state v.disk) w.opened
    pub same_shape : shape w.store.extents ≡ shape v.store.extents

  -- w was opened on what a crash left in the midst of a call of v
  pub record IsCutShort (v w : View D) : Type 0 where
    -- the core that the call would have led to
    pub cut : View D
    pub alive : IsAlive cut
    pub call : Call
    pub made : IsMade disks v call cut
    pub time : GoesOn disks.honest disks.state disks.moment disks.left_since v.disk cut.disk
    pub left : disks.left_since cut.disk (disks.moment v.disk) w.opened
    pub same_shape : shape w.store.extents ≡ shape v.store.extents

  -- w is v after one call, or was opened on what a crash left
  abbrev pub Comes : View D → View D → Type 0
  Comes v w = ((call : Call) × IsMade disks v call w) ⊎ IsReopened v w ⊎ IsCutShort v w

  -- from v on these cores came one after another, up to w
  abbrev pub Lives : View D → List (View D) → View D → Type 0
  Lives v [] w = IsAlive v × (w ≡ v)
  Lives v (mid ∷ others) w = IsAlive v × Comes v mid × Lives mid others w
