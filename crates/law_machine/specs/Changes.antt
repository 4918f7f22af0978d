-- What is read now, and what the root of an event and a reset do to the state.
use Rattle.std.specs.Prelude.{◌≡◌, ◌+◌, ℕ, Bool, false, List, length, []}
use Rattle.law_machine.specs.Append.{MergesTo}
use Rattle.law_machine.specs.Device.{Page, Shape}
use Rattle.law_machine.specs.Element.{Locator, Run}
use Rattle.law_machine.specs.Extents.{Purpose, marked}
use Rattle.law_machine.specs.Formats.{Formats, FrameKind}
use Rattle.law_machine.specs.Index.{Reads}
use Rattle.law_machine.specs.Lists.{with}
use Rattle.law_machine.specs.Machine.{ResetExtent, StageRoot, World, happens, newest_in}
use Rattle.law_machine.specs.State.{State, index_now, map_now}

-- the newest bytes of each page: the last write to it that was staged, else what was there at open
abbrev pub newest_page : State → ℕ → Page
newest_page s = newest_in s.opened s.world

-- e is marked as being swept, or no longer
abbrev pub mark : State → ℕ → Bool → State
mark s e b = record s { world = record s.world { extents = marked s.world.extents e b } }

module _ (S : Shape) (F : Formats) where
  -- the newest pages have the frame of this payload at a locator
  abbrev pub ReadsNow : State → Locator → FrameKind → List ℕ → Type 0
  ReadsNow s l kind payload =
      Reads S F s.opening (newest_page s) s.world.extents.pointer s.world.extents.generation l (F.frame kind payload)

  -- all runs and the table become one run of what is live, or none where nothing is
  abbrev pub Merged : State → Purpose → State → List Run → Type 0
  Merged s purpose t runs = (v : World) × MergesTo S F s.world (index_now s) purpose v runs
      × (t ≡ record s { world = v })

  -- the root of these runs is staged, and the table is empty
  abbrev pub rooted : State → List Run → (ℕ → ℕ) → State
  rooted s runs pointers = record s {
    world = happens S s.world (StageRoot (s.count + length s.commands) runs (map_now s) pointers);
    table = [];
    runs = runs;
  }

  -- an extent is reset under the last root, and isn't being swept any more
  abbrev pub reset_now : State → ℕ → State
  reset_now s e = mark (record s { world = happens S s.world (ResetExtent e) }) e false

  -- the root of these runs is staged, which locates nothing on the extent, and the extent is reset under it
  abbrev pub retired : State → List Run → ℕ → State
  retired s runs e = reset_now (rooted s runs (with s.world.extents.pointer e 0)) e
