-- What formats 1 and 2 have in fewer words. Stage where it doesn't merge by size and chunks and runs may lie on one extent: in two
-- branches. And when a put is refused 32 where each entry weighs one.
use Rattle.std.specs.Prelude.{◌≡◌, ◌≢◌, ◌⊎◌, ◌<◌, ◌≤◌, ◌∷◌, ℕ, suc, false, List, length, []}
use Rattle.law_machine.specs.Append.{AppendsFrame}
use Rattle.law_machine.specs.Device.{Shape}
use Rattle.law_machine.specs.Element.{Entry, Locator, Run}
use Rattle.law_machine.specs.Events.{Merged, rooted}
use Rattle.law_machine.specs.Extents.{ForRun}
use Rattle.law_machine.specs.Formats.{Formats, RunFrame}
use Rattle.law_machine.specs.Grounds.{NoRoomForRun, NoRoomForTable, is_named}
use Rattle.law_machine.specs.Index.{IsTableRun, names}
use Rattle.law_machine.specs.State.{State, index_now}

module _ (S : Shape) (F : Formats) where
  -- the table becomes the newest run where there are fewer than four, else all that lives becomes one run
  abbrev pub StagesAsBefore : State → (version : ℕ) → State → Type 0
  StagesAsBefore s v t = (s.table ≢ []) × (v ≡ suc s.world.root)
      × (((length s.runs < 4) × (entries : List Entry) × (l : Locator) × (mid : State) × IsTableRun s.table entries
      × AppendsFrame S F s ForRun RunFrame (F.run entries) l mid
      × (t ≡ rooted S F mid (record { place = l; entries = entries } ∷ s.runs) mid.world.extents.pointer))
      ⊎ ((4 ≤ length s.runs) × (mid : State) × (runs : List Run) × Merged S F s ForRun mid runs
      × (t ≡ rooted S F mid runs mid.world.extents.pointer)))

  -- that run goes nowhere
  abbrev pub FullAsBefore : State → Type 0
  FullAsBefore s = ((length s.runs < 4) × NoRoomForTable S F s) ⊎ ((4 ≤ length s.runs) × NoRoomForRun S F s ForRun)

  -- the identifier isn't named, and as many are as may be
  abbrev pub NamesFull : State → (id : ℕ) → Type 0
  NamesFull s id = (is_named S F s id ≡ false) × (S.most_weight ≤ names (index_now s))
