-- How a node chooses an extent to be swept in format 4.
use Rattle.std.specs.Prelude.{◌≡◌, ℕ, List, Option, None, Some}
use Rattle.cs_core.specs.Views.{View}
use Rattle.cs_disk.specs.declared.disk.PageDisk.{Ghosts as PageDisk}
use Rattle.cs_inspect.specs.Past.{ChoosesPast as ChoosesBoth}

-- the extent of a choice, without how many of its pages are dead
abbrev pub extent_in : Option (ℕ × ℕ) → Option ℕ
extent_in None = None
extent_in (Some (extent, dead)) = Some extent

module _ {D : Type 0} (disks : PageDisk D) where
  -- An extent is chosen, or none, and these are passed over.
  pub record ChoosesPast (passed : List ℕ) (old new : View D) (chosen : Option ℕ) : Type 0 where
    pub choice : Option (ℕ × ℕ)
    pub extent : extent_in choice ≡ chosen
    pub chooses : ChoosesBoth disks passed old new choice
