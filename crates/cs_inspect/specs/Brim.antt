-- Which extent is swept next, up to the brim.
use Rattle.std.specs.Prelude.{◌≡◌, ◌⊎◌, ◌+◌, ◌-◌, ◌<◌, ◌≤◌, ◌==◌, ℕ, zero, suc, max, List, [], ◌∷◌, Option, Some, None, if◌then◌else◌, length, slice_get}
use Rattle.cs_inspect.specs.declared.surveys.ExtentUse.{ExtentUse}
use Rattle.cs_inspect.specs.Fewest.{IsFewest, IsFewestLive, IsFewestOf, IsMovable, NoOther, NoTwoFit}
use Rattle.cs_inspect.specs.Uses.{AreCounted, AreRead, Head, pages_in}

-- how many pages the greatest chunk has that these headers count
abbrev pub greatest_in : List Head → ℕ
greatest_in [] = 0
greatest_in (h ∷ hs) = max (pages_in h.1) (greatest_in hs)

-- of each extent it is counted what was read of these headers, and the greatest chunk is the greatest of those read
abbrev pub AreSurveyed : (before after : ℕ) → (heads : List Head) → List ExtentUse → (greatest : ℕ) → Type 0
AreSurveyed before after heads uses greatest = (read : List Head) × AreRead before after heads read × AreCounted read uses × (greatest ≡ greatest_in read)

-- extent e is used so, all that lives there may be moved, and a page is dead there: it is given, but doesn't live
abbrev pub HasDead : List ExtentUse → (e : ℕ) → ExtentUse → Type 0
HasDead uses e used = (slice_get uses e ≡ Some used) × IsMovable used × (used.live < used.pointer)

-- of the extents with dead pages e is the first with fewest live pages
abbrev pub IsFewestDead : List ExtentUse → (e : ℕ) → Type 0
IsFewestDead uses e = IsFewestOf (HasDead uses) e

-- no page is dead on any extent off which all may be moved
abbrev pub NothingDead : List ExtentUse → Type 0
NothingDead uses = (e : ℕ) (used : ExtentUse) → ¬ HasDead uses e used

-- how many pages of copies are sure to go to an extent, where no chunk has more pages than the greatest: all that are left behind
-- its pointer, but one fewer than the greatest has; none where not all may be moved off it
abbrev pub sure_on : (pages greatest : ℕ) → ExtentUse → ℕ
sure_on pages greatest used = if used.holds_runs then 0 else if used.is_swept then 0 else if used.pointer == 0 then 0
    else if used.unreadable == 0 then (pages - used.pointer) - (greatest - 1) else 0

abbrev pub sure_there : (pages greatest : ℕ) → Option ExtentUse → ℕ
sure_there pages greatest None = 0
sure_there pages greatest (Some used) = sure_on pages greatest used

-- so many are sure to go to extent e while x is swept
abbrev pub sure_at : List ExtentUse → (pages greatest x e : ℕ) → ℕ
sure_at uses pages greatest x e = if e == x then 0 else sure_there pages greatest (slice_get uses e)

-- the sum over the numbers below n
abbrev pub sum_below : (ℕ → ℕ) → ℕ → ℕ
sum_below h zero = 0
sum_below h (suc n) = h n + sum_below h n

-- a sweep of x is sure to gain an extent: something lives there, and all of it goes to others that hold chunks
abbrev pub IsSure : List ExtentUse → (pages greatest x : ℕ) → ExtentUse → Type 0
IsSure uses pages greatest x used = (0 < used.live) × (used.live ≤ sum_below (sure_at uses pages greatest x) (length uses))

-- of all extents off which all may be moved the fewest live pages are on e, and its sweep is sure to gain
abbrev pub IsSureFewest : List ExtentUse → (pages greatest e : ℕ) → Type 0
IsSureFewest uses pages greatest e = (best : IsFewest uses None e) × IsSure uses pages greatest e best.its

-- there is none, or its sweep isn't sure to gain
abbrev pub NoneSure : List ExtentUse → (pages greatest : ℕ) → Type 0
NoneSure uses pages greatest = NoOther uses None ⊎ ((e : ℕ) × (best : IsFewest uses None e) × ¬ IsSure uses pages greatest e best.its)

-- Extent e is the next. Where what lives on two fits on one, it is chosen as by `IsFewestLive`; else it is one with dead pages; else,
-- as nothing is dead, the one with fewest live pages, where its sweep is sure to gain.
abbrev pub IsNext : List ExtentUse → (last : Option ℕ) → (pages greatest e : ℕ) → Type 0
IsNext uses last pages greatest e = IsFewestLive uses last pages e
    ⊎ (NoTwoFit uses pages × IsFewestDead uses e)
    ⊎ (NoTwoFit uses pages × NothingDead uses × IsSureFewest uses pages greatest e)

-- None is: no two fit on one, nothing is dead, and the sweep of the one with fewest live pages isn't sure to gain.
pub record NoneNext (uses : List ExtentUse) (pages greatest : ℕ) : Type 0 where
  pub no_two : NoTwoFit uses pages
  pub nothing : NothingDead uses
  pub unsure : NoneSure uses pages greatest

-- what is chosen so: an extent, and how many of its pages no shard has
abbrev pub ChoosesNext : List ExtentUse → (last : Option ℕ) → (pages greatest : ℕ) → Option (ℕ × ℕ) → Type 0
ChoosesNext uses last pages greatest None = NoneNext uses pages greatest
ChoosesNext uses last pages greatest (Some (extent, dead)) = IsNext uses last pages greatest extent
    × ((used : ExtentUse) → slice_get uses extent ≡ Some used → used.pointer - used.live ≡ dead)
