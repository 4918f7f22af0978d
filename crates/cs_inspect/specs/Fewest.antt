-- Which extent is swept: one with few live pages.
use Rattle.std.specs.Prelude.{◌≡◌, ◌≢◌, ◌⊎◌, ◌+◌, ◌-◌, ◌<◌, ◌≤◌, ℕ, false, List, Option, Some, slice_get}
use Rattle.cs_inspect.specs.declared.surveys.ExtentUse.{ExtentUse}

-- All that lives there may be moved: chunks lie there, none of them has an unreadable header, and no sweep goes on
-- there.
pub record IsMovable (used : ExtentUse) : Type 0 where
  pub given : 0 < used.pointer
  pub of_chunks : used.holds_runs ≡ false
  pub at_rest : used.is_swept ≡ false
  pub readable : used.unreadable ≡ 0

-- extent e is used so, it is another one than this, and all that lives there may be moved
abbrev pub IsOther : List ExtentUse → (but : Option ℕ) → (e : ℕ) → ExtentUse → Type 0
IsOther uses but e used = (slice_get uses e ≡ Some used) × (but ≢ Some e) × IsMovable used

-- what lives on both has room on one extent of so many pages
abbrev pub FitOnOne : (pages : ℕ) → (one other : ExtentUse) → Type 0
FitOnOne pages one other = one.live + other.live ≤ pages

-- Of the extents that are such, e is one with fewest live pages, and the first of those with as few.
pub record IsFewestOf (Such : ℕ → ExtentUse → Type 0) (e : ℕ) : Type 0 where
  pub its : ExtentUse
  pub there : Such e its
  pub fewest : (k : ℕ) (used : ExtentUse) → Such k used → (its.live < used.live) ⊎ ((its.live ≡ used.live) × (e ≤ k))

-- so it is of the extents but this one from which all may be moved
abbrev pub IsFewest : List ExtentUse → (but : Option ℕ) → (e : ℕ) → Type 0
IsFewest uses but e = IsFewestOf (IsOther uses but) e

-- from no extent but this one may all be moved
abbrev pub NoOther : List ExtentUse → (but : Option ℕ) → Type 0
NoOther uses but = (e : ℕ) (used : ExtentUse) → ¬ IsOther uses but e used

-- Extent e has fewest live pages of those but the last one, and what lives there and on another one fits on one.
pub record IsFewestLive (uses : List ExtentUse) (last : Option ℕ) (pages e : ℕ) : Type 0 where
  pub best : IsFewest uses last e
  pub partner : (k : ℕ) × (used : ExtentUse) × IsOther uses (Some e) k used × FitOnOne pages best.its used

-- of no two extents from which all may be moved does what lives there fit on one
abbrev pub NoTwoFit : List ExtentUse → (pages : ℕ) → Type 0
NoTwoFit uses pages = (e : ℕ) (one : ExtentUse) (k : ℕ) (other : ExtentUse) → (slice_get uses e ≡ Some one) × IsMovable one → IsOther uses (Some e) k other
    → ¬ FitOnOne pages one other

-- ---- seeking it

-- extent e is used so, it is another one than this, all that lives there may be moved, and so many pages at least are dead there
abbrev pub IsSought : List ExtentUse → (but : Option ℕ) → (dead e : ℕ) → ExtentUse → Type 0
IsSought uses but dead e used = (slice_get uses e ≡ Some used) × (but ≢ Some e) × IsMovable used × (dead ≤ used.pointer - used.live)

-- of those it has fewer live pages than the one that was found, where one was
abbrev pub HasFewer : List ExtentUse → (but : Option ℕ) → (dead : ℕ) → (found : Option ℕ) → ℕ → Type 0
HasFewer uses but dead found e = (used : ExtentUse) × IsSought uses but dead e used
    × ((k : ℕ) (best : ExtentUse) → found ≡ Some k → slice_get uses k ≡ Some best → used.live < best.live)

-- it hasn't, if it is one of them
abbrev pub HasNoFewer : List ExtentUse → (but : Option ℕ) → (dead : ℕ) → (found : Option ℕ) → ℕ → Type 0
HasNoFewer uses but dead found e = (used : ExtentUse) → IsSought uses but dead e used
    → (k : ℕ) × (best : ExtentUse) × (found ≡ Some k) × (slice_get uses k ≡ Some best) × (best.live ≤ used.live)

-- there is none of them
abbrev pub NoneSought : List ExtentUse → (but : Option ℕ) → (dead : ℕ) → Type 0
NoneSought uses but dead = (e : ℕ) (used : ExtentUse) → ¬ IsSought uses but dead e used
