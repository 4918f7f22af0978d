-- What is noted in memory of how many bytes the payloads of frames have.
use Rattle.std.specs.Prelude.{◌<◌, ◌==◌, ◌∷◌, ℕ, List, [], Option, Some, None, if◌then◌else◌, slice_get}
use Rattle.std.specs.List.{AllByRecursion}
use Rattle.cs_frame.specs.declared.locators.Locator.{Locator}
use Rattle.cs_core.specs.declared.lengths.Frame.{Frame}

-- what is noted of an extent in this generation of it: frames
pub record Row : Type 0 where
  pub generation : ℕ
  pub frames : List Frame

-- each begins on a later page than the one before it
abbrev pub Rise : List Frame → Type 0
Rise [] = Unit {0}
Rise (f ∷ fs) = AllByRecursion (λ g. f.page < g.page) fs × Rise fs

-- the frame that is noted of a page
abbrev pub frame_on : List Frame → (page : ℕ) → Option Frame
frame_on [] page = None
frame_on (f ∷ fs) page = if f.page == page then Some f else frame_on fs page

-- how many bytes it has, if it is the one of this mark
abbrev pub count_of : Option Frame → (mark : ℕ) → Option ℕ
count_of None mark = None
count_of (Some f) mark = if f.mark == mark then Some f.count else None

-- what is noted of an extent for a place in it
abbrev pub noted_in : Row → Locator → Option ℕ
noted_in row l = if row.generation == l.generation then count_of (frame_on row.frames l.page) l.mark else None

abbrev pub noted_of : Option Row → Locator → Option ℕ
noted_of None l = None
noted_of (Some row) l = noted_in row l

-- how many bytes are noted for this very place: of its extent, its generation, its page and its mark. What is noted of each
-- extent stands at the extent's number
abbrev pub noted_at : List Row → Locator → Option ℕ
noted_at rows l = noted_of (slice_get rows l.extent) l

-- what is noted for places of an extent once so many bytes were noted for k there: nothing of another generation, that alone
-- on its page, and on others what was noted before
abbrev pub noted_by : (old : Locator → Option ℕ) → (k : Locator) (count : ℕ) → Locator → Option ℕ
noted_by old k count l =
    if k.generation == l.generation then (if k.page == l.page then (if k.mark == l.mark then Some count else None) else old l) else None

-- what is noted for places of all extents then
abbrev pub noted_then : (old : Locator → Option ℕ) → (k : Locator) (count : ℕ) → Locator → Option ℕ
noted_then old k count l = if k.extent == l.extent then noted_by old k count l else old l
