-- Where frames go that are to be appended one after another, how many versions of each section they take, and whether a
-- number would pass its greatest.
use Rattle.std.specs.Prelude.{◌≡◌, ◌⊎◌, ◌↔◌, ◌+◌, ◌^◌, ◌<◌, ◌≤◌, ◌==◌, ℕ, Bool, List, [], ◌∷◌, count_by, slice_index, sum}
use Rattle.cs_deps.specs.Staging.{Staging}
use Rattle.law_machine.specs.Device.{Shape}
use Rattle.law_machine.specs.Extents.{Extents, Goes, Purpose as Reason, taken_by}
use Rattle.cs_extent.specs.Frames.{IsWorn, family_of}
use Rattle.cs_extent.specs.State.{State, extents_of, shape}

-- a frame of so many pages has a place, and the number of one of its plain writes, or of the version of its extent's
-- section, would pass 2^63 - 1
abbrev pub IsFrameWornBy : (apart : Bool) → State → Reason → Staging → (pages : ℕ) → Type 0
IsFrameWornBy apart x reason s pages =
    (e : ℕ) × Goes (shape x) apart (extents_of x) reason pages e × IsWorn s ((shape x).section e) pages

-- so by the extents' own rule
abbrev pub IsFrameWorn : State → Reason → Staging → (pages : ℕ) → Type 0
IsFrameWorn x reason s pages = IsFrameWornBy (shape x).apart x reason s pages

-- frames of these numbers of pages go to these extents, one after another
abbrev pub ArePlacedBy : Shape → (apart : Bool) → Extents → Reason → (pages places : List ℕ) → Type 0
ArePlacedBy S apart x reason [] [] = Unit {0}
ArePlacedBy S apart x reason (k ∷ ks) (e ∷ es) =
    Goes S apart x reason k e × ArePlacedBy S apart (taken_by S apart reason x e k) reason ks es
ArePlacedBy S apart x reason [] (e ∷ es) = ⊥
ArePlacedBy S apart x reason (k ∷ ks) [] = ⊥

-- how many of these places are extents of section j
abbrev pub in_section : Shape → (j : ℕ) → (places : List ℕ) → ℕ
in_section S j places = count_by (λ e. S.section e == j) places

-- appending frames of these numbers of pages would take the number of a plain write, or of a version of a section, past
-- 2^63 - 1
abbrev pub AreWornBy : (apart : Bool) → State → Staging → Reason → (pages : List ℕ) → Type 0
AreWornBy apart x s reason pages = (2 ^ 63 ≤ s.staged + sum pages)
    ⊎ ((places : List ℕ) × ArePlacedBy (shape x) apart (extents_of x) reason pages places
    × (j : ℕ) × (j < x.sections) × (2 ^ 63 ≤ slice_index s.latest (family_of j) + in_section (shape x) j places))

-- so by the extents' own rule
abbrev pub AreWorn : State → Staging → Reason → (pages : List ℕ) → Type 0
AreWorn x s reason pages = AreWornBy (shape x).apart x s reason pages

-- e is the first empty extent of those from this one on
pub record IsEmptyFrom (extents : ℕ) (pointer : ℕ → ℕ) (start e : ℕ) : Type 0 where
  pub behind : start ≤ e
  pub inside : e < extents
  pub empty : pointer e ≡ 0
  pub first : (d : ℕ) → start ≤ d → d < e → 0 < pointer d

-- Frames of these numbers of pages take so many versions of each section: any number plus one of these counts is past
-- 2^63 - 1 exactly where it is with the true count. So a count may stop at a great number.
abbrev pub AreCountedBy : Shape → (apart : Bool) → Extents → Reason → (pages counts : List ℕ) → Type 0
AreCountedBy S apart x reason pages counts = (places : List ℕ) × ArePlacedBy S apart x reason pages places
    × ((j a : ℕ) → j < 15 → (2 ^ 63 ≤ a + in_section S j places) ↔ (2 ^ 63 ≤ a + slice_index counts j))

-- so by the extents' own rule
abbrev pub AreCounted : State → Reason → (pages counts : List ℕ) → Type 0
AreCounted x reason pages counts = AreCountedBy (shape x) (shape x).apart (extents_of x) reason pages counts
