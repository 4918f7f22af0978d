-- Where frames go by a store's own rule, and room for them in format 2, as two numbers.
use Rattle.std.specs.Prelude.{◌≡◌, ◌≤◌, ◌-◌, ℕ, true, All, length, List, Option, Some, None, nat_le, nat_lt, if◌then◌else◌}
use Rattle.law_machine.specs.Device.{Shape}
use Rattle.law_machine.specs.Extents.{FitsBy, Goes, Purpose as Reason}
use Rattle.cs_extent.specs.declared.purposes.Purpose.{Purpose}
use Rattle.cs_extent.specs.declared.purposes.Purpose.TheVariants.{Put}
use Rattle.cs_extent.specs.declared.places_v2.Supply.{Supply}
use Rattle.cs_extent.specs.State.{State, extents_of, shape}

-- a frame of so many pages goes to e, by the extents' own rule
abbrev pub GoesIn : State → Reason → (pages e : ℕ) → Type 0
GoesIn x reason pages e = Goes (shape x) (shape x).apart (extents_of x) reason pages e

-- frames of these numbers of pages, one after another, all go somewhere, by the extents' own rule
abbrev pub FitIn : State → Reason → (pages : List ℕ) → Type 0
FitIn x reason pages = FitsBy (shape x) (shape x).apart (extents_of x) reason pages

-- each of these is a number of pages that a frame may have: from one to an extent's
abbrev pub AreFrameSizes : Shape → (pages : List ℕ) → Type 0
AreFrameSizes S pages = All (λ k. (1 ≤ k) × (k ≤ S.pages)) pages

-- where chunks and runs lie apart, these frames are the chunks of a put
abbrev pub AreFew : Shape → Purpose → (pages : List ℕ) → Type 0
AreFew S purpose pages = S.apart ≡ true → (length pages ≤ 8) × (purpose ≡ Put)

-- how many pages of the open extent are left
abbrev pub room_at : (pages : ℕ) → (pointer : ℕ → ℕ) → Option ℕ → ℕ
room_at pages pointer None = 0
room_at pages pointer (Some e) = pages - pointer e

-- what is left once a frame was placed, where it can be
abbrev pub left_after : (extent_pages spare : ℕ) → Supply → (frame_pages : ℕ) → Option Supply
left_after extent_pages spare s frame_pages =
    if nat_le frame_pages s.room then Some (record { room = s.room - frame_pages; empty = s.empty })
    else if nat_lt spare s.empty then Some (record { room = extent_pages - frame_pages; empty = s.empty - 1 })
    else None
