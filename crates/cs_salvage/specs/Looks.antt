-- How far a scan of a device is that passes over pages.
use Rattle.std.specs.Prelude.{◌+◌, ◌*◌, ◌<◌, ◌≤◌, ℕ, List, All, Contains, min}
use Rattle.std.specs.List.{AllPairs}
use Rattle.cs_disk.specs.Disk.{Image}
use Rattle.cs_frame.specs.Geometries.{Dimensions}
use Rattle.cs_salvage.specs.Parts.{IsBefore, IsPart, shape_in}
use Rattle.cs_salvage.specs.Passed.{ArePassed, Avoids, first_page_of}
use Rattle.cs_salvage.specs.declared.finds.Place.{Place}
use Rattle.cs_salvage.specs.declared.parts.Part.{Part}
use Rattle.cs_salvage.specs.declared.searches.Sought.{Sought}

-- the pages that are looked at end before this one, on a device of so many
abbrev pub look_end : Dimensions → (count : ℕ) → ℕ
look_end g count = min (2 + g.extents * g.pages) count

-- Whatever the disk answers: the pages that were passed over lie before a page, and the parts that were found end before
-- it. No part has one of these pages.
pub record AreApart (g : Dimensions) (first count end : ℕ) (passed : List ℕ) (parts : List Part) : Type 0 where
  pub passed_are : ArePassed g first count passed
  pub before : All (λ (p : ℕ). p < end) passed
  pub ended : All (λ (part : Part). first_page_of g part + part.pages ≤ end) parts
  pub avoid : All (Avoids g passed) parts

-- These are all parts that begin from one page on and before another, without those of which a page was passed over.
pub record AreFoundBefore (sought : Sought) (image : Image) (first end : ℕ) (passed : List ℕ) (parts : List Part) : Type 0 where
  pub sound : (part : Part) → Contains parts part
      → (first ≤ first_page_of sought.geometry part) × (first_page_of sought.geometry part < end) × ((payload : List ℕ) × IsPart sought image part payload)
  pub complete : (part : Part) (payload : List ℕ) → IsPart sought image part payload → first ≤ first_page_of sought.geometry part
      → first_page_of sought.geometry part < end → Avoids sought.geometry passed part → Contains parts part
  pub ordered : AllPairs IsBefore parts

-- each part that begins from one page on and before another, and of which no page was passed over, ends before this end
abbrev pub AreWithin : Sought → Image → (from before end : ℕ) → (passed : List ℕ) → Type 0
AreWithin sought image from before end passed = (part : Part) (payload : List ℕ) → IsPart sought image part payload
    → from ≤ first_page_of sought.geometry part → first_page_of sought.geometry part < before → Avoids sought.geometry passed part
    → first_page_of sought.geometry part + part.pages ≤ end

-- the page of the device that is a page of an extent
abbrev pub number_of : Dimensions → Place → ℕ
number_of g place = (shape_in g).address place.extent place.page

-- these parts end before this page
abbrev pub AreEnded : Dimensions → (end : ℕ) → List Part → Type 0
AreEnded g end parts = All (λ (part : Part). first_page_of g part + part.pages ≤ end) parts
