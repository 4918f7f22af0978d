-- The greatest number of a command among the parts on a device.
use Rattle.std.specs.Prelude.{◌≡◌, ◌⊎◌, ◌+◌, ◌<◌, ◌≤◌, ℕ, true, List, Some, Contains, max}
use Rattle.cs_disk.specs.Disk.{Image}
use Rattle.cs_salvage.specs.Frames.{IsOfFrame}
use Rattle.cs_salvage.specs.Looks.{AreWithin}
use Rattle.cs_salvage.specs.Parts.{IsPart, IsSought}
use Rattle.cs_salvage.specs.Passed.{Avoids, first_page_of}
use Rattle.cs_salvage.specs.declared.parts.Part.{Part}
use Rattle.cs_salvage.specs.declared.scans.Counted.{Counted}
use Rattle.cs_salvage.specs.declared.scans.Scanned.{Scanned}
use Rattle.cs_salvage.specs.declared.searches.Sought.{Sought}

-- a part begins within another one, after its first page
abbrev pub BeginsWithin : (outer part : Part) → Type 0
BeginsWithin outer part = (outer.extent ≡ part.extent) × (outer.page < part.page) × (part.page < outer.page + outer.pages)

-- a part begins within one of these
abbrev pub IsWithinOneOf : List Part → Part → Type 0
IsWithinOneOf parts part = (outer : Part) × Contains parts outer × BeginsWithin outer part

-- a part begins within none of these, but for those that begin within another one themselves
abbrev pub IsOutside : List Part → Part → Type 0
IsOutside parts part = (outer : Part) → Contains parts outer → BeginsWithin outer part → IsWithinOneOf parts outer

-- one of these parts that is outside of the others has this number, or it is 0
abbrev pub IsOfOneOutside : List Part → (number : ℕ) → Type 0
IsOfOneOutside parts number = (number ≡ 0) ⊎ ((part : Part) × Contains parts part × IsOutside parts part × (part.head.command ≡ number))

-- a part begins within the last one that counted
abbrev pub IsWithinLast : Counted → Part → Type 0
IsWithinLast counted part = (outer : Part) × (counted.last ≡ Some outer) × BeginsWithin outer part

-- A part that begins within the last one that counted changes nothing. Another one counts, and is then the last.
abbrev pub CountsOn : (old : Counted) → Part → (new : Counted) → Type 0
CountsOn old part new = (IsWithinLast old part × (new ≡ old))
    ⊎ ((IsWithinLast old part → ⊥) × (new.greatest ≡ max old.greatest part.head.command) × (new.last ≡ Some part))

-- One of these parts has this number, or it is 0; and none that begins outside of the others has a greater one.
pub record IsGreatestOf (parts : List Part) (number : ℕ) : Type 0 where
  pub sound : (number ≡ 0) ⊎ ((part : Part) × Contains parts part × (part.head.command ≡ number))
  pub greatest : (part : Part) → Contains parts part → (part.head.command ≤ number) ⊎ ((outer : Part) × Contains parts outer × BeginsWithin outer part)

-- the part begins within one that is sought, too
abbrev pub IsWithinAPart : Sought → Image → Part → Type 0
IsWithinAPart sought image part = (outer : Part) × (payload : List ℕ) × IsPart sought image outer payload × BeginsWithin outer part

-- the part begins within none that is sought, but for those that begin within another one themselves
abbrev pub IsOutermost : Sought → Image → Part → Type 0
IsOutermost sought image part = (outer : Part) (payload : List ℕ) → IsPart sought image outer payload → BeginsWithin outer part → IsWithinAPart sought image outer

-- a part that is outside of the others has this number, or it is 0
abbrev pub IsOfAPart : Sought → Image → (number : ℕ) → Type 0
IsOfAPart sought image number = (number ≡ 0)
    ⊎ ((part : Part) × (payload : List ℕ) × IsPart sought image part payload × IsOutermost sought image part × (part.head.command ≡ number))

-- the part of a frame that some pages spell, of a store whose chunks are sought, has this number, or it is 0
abbrev pub IsOfAFrame : Sought → (number : ℕ) → Type 0
IsOfAFrame sought number =
    (number ≡ 0) ⊎ ((part : Part) × IsOfFrame part × IsSought sought part.store × (part.head.command ≡ number))

-- a part ends before this page of the device, and none of these pages is one of its frame
pub record IsPartBefore (sought : Sought) (image : Image) (end : ℕ) (passed : List ℕ) (part : Part) (payload : List ℕ) : Type 0 where
  pub is : IsPart sought image part payload
  pub ends : first_page_of sought.geometry part + part.pages ≤ end
  pub avoids : Avoids sought.geometry passed part

-- a part begins within such a one
abbrev pub IsWithinBefore : Sought → Image → (end : ℕ) → (passed : List ℕ) → Part → Type 0
IsWithinBefore sought image end passed part = (outer : Part) × (bytes : List ℕ) × IsPartBefore sought image end passed outer bytes × BeginsWithin outer part

-- A part begins within none of which no page was passed over, but for those that begin within another one themselves.
abbrev pub IsOutermostBefore : Sought → Image → (end : ℕ) → (passed : List ℕ) → Part → Type 0
IsOutermostBefore sought image end passed part = (outer : Part) (payload : List ℕ) → IsPart sought image outer payload → Avoids sought.geometry passed outer
    → BeginsWithin outer part → IsWithinBefore sought image end passed outer

-- Of the parts that begin before this page, and of which no page was passed over: one that is outside of the others has
-- this number, or it is 0; and none that begins outside of others has a greater one. They end before this page.
pub record IsGreatestBefore (sought : Sought) (image : Image) (end : ℕ) (passed : List ℕ) (number : ℕ) : Type 0 where
  pub sound : (number ≡ 0)
      ⊎ ((part : Part) × (payload : List ℕ) × IsPartBefore sought image end passed part payload × IsOutermostBefore sought image end passed part × (part.head.command ≡ number))
  pub greatest : (part : Part) (payload : List ℕ) → IsPart sought image part payload → first_page_of sought.geometry part < end → Avoids sought.geometry passed part
      → (part.head.command ≤ number) ⊎ IsWithinBefore sought image end passed part
  pub ended : AreWithin sought image 0 end end passed

-- A part outside of the others has this number, or it is 0. If all was read, no part that begins outside of others has a
-- greater one.
pub record IsScanOf (sought : Sought) (image : Image) (scanned : Scanned) : Type 0 where
  pub sound : IsOfAPart sought image scanned.greatest
  pub greatest : scanned.is_whole ≡ true → (part : Part) (payload : List ℕ) → IsPart sought image part payload
      → (part.head.command ≤ scanned.greatest) ⊎ IsWithinAPart sought image part
