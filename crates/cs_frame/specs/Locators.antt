-- A locator in 8 bytes, and in a format that has marks in 16.
use Rattle.std.specs.Prelude.{◌≡◌, ℕ, ◌<◌, ◌≤◌, ◌/◌, ◌^◌, Bool, true, false, List, ◌++◌, length, map, flat_map}
use Rattle.std.specs.List.{AllByRecursion}
use Rattle.std.specs.Simd.{first_chunks}
use Rattle.byteorder.specs.Endian.{big_bytes}
use Rattle.cs_frame.specs.Bytes.{number}
use Rattle.cs_frame.specs.declared.locators.Locator.{Locator}
use Rattle.law_machine.specs.Format.{Format}
use Rattle.law_machine.specs.Geometry.{marks_in}

-- how many bytes it takes
abbrev pub locator_size : (marked : Bool) → ℕ
locator_size false = 8
locator_size true = 16

-- | 0 | 2 | extent                   |
-- | 2 | 2 | page in the extent       |
-- | 4 | 4 | generation               |
-- | 8 | 8 | mark, where it has marks |
abbrev pub spelled_locator : (marked : Bool) → Locator → List ℕ
spelled_locator false l = big_bytes 2 l.extent ++ big_bytes 2 l.page ++ big_bytes 4 l.generation
spelled_locator true l = big_bytes 2 l.extent ++ big_bytes 2 l.page ++ big_bytes 4 l.generation ++ big_bytes 8 l.mark

-- locators one behind the other
abbrev pub spelled_locators : (marked : Bool) → List Locator → List ℕ
spelled_locators marked locators = flat_map (spelled_locator marked) locators

-- the greatest mark
abbrev pub most_mark : (marked : Bool) → ℕ
most_mark false = 0
most_mark true = 18446744073709551615

-- each number fits its field
pub record FitsLocator (marked : Bool) (l : Locator) : Type 0 where
  pub extent : l.extent < 2 ^ 16
  pub page : l.page < 2 ^ 16
  pub generation : l.generation < 2 ^ 32
  pub mark : l.mark ≤ most_mark marked

-- the locator that these bytes spell
abbrev pub locator_in : (marked : Bool) → List ℕ → Locator
locator_in false bytes = record { extent = number 0 2 bytes; page = number 2 4 bytes; generation = number 4 8 bytes; mark = 0 }
locator_in true bytes =
    record { extent = number 0 2 bytes; page = number 2 4 bytes; generation = number 4 8 bytes; mark = number 8 16 bytes }

-- the locators that bytes spell, so many bytes each
abbrev pub locators_in : (marked : Bool) → List ℕ → List Locator
locators_in marked bytes =
    map (locator_in marked) (first_chunks (locator_size marked) (length bytes / locator_size marked) bytes)

-- none has a mark
abbrev pub AreUnmarked : List Locator → Type 0
AreUnmarked locators = AllByRecursion (λ l. l.mark ≡ 0) locators

-- none has a mark where they have none to spell
abbrev pub KeepMarks : (marked : Bool) → List Locator → Type 0
KeepMarks marked locators = marked ≡ false → AreUnmarked locators

-- in format 2 none has a mark
abbrev pub KeepFormat : Format → List Locator → Type 0
KeepFormat format locators = KeepMarks (marks_in format) locators
