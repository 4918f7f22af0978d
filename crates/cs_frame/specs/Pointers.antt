-- Pointers and generations of extents, as a page of a superblock spells them in any format, and the tests that the
-- formats share.
use Rattle.std.specs.Prelude.{ℕ, ◌/◌, ◌^◌, ◌<◌, ◌≤◌, ◌&&◌, List, ◌++◌, length, map, flat_map, Option, nat_le, nat_lt}
use Rattle.std.specs.List.{list_all}
use Rattle.std.specs.Simd.{first_chunks}
use Rattle.byteorder.specs.Endian.{big_bytes}
use Rattle.cs_frame.specs.declared.faults.FormatFault.{FormatFault}
use Rattle.cs_frame.specs.declared.faults.FormatFault.TheVariants.{BadLength, BadVersion}
use Rattle.cs_frame.specs.Bytes.{number}
use Rattle.cs_frame.specs.Faults.{unless}

-- | 0 | 2 | pointer: how many pages are given   |
-- | 2 | 4 | generation                          |
abbrev pub spelled_extent : ℕ × ℕ → List ℕ
spelled_extent extent = big_bytes 2 extent.0 ++ big_bytes 4 extent.1

-- pointers and generations one behind the other
abbrev pub spelled_extents : List (ℕ × ℕ) → List ℕ
spelled_extents extents = flat_map spelled_extent extents

-- an extent's pointer is at most the number of its pages
pub record FitsExtent (pages : ℕ) (extent : ℕ × ℕ) : Type 0 where
  pub pointer : extent.0 ≤ pages
  pub generation : extent.1 < 2 ^ 32

-- the generation fits its field
pub record FitsGeneration (extent : ℕ × ℕ) : Type 0 where
  pub generation : extent.1 < 2 ^ 32

-- the pointer and generation that 6 bytes spell
abbrev pub extent_in : List ℕ → ℕ × ℕ
extent_in bytes = (number 0 2 bytes, number 2 6 bytes)

-- the pointers and generations that bytes spell, 6 bytes each
abbrev pub extents_from : List ℕ → List (ℕ × ℕ)
extents_from bytes = map extent_in (first_chunks 6 (length bytes / 6) bytes)

-- the version is in range
abbrev pub superblock_range_test : List ℕ → Option FormatFault
superblock_range_test bytes = unless (nat_le 1 (number 4 12 bytes) && nat_lt (number 4 12 bytes) (2 ^ 63)) BadVersion

-- no pointer is past so many pages
abbrev pub pointers_test : (pages : ℕ) → List (ℕ × ℕ) → Option FormatFault
pointers_test pages extents = unless (list_all (λ extent. nat_le extent.0 pages) extents) BadLength
