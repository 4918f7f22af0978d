-- The machine's pages in these formats.
use Rattle.std.specs.Prelude.{ℕ, ◌^◌, ◌==◌, ◌&&◌, zero, suc, Bool, true, false, List, [], ◌∷◌, length, map, nat_le, nat_lt, option_map, reverse, if◌then◌else◌}
use Rattle.std.specs.List.{list_all}
use Rattle.law_machine.specs.Device.{Shape}
use Rattle.law_machine.specs.Format.{Format, Four, Two}
use Rattle.law_machine.specs.Element.{Entry as NamedEntry, Locator as Place}
use Rattle.law_machine.specs.Formats.{Formats, FrameKind, ChunkFrame, RunFrame}
use Rattle.law_machine.specs.Refusal.{Refusal, BadMagic, BadDigest, BadLength, BadPadding, BadVersion, Misplaced}
use Rattle.cs_frame.specs.declared.faults.FormatFault.{FormatFault}
use Rattle.cs_frame.specs.declared.faults.FormatFault.TheVariants as fault
use Rattle.cs_frame.specs.declared.locators.Locator.{Locator}
use Rattle.cs_frame.specs.FirstFormat.{spelled_first_format}
use Rattle.cs_frame.specs.Frames.{frame_fault, spelled_frame}
use Rattle.cs_frame.specs.FormatNumbers.{greatest_runs, number_in}
use Rattle.cs_frame.specs.Heads.{body_in, chunk_in, is_long_in}
pub use Rattle.cs_frame.specs.Identifiers.{id_bytes}
use Rattle.cs_frame.specs.Roots.{identity_in, spelled_root}
use Rattle.cs_frame.specs.FormatRuns.{spelled_run}
use Rattle.cs_frame.specs.Locators.{most_mark}
use Rattle.cs_frame.specs.Runs.{Entry}
use Rattle.law_machine.specs.Geometry.{marks_in}
use Rattle.cs_frame.specs.Superblocks.{spelled_superblock}

-- the byte of a kind of frame
abbrev pub kind_number : FrameKind → ℕ
kind_number ChunkFrame = 0
kind_number RunFrame = 1

-- a locator of the machine as it is spelled here
abbrev pub as_locator : Place → Locator
as_locator l = record { extent = l.extent; page = l.page; generation = l.generation; mark = l.mark }

-- a locator as the machine has it
abbrev pub place_of : Locator → Place
place_of l = record { extent = l.extent; page = l.page; generation = l.generation; mark = l.mark }

-- an entry of the machine as a run spells it
abbrev pub as_entry : NamedEntry → Entry
as_entry x = record { id = id_bytes x.id; locators = map as_locator x.locators }

-- pointer and generation of each of these extents, from the first on, that the section speaks of
abbrev pub extents_of : (speaks pointers generations : ℕ → ℕ) → (section first count : ℕ) → List (ℕ × ℕ)
extents_of speaks pointers generations section first zero = []
extents_of speaks pointers generations section first (suc count) =
    if speaks first == section
    then (pointers first, generations first) ∷ extents_of speaks pointers generations section (suc first) count
    else extents_of speaks pointers generations section (suc first) count

-- a fault as the machine's refusal of the same number; for the last three there is none, and no frame has them
abbrev pub refusal_of : FormatFault → Refusal
refusal_of fault.BadMagic = BadMagic
refusal_of fault.BadDigest = BadDigest
refusal_of fault.BadLength = BadLength
refusal_of fault.BadPadding = BadPadding
refusal_of fault.BadVersion = BadVersion
refusal_of fault.Misplaced = Misplaced
refusal_of fault.BadGeometry = BadLength
refusal_of fault.OutOfMemory = BadLength
refusal_of fault.OutOfOrder = BadLength

-- each number of a locator fits its field
abbrev pub fits_locator : (marked : Bool) → Place → Bool
fits_locator marked l =
    nat_lt l.extent (2 ^ 16) && nat_lt l.page (2 ^ 16) && nat_lt l.generation (2 ^ 32) && nat_le l.mark (most_mark marked)

-- a root has a spelling
abbrev pub fits_root : (format : Format) (version commands : ℕ) → List Place → Bool
fits_root format version commands runs =
    nat_le 1 version && nat_lt version (2 ^ 63) && nat_lt commands (2 ^ 63) && nat_le (length runs) (greatest_runs (number_in format))
    && list_all (fits_locator (marks_in format)) runs

-- an entry has at most eight locators, which fit
abbrev pub fits_entry : (marked : Bool) → NamedEntry → Bool
fits_entry marked x = nat_le (length x.locators) 8 && list_all (fits_locator marked) x.locators

-- each identifier is greater than the one before
abbrev pub rises : List NamedEntry → Bool
rises [] = true
rises (x ∷ []) = true
rises (x ∷ y ∷ entries) = nat_lt x.id y.id && rises (y ∷ entries)

-- a run has a spelling; the model sets no bound to an identifier's number, and here there is none
abbrev pub fits_run : (marked : Bool) → List NamedEntry → Bool
fits_run marked entries =
    nat_le 1 (length entries) && nat_lt (length entries) (2 ^ 32) && list_all (fits_entry marked) entries && rises entries

-- in a store of format 2 a superblock of one section that is written in the first format is one page for all extents
abbrev pub is_first_format : (format : Format) (number sections : ℕ) → Bool
is_first_format Two number sections = (number == 1) && (sections == 1)
is_first_format (Four store device) number sections = false

-- The formats of a store of this shape. A superblock is in sections as the store's format has them, but where it is
-- in the first format. A root lists its runs oldest first, which the machine has newest first.
abbrev pub formats_of : Shape → Formats
formats_of S = record {
  superblock = λ number section version recorded pointers generations.
      if is_first_format S.format number S.sections
      then spelled_first_format version S.pages (extents_of S.section pointers generations section 0 S.extents)
      else spelled_superblock S.format version recorded S.extents S.pages S.sections section
      (extents_of S.section pointers generations section 0 S.extents);
  root = λ version commands runs. spelled_root (identity_in S.format) version commands (map as_locator (reverse runs));
  frame = λ kind payload. spelled_frame (number_in S.format) (kind_number kind) payload;
  fault = λ kind pages. option_map refusal_of (frame_fault (number_in S.format) (kind_number kind) pages);
  is_long = is_long_in S.format;
  chunk = chunk_in S.format;
  body = body_in S.format;
  run = λ entries. spelled_run S.format (map as_entry entries);
  fits_root = fits_root S.format;
  fits_run = fits_run (marks_in S.format);
}
