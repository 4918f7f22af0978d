-- The frame that a locator means, and the tests of it.
use Rattle.std.specs.Prelude.{ℕ, ◌==◌, List, [], ◌∷◌, Option}
use Rattle.cs_frame.specs.declared.faults.FormatFault.{FormatFault}
use Rattle.cs_frame.specs.declared.faults.FormatFault.TheVariants.{BadLength, Misplaced}
use Rattle.cs_frame.specs.Faults.{first_fault, unless}
use Rattle.cs_frame.specs.FormatNumbers.{number_in}
use Rattle.cs_frame.specs.Frames.{first_page, frame_fault, header_fault}
use Rattle.cs_frame.specs.Heads.{is_long_in}
use Rattle.law_machine.specs.Format.{Format}
use Rattle.law_machine.specs.Geometry.{mark_in}

-- the frame that begins with this page has the mark, where the format has marks
abbrev pub mark_test : Format → (mark : ℕ) → (first : List ℕ) → Option FormatFault
mark_test format mark first = unless (mark_in format first == mark) Misplaced

-- it is long enough for what it holds
abbrev pub long_test : Format → (first : List ℕ) → Option FormatFault
long_test format first = unless (is_long_in format first) BadLength

-- what is wrong with a first page as that of the frame that a locator of this mark means: what is wrong with the
-- header, else that it is another frame's
abbrev pub meant_header_fault : Format → (kind mark : ℕ) → (first : List ℕ) → (there : ℕ) → Option FormatFault
meant_header_fault format kind mark first there =
    first_fault (header_fault (number_in format) kind first there ∷ mark_test format mark first ∷ [])

-- so with all its pages, and else that it is too short for what it holds
abbrev pub meant_fault : Format → (kind mark : ℕ) → List (List ℕ) → Option FormatFault
meant_fault format kind mark pages = first_fault
    (frame_fault (number_in format) kind pages ∷ mark_test format mark (first_page pages) ∷ long_test format (first_page pages) ∷ [])
