-- The numbers of the formats in which stores are written, and what goes by the number alone.
use Rattle.std.specs.Prelude.{◌≡◌, ℕ, Bool, refl, true, false}
use Rattle.law_machine.specs.Format.{Format, Four, Two}
use Rattle.cs_frame.specs.declared.formats.FormatNumber.{FormatNumber}
use Rattle.cs_frame.specs.declared.formats.FormatNumber.TheVariants as number
use Rattle.cs_frame.specs.declared.formats.Known.{Known}
use Rattle.cs_frame.specs.declared.formats.Known.TheVariants as known

-- the number of a format
abbrev pub number_in : Format → FormatNumber
number_in Two = number.Two
number_in (Four store device) = number.Four

-- a format as code holds it, and back
abbrev pub format_known : Known → Format
format_known known.Two = Two
format_known (known.Four id device) = Four id.0 device

abbrev pub known_as : Format → Known
known_as Two = known.Two
known_as (Four store device) = known.Four (record { 0 = store }) device

-- which is the one that was held
pub known_again : (held : Known) → known_as (format_known held) ≡ held
known_again known.Two = refl
known_again (known.Four id device) = refl

-- the number as it is counted
abbrev pub counted_as : FormatNumber → ℕ
counted_as number.Two = 2
counted_as number.Four = 4

-- the digit of a section of the superblock, its fourth byte: 2 or 4
abbrev pub section_digit : FormatNumber → ℕ
section_digit number.Two = 50
section_digit number.Four = 52

-- the digit of a root and of a frame, their fourth byte: 1 in format 2, and 4 in format 4
abbrev pub page_digit : FormatNumber → ℕ
page_digit number.Two = 49
page_digit number.Four = 52

-- locators have marks
abbrev pub is_marked : FormatNumber → Bool
is_marked number.Two = false
is_marked number.Four = true

-- the greatest number of runs of a root
abbrev pub greatest_runs : FormatNumber → ℕ
greatest_runs number.Two = 4
greatest_runs number.Four = 24
