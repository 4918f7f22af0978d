-- What the options of a command ask for.
use Rattle.std.specs.Prelude.{◌≡◌, ◌-◌, ◌^◌, ◌≤◌, ◌==◌, ℕ, Bool, false, true, if◌then◌else◌, List, Option, None, Some, codes, option_and_then, replicate, unwrap_or}
use Rattle.std.specs.Str.Parse.{without_leading_plus}
use Rattle.clap.specs.declared.parser.matches.ArgMatches.{ArgMatches}
use Rattle.clap.specs.Words.{first_value, found_of, one_text}
use Rattle.uuid.specs.Text.{parsed}
use Rattle.cs_frame.specs.Geometries.{IsGeometry, file_format, sections_needed}
use Rattle.law_machine.specs.Format.{Format, Two}
use Rattle.cs_script.specs.Lines.{decimal_of}

-- the number that a text stands for: decimal digits, before which a plus may stand; there is none from 2^64 on
abbrev pub number_of : List ℕ → Option ℕ
number_of text = decimal_of (without_leading_plus text)

-- the number of the option of this name: that of the text that was given for it, or of the one that stands for it where
-- none was
abbrev pub number_at : ArgMatches → (name : List ℕ) → Option ℕ
number_at options name = option_and_then number_of (one_text (found_of options) name)

-- of how many extents a new store is asked for: 6 where no number is there
abbrev pub extents_asked : ArgMatches → ℕ
extents_asked options = unwrap_or (number_at options (codes "extents")) 6

-- of how many pages each: 2 where no number is there
abbrev pub pages_asked : ArgMatches → ℕ
pages_asked options = unwrap_or (number_at options (codes "pages")) 2

-- in how many sections its superblock: as few as may be where no number is there
abbrev pub sections_asked : ArgMatches → ℕ
sections_asked options = unwrap_or (number_at options (codes "sections")) (sections_needed (extents_asked options))

-- the number of the format of a new store: 2 where no number is there
abbrev pub number_asked : ArgMatches → ℕ
number_asked options = unwrap_or (number_at options (codes "format")) 2

-- The format of this number. In format 4 it is that of a store with this identity, in a file as large as it needs.
-- There is none of another number.
abbrev pub format_numbered : (number : ℕ) (store : List ℕ) (extents pages sections : ℕ) → Option Format
format_numbered number store extents pages sections =
    if number == 2 then Some Two else if number == 4 then Some (file_format store extents pages sections) else None

-- of which format a new store with this identity is asked for
abbrev pub format_asked : (store : List ℕ) → ArgMatches → Option Format
format_asked store options =
    format_numbered (number_asked options) store (extents_asked options) (pages_asked options) (sections_asked options)

-- there is a store of these dimensions, of a format if there is one
abbrev pub IsGeometryOf : Option Format → (extents pages sections : ℕ) → Type 0
IsGeometryOf None extents pages sections = ⊥
IsGeometryOf (Some format) extents pages sections = IsGeometry format extents pages sections

-- there is one as is asked for
abbrev pub IsGeometryAsked : (store : List ℕ) → ArgMatches → Type 0
IsGeometryAsked store options =
    IsGeometryOf (format_asked store options) (extents_asked options) (pages_asked options) (sections_asked options)

-- with how many threads a race is asked for: 4 where no number is there
abbrev pub threads_asked : ArgMatches → ℕ
threads_asked options = unwrap_or (number_at options (codes "threads")) 4

-- how many shards each of them puts: 10 where no number is there
abbrev pub puts_asked : ArgMatches → ℕ
puts_asked options = unwrap_or (number_at options (codes "puts")) 10

-- how many tickets the first of them drops: none where no number is there
abbrev pub drops_asked : ArgMatches → ℕ
drops_asked options = unwrap_or (number_at options (codes "drop")) 0

-- the option of this name, which takes nothing, is there where its text is `true`; it isn't where that is `false`, or
-- where there is none
abbrev pub TellsFlag : ArgMatches → (name : List ℕ) → Bool → Type 0
TellsFlag options name is_there =
    (one_text (found_of options) name ≡ Some (codes "true") → is_there ≡ true)
    × (one_text (found_of options) name ≡ Some (codes "false") → is_there ≡ false)
    × (one_text (found_of options) name ≡ None → is_there ≡ false)

-- the identifier that was given under this name: that of its text; there is none where that is no UUID
abbrev pub id_at : ArgMatches → (name : List ℕ) → Option (List ℕ)
id_at options name = option_and_then parsed (first_value (found_of options) name)

-- the bytes of a text, and where there is no text these
abbrev pub id_or : (none : List ℕ) → (text : Option (List ℕ)) → Option (List ℕ)
id_or none None = Some none
id_or none (Some text) = parsed text

-- from which identifier on is to be listed: the first one of all where none is given
abbrev pub from_asked : ArgMatches → Option (List ℕ)
from_asked options = id_or (replicate 16 0) (first_value (found_of options) (codes "from"))

-- how many at most: as many as there are where no number is there
abbrev pub limit_asked : ArgMatches → ℕ
limit_asked options = unwrap_or (number_at options (codes "limit")) (2 ^ 64 - 1)

-- how many calls are to be measured: 100 where no number is there
abbrev pub calls_asked : ArgMatches → ℕ
calls_asked options = unwrap_or (number_at options (codes "calls")) 100

-- how many puts a batch has: 100 where no number is there
abbrev pub batch_asked : ArgMatches → ℕ
batch_asked options = unwrap_or (number_at options (codes "batch")) 100

-- how many bytes a shard has: 4,000 where no number is there
abbrev pub bytes_asked : ArgMatches → ℕ
bytes_asked options = unwrap_or (number_at options (codes "bytes")) 4000

-- the numbers are in their ranges
abbrev pub IsMeasurable : (calls batch bytes : ℕ) → Type 0
IsMeasurable calls batch bytes = (1 ≤ calls) × (calls ≤ 100000) × (1 ≤ batch) × (batch ≤ 10000) × (bytes ≤ 8388280)
