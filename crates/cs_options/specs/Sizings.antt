-- How large a new store is asked to be.
use Rattle.std.specs.Prelude.{ℕ, ◌≢◌, ◌||◌, Bool, true, false, List, Option, None, Some, codes, is_some, unwrap_or}
use Rattle.clap.specs.declared.parser.matches.ArgMatches.{ArgMatches}
use Rattle.clap.specs.Words.{first_value, found_of, matched_of}
use Rattle.cs_frame.specs.Geometries.{file_format, sections_needed}
use Rattle.law_machine.specs.Format.{Format}
use Rattle.cs_options.specs.Asked.{number_at}
use Rattle.cs_options.specs.Sizes.{size_of}
use Rattle.cs_options.specs.declared.sizings.Sizing.{Sizing}
use Rattle.cs_options.specs.declared.sizings.Sizing.TheVariants.{Both, Numbers, Sizes, Unsaid}

-- the size of a text, and where there is no text this
abbrev pub size_or : (usual : ℕ) → (text : Option (List ℕ)) → Option ℕ
size_or usual None = Some usual
size_or usual (Some text) = size_of text

-- the size of the option of this name, and this where none is given; there is none where its text is no size
abbrev pub size_at : ArgMatches → (name : List ℕ) → (usual : ℕ) → Option ℕ
size_at options name usual = size_or usual (first_value (found_of options) name)

-- how many identifiers are to have room: one where no number is there
abbrev pub shards_asked : ArgMatches → ℕ
shards_asked options = unwrap_or (number_at options (codes "shards")) 1

-- both texts, where they are there, are sizes; so large is what is made where no size is given
abbrev pub IsWished : ArgMatches → (usual : ℕ) → Type 0
IsWished options usual = (size_at options (codes "size") usual ≢ None) × (size_at options (codes "shard-size") 1048576 ≢ None)

-- the numbers of a geometry: 64 extents of 256 pages where none are there, and as few sections as may be
abbrev pub extents_given : ArgMatches → ℕ
extents_given options = unwrap_or (number_at options (codes "extents")) 64

abbrev pub pages_given : ArgMatches → ℕ
pages_given options = unwrap_or (number_at options (codes "pages")) 256

abbrev pub sections_given : ArgMatches → ℕ
sections_given options = unwrap_or (number_at options (codes "sections")) (sections_needed (extents_given options))

-- something was given under this name
abbrev pub is_given : ArgMatches → (name : List ℕ) → Bool
is_given options name = is_some (matched_of (found_of options) name)

-- a size was given; a number of a geometry was given
abbrev pub sizes_given : ArgMatches → Bool
sizes_given options = is_given options (codes "size") || (is_given options (codes "shard-size") || is_given options (codes "shards"))

abbrev pub numbers_given : ArgMatches → Bool
numbers_given options = is_given options (codes "extents") || (is_given options (codes "pages") || is_given options (codes "sections"))

-- the format of a store of these numbers with this identity, in a file as large as it needs
abbrev pub format_given : (store : List ℕ) → ArgMatches → Format
format_given store options = file_format store (extents_given options) (pages_given options) (sections_given options)

-- by what a store is asked for, where sizes are given or not, and numbers are
abbrev pub sizing_by : (sizes numbers : Bool) → Sizing
sizing_by false false = Unsaid
sizing_by true false = Sizes
sizing_by false true = Numbers
sizing_by true true = Both
