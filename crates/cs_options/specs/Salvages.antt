-- What the options of a salvage ask for.
use Rattle.std.specs.Prelude.{◌≡◌, ◌≢◌, ◌⊎◌, ℕ, List, Option, None, Some, codes, unwrap_or}
use Rattle.clap.specs.declared.parser.matches.ArgMatches.{ArgMatches}
use Rattle.cs_frame.specs.Geometries.{Dimensions, file_format, sections_needed}
use Rattle.cs_options.specs.Asked.{number_at}

-- the options give no number of extents, of pages, or of sections
abbrev pub NoneIsGiven : ArgMatches → Type 0
NoneIsGiven options = (number_at options (codes "extents") ≡ None) × (number_at options (codes "pages") ≡ None) × (number_at options (codes "sections") ≡ None)

-- they don't give both that of the extents and that of their pages
abbrev pub IsHalfGiven : ArgMatches → Type 0
IsHalfGiven options = (number_at options (codes "extents") ≡ None) ⊎ (number_at options (codes "pages") ≡ None)

-- in how many sections the superblock is: as few as may be if no number is there
abbrev pub sections_given : ArgMatches → (extents : ℕ) → ℕ
sections_given options extents = unwrap_or (number_at options (codes "sections")) (sections_needed extents)

-- these are the dimensions that they give, of a store of format 4 with this identity
pub record IsLostGeometry (options : ArgMatches) (store : List ℕ) (g : Dimensions) : Type 0 where
  pub extents : number_at options (codes "extents") ≡ Some g.extents
  pub pages : number_at options (codes "pages") ≡ Some g.pages
  pub sections : g.sections ≡ sections_given options g.extents
  pub format : g.format ≡ file_format store g.extents g.pages g.sections
