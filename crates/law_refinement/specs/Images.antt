-- What a store that is opened on an image is found to be.
use Rattle.std.specs.Prelude.{◌≡◌, ◌<◌, ℕ, List, length, replicate, slice_index}
use Rattle.cs_extent.specs.State.{State as ExtentsState, extents_at, extents_of, shape}
use Rattle.cs_frame.specs.Formats.{formats_of}
use Rattle.cs_frame.specs.Geometries.{IsGeometry, section_length, section_size}
use Rattle.cs_frame.specs.Superblocks.{SpellsSuperblock}
use Rattle.law_machine.specs.Device.{Page, Shape}
use Rattle.law_machine.specs.Element.{Map, Run}
use Rattle.law_machine.specs.Format.{Format}
use Rattle.law_machine.specs.Formats.{Formats}
use Rattle.law_machine.specs.Geometry.{shape_of}
use Rattle.law_machine.specs.Open.{extents_read}
use Rattle.law_machine.specs.Recovery.{Recovers}
use Rattle.law_machine.specs.Apart.{any_run_on}
use Rattle.law_refinement.specs.Machines.{RecoversFor}

-- the shape of a store of this format, with so many extents, pages and sections
abbrev pub geometry_shape : (format : Format) (extents pages sections : ℕ) → Shape
geometry_shape format extents pages sections = shape_of extents pages sections (section_size extents sections) format

-- the page on which section j of such a store lies
abbrev pub page_of_section : (format : Format) (extents pages sections j : ℕ) → ℕ
page_of_section format extents pages sections j = (geometry_shape format extents pages sections).section_page j

-- the extents of such a store when it is new: all are empty
abbrev pub new_extents : (format : Format) (extents pages sections : ℕ) → ExtentsState
new_extents format extents pages sections = extents_at format pages sections (replicate extents (0, 0))

-- These numbers are a geometry, and the image recovers so many commands and this map as a store of it.
pub record RecoversStore (view : ℕ → Page) (format : Format) (extents pages sections n : ℕ) (m : Map) : Type 0 where
  pub geometry : IsGeometry format extents pages sections
  pub found : Recovers (geometry_shape format extents pages sections) (formats_of (geometry_shape format extents pages sections)) view n m

-- the page of each section of a store of this format and of so many extents, which are all empty, spells version 1 of it, and records no
-- root
abbrev pub AreNewSections : (view : ℕ → List ℕ) → (format : Format) (extents pages sections : ℕ) → Type 0
AreNewSections view format extents pages sections = (j : ℕ) → j < sections
    → SpellsSuperblock (view (page_of_section format extents pages sections j)) format 1 0 extents pages sections j
    (replicate (section_length extents sections j) (0, 0))

-- What an image recovers is found to be these extents, these versions of the sections, this version of the root and these
-- runs.
pub record IsFoundAs (S : Shape) (F : Formats) (img : ℕ → Page) (n : ℕ) (m : Map) (found : Recovers S F img n m)
    (x : ExtentsState) (read : List ℕ) (root : ℕ) (runs : List Run) : Type 0 where
  pub extents : extents_of x ≡ extents_read S F img n m found
  pub all_sections : length read ≡ S.sections
  pub versions : (j : ℕ) → j < S.sections → found.versions j ≡ slice_index read j
  pub root_version : found.version ≡ root
  pub same_runs : found.runs ≡ runs

-- so of the machine of a store
abbrev pub IsFoundFor : (x : ExtentsState) → (view : ℕ → Page) → (n : ℕ) → (m : Map) → RecoversFor x view n m
    → (noted : ExtentsState) → (read : List ℕ) → (root : ℕ) → (runs : List Run) → Type 0
IsFoundFor x view n m found noted read root runs = IsFoundAs (shape x) (formats_of (shape x)) view n m found noted read root runs

-- the image recovers so many commands and this map, and that is found to be these extents, versions and runs
abbrev pub IsRecoveredAs : (x : ExtentsState) → (view : ℕ → Page) → (n : ℕ) → (m : Map)
    → (noted : ExtentsState) → (read : List ℕ) → (root : ℕ) → (runs : List Run) → Type 0
IsRecoveredAs x view n m noted read root runs = (found : RecoversFor x view n m) × IsFoundFor x view n m found noted read root runs

-- The extents that were read of a store of this shape, where it is noted on which of them the runs lie and that all their pages were found.
pub record AreExtentsNoted (x : ExtentsState) (runs : List Run) (noted : ExtentsState) : Type 0 where
  pub same_shape : shape noted ≡ shape x
  pub extents : extents_of noted ≡ record (extents_of x) { of_runs = any_run_on runs; found = (extents_of x).pointer }
