-- What a store that is opened on an image finds there.
use Rattle.std.specs.Prelude.{◌≡◌, ◌<◌, ◌≤◌, ℕ, true, List, length, []}
use Rattle.law_machine.specs.Device.{Page, Shape}
use Rattle.law_machine.specs.Element.{Map, Opening, Root, Run}
use Rattle.law_machine.specs.Format.{number_of}
use Rattle.law_machine.specs.Formats.{Formats, opening_in, places}
use Rattle.law_machine.specs.Index.{Gives, InBounds, entries_of}
use Rattle.law_machine.specs.Lists.{◌∈◌}
use Rattle.law_machine.specs.Safe.{FitsExtent}

module _ (S : Shape) (F : Formats) where
  -- a store that is opened on this image has this number of commands and this map, by what is known of it
  pub record RecoversBut (opening : (pointers generations : ℕ → ℕ) → Opening) (img : ℕ → Page) (n : ℕ)
      (m : Map) : Type 0 where
    -- the superblock: the format and the version of each section, the root that it records, and the pointer and generation
    -- of each extent
    pub formats : ℕ → ℕ
    pub versions : ℕ → ℕ
    pub recorded : ℕ → ℕ
    pub pointers : ℕ → ℕ
    pub generations : ℕ → ℕ
    pub superblock : (j : ℕ) → j < S.sections
        → img (S.section_page j) ≡ F.superblock (formats j) j (versions j) (recorded j) pointers generations
    pub versions_fit : (j : ℕ) → j < S.sections → (1 ≤ versions j) × (versions j ≤ S.greatest_number)
    pub extents_fit : (e : ℕ) → FitsExtent S (pointers e) (generations e)
    -- the root, its runs, and the map that they give
    pub version : ℕ
    -- it is none of before: no section records a later one
    pub recorded_fit : (j : ℕ) → j < S.sections → recorded j ≤ version
    pub runs : List Run
    pub root : img S.root_page ≡ F.root version n (places runs)
    pub root_fits : F.fits_root version n (places runs) ≡ true
    pub runs_fit : (run : Run) → run ∈ runs → F.fits_run run.entries ≡ true
    pub bounds : InBounds S version n (length runs) (entries_of runs)
    pub gives : Gives S F (opening pointers generations) img pointers generations [] runs m

  -- the same, by the image itself
  abbrev pub Recovers : (img : ℕ → Page) (n : ℕ) (m : Map) → Type 0
  Recovers img n m = RecoversBut (opening_in S F img) img n m

-- what a root gives of an image, under the pointers and generations that it was staged with
abbrev pub RootGives : Shape → Formats → Opening → Root → (ℕ → Page) → Type 0
RootGives S F opening r img = Gives S F opening img r.pointers r.generations [] r.runs r.map
    × (F.fits_root r.version r.commands (places r.runs) ≡ true)
    × ((run : Run) → run ∈ r.runs → F.fits_run run.entries ≡ true)
    × InBounds S r.version r.commands (length r.runs) (entries_of r.runs)

-- what is written when a store is made: no root is persistent yet
pub record IsNew (S : Shape) (F : Formats) (img : ℕ → Page) : Type 0 where
  pub superblock : (j : ℕ) → j < S.sections → img (S.section_page j) ≡ F.superblock (number_of S.format) j 1 0 (λ e. 0) (λ e. 0)
  pub root : img S.root_page ≡ F.root 1 0 []
  pub root_fits : F.fits_root 1 0 [] ≡ true
  pub some_number : 1 ≤ S.greatest_number
