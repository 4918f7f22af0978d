-- A disk with writes that aren't flushed, and the pages of a round.
use Rattle.std.specs.Prelude.{◌≡◌, ◌<◌, ◌&&◌, ◌∷◌, ◌==◌, ℕ, Bool, List, [], if◌then◌else◌}
use Rattle.law_machine.specs.Cut.{Cut, satisfied}
use Rattle.law_machine.specs.Device.{FramePage, Page, Shape}
use Rattle.law_machine.specs.Element.{A_root, A_superblock, A_write, Element}
use Rattle.law_machine.specs.Formats.{Formats, places}
use Rattle.law_machine.specs.Lists.{latest}

-- the image with one page written
abbrev pub written : (ℕ → Page) → ℕ → Page → ℕ → Page
written img p b q = if q == p then b else img q

-- the image with these writes applied in order
abbrev pub applied : (ℕ → Page) → List (ℕ × Page) → ℕ → Page
applied img [] = img
applied img (v ∷ vs) = applied (written img v.0 v.1) vs

-- those of a list that a mask keeps; what it does not speak of is dropped
abbrev pub kept_of : {A : Type 0} → List Bool → List A → List A
kept_of [] xs = []
kept_of (k ∷ ks) [] = []
kept_of (k ∷ ks) (x ∷ xs) = if k then x ∷ kept_of ks xs else kept_of ks xs

module _ (S : Shape) (F : Formats) where
  -- the page that an element is written to, and the bytes
  abbrev pub page_write : Element → ℕ × Page
  page_write (A_write x) = (x.page, x.bytes)
  page_write (A_superblock u) =
      (S.section_page u.section, F.superblock u.format u.section u.version u.recorded u.pointers u.generations)
  page_write (A_root r) = (S.root_page, F.root r.version r.commands (places r.runs))

  -- the same of a list
  abbrev pub page_writes : List Element → List (ℕ × Page)
  page_writes [] = []
  page_writes (m ∷ ms) = page_write m ∷ page_writes ms

-- the image of X over one list: on each page the last write to it of X's elements, in the order of staging
abbrev pub image_of : Shape → Formats → Cut → (ℕ → Page) → List Element → ℕ → Page
image_of S F X opened els p =
    latest (λ m. ((page_write S F m).0 == p) && satisfied X m) (λ m. (page_write S F m).1) (opened p) els

-- a plain write goes to a page of frames, and a section is there
abbrev pub InPlace : Shape → Element → Type 0
InPlace S (A_write x) = S.kind x.page ≡ FramePage
InPlace S (A_superblock u) = u.section < S.sections
InPlace S (A_root r) = Unit {0}
