-- What is known of a device by its pages.
use Rattle.std.specs.Prelude.{◌≡◌, ◌≢◌, ◌⊎◌, ◌-◌, ◌<◌, ℕ, Bool, true, List, Contains, None, Some, codes}
use Rattle.cs_disk.specs.Disk.{Image, page}
use Rattle.cs_frame.specs.declared.formats.FormatNumber.{FormatNumber}
use Rattle.cs_frame.specs.declared.formats.FormatNumber.TheVariants.{Four, Two}
use Rattle.cs_frame.specs.declared.roots.Root.{Root}
use Rattle.cs_frame.specs.declared.superblocks.Superblock.{Superblock}
use Rattle.cs_frame.specs.FirstFormat.{page_zero_fault}
use Rattle.cs_frame.specs.FormatNumbers.{number_in}
use Rattle.cs_frame.specs.Geometries.{device_pages}
use Rattle.cs_frame.specs.Roots.{SpellsRoot, identity_of}
use Rattle.cs_reader.specs.Openings.{SpellsFirst, SpellsFurther}
use Rattle.cs_twin.specs.declared.findings.Finding.{Finding}
use Rattle.cs_twin.specs.Findings.{held_of}
use Rattle.cs_mount.specs.Identities.{stores_on}
use Rattle.cs_mount.specs.Showing.{findings_on}
use Rattle.cs_advice.specs.Advices.{begins}
use Rattle.cs_advice.specs.declared.knowns.Content.{Content}
use Rattle.cs_advice.specs.declared.knowns.Content.TheVariants.{Broken, Empty, Foreign, Left, Length, Store, Superseded, Torn, TwoStores, Unknown, Written}

-- the bytes begin as a superblock does in the format that is read no more
abbrev pub begins_superseded : List ℕ → Bool
begins_superseded bytes = begins (codes "CSS3") bytes

-- A device of so many pages holds a store of that format: page 0 begins so, or it isn't whole and the last page does.
abbrev pub IsSuperseded : (pages : ℕ) → Image → Type 0
IsSuperseded pages image =
    (begins_superseded (page image 0) ≡ true) ⊎ ((page_zero_fault (page image 0) ≢ None) × (begins_superseded (page image (pages - 1)) ≡ true))

-- a superblock's section is the first one of a store of this format and of so many pages
pub record IsFirstOf (it : Superblock) (format : FormatNumber) (pages : ℕ) : Type 0 where
  pub first : it.section ≡ 0
  pub format_is : format ≡ number_in it.format
  pub pages_are : pages ≡ device_pages it.format it.extent_count it.pages it.sections

-- The bytes of a page with this number name a store of this format and of so many pages: they are the first section of
-- its superblock. It is page 0, or in format 4 the last page of that store.
pub record Names (number : ℕ) (bytes : List ℕ) (format : FormatNumber) (pages : ℕ) : Type 0 where
  pub it : Superblock
  pub is_first : IsFirstOf it format pages
  pub spelled : ((number ≡ 0) × SpellsFirst bytes it) ⊎ ((number ≡ pages - 1) × (format ≡ Four) × SpellsFurther bytes it)

-- a page of a device of so many pages names a store of this format and of so many pages as are wanted
abbrev pub NamesStore : (pages : ℕ) → Image → (format : FormatNumber) → (wanted : ℕ) → Type 0
NamesStore pages image format wanted = (number : ℕ) × (number < pages) × Names number (page image number) format wanted

-- neither of these two pages is whole, of a pair of the store that is on the device
abbrev pub IsTorn : (pages : ℕ) → Image → (own twin : ℕ) → Type 0
IsTorn pages image own twin = (it : Finding) × Contains (findings_on pages image) it × (it.pair.page ≡ own) × (it.pair.twin ≡ twin) × ((held_of it).version ≡ 0)

-- the bytes are a root, of any format
abbrev pub IsRootPage : List ℕ → Type 0
IsRootPage bytes = (root : Root) × SpellsRoot bytes (identity_of root) root.version root.commands root.runs.items

-- What is so of a device of so many pages if this is reported as its content. `Foreign` says nothing of a page that
-- couldn't be read: it may be of a store. `Store` says nothing of the store's other pages.
abbrev pub IsContentOf : (pages : ℕ) → Image → Content → Type 0
IsContentOf pages image Empty = pages ≡ 0
IsContentOf pages image Foreign = 0 < pages
IsContentOf pages image (Store format) = NamesStore pages image format pages
IsContentOf pages image (Length has wanted) = (has ≡ pages) × (wanted ≢ pages) × ((format : FormatNumber) × NamesStore pages image format wanted)
IsContentOf pages image (Torn own twin) = NamesStore pages image Four pages × IsTorn pages image own twin
IsContentOf pages image Broken = NamesStore pages image Two pages
IsContentOf pages image Left = (1 < pages) × IsRootPage (page image 1)
IsContentOf pages image (TwoStores first last) = stores_on pages image ≡ Some (first.0, last.0)
IsContentOf pages image Superseded = IsSuperseded pages image
IsContentOf pages image Unknown = ⊥
IsContentOf pages image (Written page) = ⊥
