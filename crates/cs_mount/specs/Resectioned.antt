-- The sections of a store's superblock in an image, and when they may be written anew.
use Rattle.std.specs.Prelude.{◌≡◌, ◌⊎◌, ◌<◌, ◌≤◌, ℕ, List, Some}
use Rattle.law_machine.specs.Device.{Inside, Page, Shape}
use Rattle.law_machine.specs.Element.{Locator, Run}
use Rattle.law_machine.specs.Formats.{Formats, damage_in}
use Rattle.law_machine.specs.Index.{entries_of, live_at}
use Rattle.law_machine.specs.Lists.{◌∈◌}
use Rattle.law_machine.specs.Refusal.{Refusal}
use Rattle.law_machine.specs.Safe.{FitsExtent}

-- Each section's page of an image spells the section, in some format and of some version. None records a later root
-- than this one, and together they give these pointers and generations.
pub record HasSections (S : Shape) (F : Formats) (img : ℕ → Page) (root : ℕ) (pointers generations : ℕ → ℕ) : Type 0 where
  pub formats : ℕ → ℕ
  pub versions : ℕ → ℕ
  pub recorded : ℕ → ℕ
  pub superblock : (j : ℕ) → j < S.sections
      → img (S.section_page j) ≡ F.superblock (formats j) j (versions j) (recorded j) pointers generations
  pub versions_fit : (j : ℕ) → j < S.sections → (1 ≤ versions j) × (versions j ≤ S.greatest_number)
  pub recorded_fit : (j : ℕ) → j < S.sections → recorded j ≤ root
  pub extents_fit : (e : ℕ) → FitsExtent S (pointers e) (generations e)

-- Two images have the same root and the same pages of extents.
pub record AgreeBesideSections (S : Shape) (img other : ℕ → Page) : Type 0 where
  pub root : other S.root_page ≡ img S.root_page
  pub frames : (e i : ℕ) → Inside S e i → other (S.address e i) ≡ img (S.address e i)

-- one of these runs begins there, or a chunk of the newest entry of an identifier
abbrev pub Lives : List Run → Locator → Type 0
Lives runs l = ((run : Run) × (run ∈ runs) × (l ≡ run.place)) ⊎ ((id : ℕ) × (l ∈ live_at (entries_of runs) id))

-- each extent on which something lives has the same generation, and no fewer of its pages are given
abbrev pub KeepLiving : List Run → (pointers generations new_pointers new_generations : ℕ → ℕ) → Type 0
KeepLiving runs p g q h = (l : Locator) → Lives runs l → (h l.extent ≡ g l.extent) × (p l.extent ≤ q l.extent)

-- a chunk that is damaged there is refused as before
abbrev pub KeepDamage : Shape → Formats → (img : ℕ → Page) → List Run → (pointers generations new_pointers new_generations : ℕ → ℕ) → Type 0
KeepDamage S F img runs p g q h = (id : ℕ) (l : Locator) (refusal : Refusal) → l ∈ live_at (entries_of runs) id
    → damage_in S F img p g l ≡ Some refusal → damage_in S F img q h l ≡ Some refusal
