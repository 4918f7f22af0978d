-- What contracts see of the options for making or opening a store, and of what an opening found.
use Rattle.std.specs.Prelude.{◌≡◌, ◌≢◌, ◌⊎◌, ℕ, List, [], ◌∷◌, None, Some}
use Rattle.std.specs.List.{AllByRecursion}
use Rattle.cs_core.specs.declared.cores.Limits.{Limits}
use Rattle.cs_disk.specs.Disk.{Image, State, flushed, page, seen}
use Rattle.cs_frame.specs.Geometries.{Dimensions}
use Rattle.cs_mount.specs.Identities.{AreOfTwo}
use Rattle.cs_mount.specs.Makings.{after_writes}
use Rattle.cs_mount.specs.Showing.{shown_on}
use Rattle.cs_mount.specs.Unreadable.{AreOfStore, LeavesFenced, fences_on}
use Rattle.cs_reader.specs.Openings.{IsWhyNotOpened}
use Rattle.cs_refusal.specs.declared.refusals.Refusal.{Refusal}
use Rattle.cs_refusal.specs.declared.refusals.Refusal.TheVariants.{NotAStore}
use Rattle.cs_store.specs.declared.options.Loss.{Loss}
use Rattle.cs_store.specs.declared.reserves.Reserve.{Reserve}
use Rattle.cs_twin.specs.declared.findings.Finding.{Finding}
use Rattle.cs_twin.specs.Findings.{passed_over}
use Rattle.cs_twin.specs.Pairs.{fence}

-- how many events the store may keep, the geometry of one that is made, what is done about a page that can't be read, and
-- what puts leave free
pub record Opening : Type 0 where
  pub limits : Limits
  pub geometry : Dimensions
  pub loss : Loss
  pub reserve : Reserve

-- a disk of which these pages were given up: each is filled with a fence, and all that the disk holds is durable
abbrev pub given_up : List ℕ → State → State
given_up [] s = s
given_up (p ∷ pages) s = flushed (after_writes s (fences_on (p ∷ pages)))

-- of no pair a page is passed over for its damage
abbrev pub NoneIsPassedOver : List Finding → Type 0
NoneIsPassedOver findings = AllByRecursion (λ it. passed_over it ≡ None) findings

-- each page that is passed over by these findings is a fence in the image
abbrev pub AreFencesIn : List Finding → Image → Type 0
AreFencesIn findings image = AllByRecursion (λ it. (number : ℕ) → passed_over it ≡ Some number → page image number ≡ fence) findings

-- each page that none of these findings passes over holds what it held
abbrev pub AgreeBeside : List Finding → (before now : Image) → Type 0
AgreeBeside findings before now = (number : ℕ) → AllByRecursion (λ it. passed_over it ≢ Some number) findings → page now number ≡ page before number

-- The image is what the disk held; or what a crash might have left of it, but that some halves of pairs of the store that
-- shows without them are fences, which are given up.
abbrev pub IsPartlyGivenUp : (pages : ℕ) → State → Image → Type 0
IsPartlyGivenUp pages s image = (image ≡ seen s) ⊎ ((lost : List ℕ) × AreOfStore pages lost lost (seen s) × LeavesFenced lost s image)

-- why no store is opened on a device with this image: its two ends are of different stores, or the first test that fails
abbrev pub IsWhyNoneShows : (pages : ℕ) → Image → Refusal → Type 0
IsWhyNoneShows pages image r = ((r ≡ NotAStore) × AreOfTwo pages image) ⊎ IsWhyNotOpened pages (page (shown_on pages image)) r

-- why no store is opened where some halves of pairs of the store that shows without them, or none, were given up
abbrev pub IsWhyNoneIsLeft : (pages : ℕ) → State → Refusal → Type 0
IsWhyNoneIsLeft pages s r = (lost : List ℕ) × AreOfStore pages lost lost (seen s) × IsWhyNoneShows pages (seen (given_up lost s)) r
