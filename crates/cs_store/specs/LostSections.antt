-- Stores of which sections of the superblock are lost.
use Rattle.std.specs.Prelude.{◌≡◌, ◌⊎◌, ℕ, List, [], ◌∷◌, map}
use Rattle.cs_disk.specs.Disk.{Image, State, Write, page}
use Rattle.cs_mount.specs.Identities.{AreOfTwo}
use Rattle.cs_mount.specs.MadeSections.{AreMadeOn}
use Rattle.cs_mount.specs.Remaking.{remade, remade_on}
use Rattle.cs_mount.specs.Showing.{findings_on, shown_on}
use Rattle.cs_reader.specs.Openings.{IsWhyNotOpened}
use Rattle.cs_refusal.specs.declared.refusals.Refusal.{Refusal}
use Rattle.cs_refusal.specs.declared.refusals.Refusal.TheVariants.{NotAStore}
use Rattle.cs_twin.specs.declared.findings.Finding.{Finding}

-- a disk on which these sections were made: each page was fenced, and then written, and all that the disk holds is
-- durable. None are no step
abbrev pub made_on : List Write → State → State
made_on [] s = s
made_on (w ∷ writes) s = remade_on (w ∷ writes) s

-- an opening of a device that holds this refuses it so: page 0 and the last page are of different stores, or a test fails
abbrev pub IsWhyRefused : (pages : ℕ) → Image → Refusal → Type 0
IsWhyRefused pages image r = ((r ≡ NotAStore) × AreOfTwo pages image) ⊎ IsWhyNotOpened pages (page (shown_on pages image)) r

-- it does so with all lost sections made
abbrev pub FailsThough : (pages : ℕ) → Image → Refusal → Type 0
FailsThough pages image r = (writes : List Write) × AreMadeOn pages image writes × IsWhyRefused pages (remade writes image) r

-- It was opened by what the device shows with its lost sections made.
pub record IsOpenedRemade (pages : ℕ) (image : Image) (told : List ℕ) (findings : List Finding) (opened : Image) (shown : State) : Type 0 where
  pub writes : List Write
  pub made : AreMadeOn pages image writes
  -- the pages of these are told
  pub pages_told : told ≡ map (λ w. w.0) writes
  pub image_is : opened ≡ shown_on pages (remade writes image)
  pub shown_is : shown ≡ record { durable = shown_on pages (remade writes image); volatile = [] }
  pub findings_are : findings ≡ findings_on pages (remade writes image)
