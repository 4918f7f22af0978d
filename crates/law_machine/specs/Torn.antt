-- What a crash may leave where the pages of frames that were being written are torn.
use Rattle.std.specs.Prelude.{◌≡◌, ◌⊎◌, ℕ, Bool, List}
use Rattle.law_machine.specs.Device.{Page, Shape}
use Rattle.law_machine.specs.Element.{A_write, Write}
use Rattle.law_machine.specs.Formats.{Formats}
use Rattle.law_machine.specs.Lists.{◌∈◌}
use Rattle.law_machine.specs.Sound.{GivesFirst, crashed}
use Rattle.law_machine.specs.State.{State}

-- a page of frames is being written: a plain write to it was issued and isn't flushed
abbrev pub IsBeingWritten : State → (page : ℕ) → Type 0
IsBeingWritten s p = (x : Write) × (A_write x ∈ s.issued) × (x.page ≡ p)

module _ (S : Shape) (F : Formats) where
  -- the image is what a crash leaves that keeps these of the issued writes, but that each page of frames that is being written
  -- may hold anything
  abbrev pub TornFrom : State → List Bool → (ℕ → Page) → Type 0
  TornFrom s mask img = (p : ℕ) → IsBeingWritten s p ⊎ (img p ≡ crashed S F s mask p)

  -- a crash now leaves the map after some number of commands between the frontier and all of them, whatever it makes of the pages
  -- of frames that are being written
  abbrev pub LeavesPrefixTorn : State → List Bool → Type 0
  LeavesPrefixTorn s mask = (n : ℕ) × ((img : ℕ → Page) → TornFrom s mask img → GivesFirst S F s img n)
