-- What is asked of a format so that no store is stuck can be met, and a store can be made.
use Rattle.std.proofs.Common.{◌≡◌, ℕ, ◌<◌, ◌≤◌, true, [], None, refl, ap}
use Rattle.law_machine.proofs.Examples.{told_here}
use Rattle.law_machine.specs.Device.{FramePage, IsShape, Page, PageKind, RootPage, SectionPage, Shape}
use Rattle.law_machine.specs.Example.{telling_format}
use Rattle.law_machine.specs.Format.{number_of}
use Rattle.law_machine.specs.Formats.{Formats}
use Rattle.law_machine.specs.Open.{opened_state}
use Rattle.law_machine.specs.Recovery.{IsNew}
use Rattle.law_machine.specs.State.{State}
use Rattle.law_room.proofs.MachineNew.{given, young}
use Rattle.law_room.specs.Lives.{IsFormatWithRoom, IsMade, Lives}
use Rattle.law_room.specs.OfMachine.{ChunksFit}

module _ (S : Shape) where
  pub telling_has_room : 1 ≤ S.pages → IsFormatWithRoom S (telling_format S)
  telling_has_room some = record {
    tells = λ f k j v w a b p g q h lt fits also small small_too same e inside at.
        told_here S j p q S.extents e same inside at;
    fits = λ entries is. some;
  }

  pub telling_chunks : 1 ≤ S.pages → ChunksFit S (telling_format S)
  telling_chunks some id number count command piece few = some

  -- what is written when a store is made
  abbrev new_page : (F : Formats) → PageKind → Page
  new_page F RootPage = F.root 1 0 []
  new_page F (SectionPage j) = F.superblock (number_of S.format) j 1 0 (λ e. 0) (λ e. 0)
  new_page F FramePage = []

  made_image : IsShape S → 1 ≤ S.greatest_number → IsNew S (telling_format S) (λ p. new_page (telling_format S) (S.kind p))
  made_image shape some = record {
    superblock = λ j lt. ap (new_page (telling_format S)) (shape.section_kind j lt);
    root = ap (new_page (telling_format S)) shape.root_kind;
    root_fits = refl;
    some_number = some;
  }

  pub made_lives : IsShape S → S.apart ≡ true → 1 ≤ S.greatest_number → 0 < S.greatest_generation
      → (s : State) × IsMade S (telling_format S) s × Lives S (telling_format S) s [] s
  made_lives shape apart some positive =
      let new = made_image shape some in
      let F : Formats = telling_format S in
      let img : ℕ → Page = λ p. new_page (telling_format S) (S.kind p) in (
        opened_state S F img 0 (λ id. None) (given S F apart img new),
        (img, 0, (λ id. None), given S F apart img new, new, refl),
        (young S F apart img new positive, refl),
      )
