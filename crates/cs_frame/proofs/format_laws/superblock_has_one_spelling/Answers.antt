use Rattle.std.proofs.Common.{◌≡◌, None, ap, refl, sym, ◌∙◌, subst}
use Rattle.cs_frame.specs.declared.formats.FormatNumber.{FormatNumber}
use Rattle.cs_frame.specs.FormatNumbers.{number_in}
use Rattle.cs_frame.specs.Superblocks.{format_in, superblock_extents, superblock_fault, superblock_record}
use Rattle.cs_frame.proofs.SuperblockLaws.{number_read, one_digit, one_section, spelled_has_none, spells}
use Rattle.cs_frame.proofs.format_laws.superblock_has_one_spelling.Goals as goal

pub returns-clause-exact : goal.returns-clause-exact
returns-clause-exact c = λ number page is. (
  (λ h. (_, _, _, _, _, _, _, _, number_read number page, spells page number _ _ _ _ _ _ _ _ is h refl refl refl refl refl refl refl refl)),
  (λ s. subst (λ (n : FormatNumber). superblock_fault n page ≡ None) s.8 (spelled_has_none page s.0 s.1 s.2 s.3 s.4 s.5 s.6 s.7 s.9)),
)

pub returns-clause-one_section : goal.returns-clause-one_section
returns-clause-one_section c = λ page format f version w recorded r extents e pages p sections s section j written es a b.
    let x = one_section page format version recorded extents pages sections section written a in
    let y = one_section page f w r e p s j es b in
    let same : number_in format ≡ number_in f = one_digit (number_in format) (number_in f) (sym x.of_digit ∙ y.of_digit) in (
      sym x.of_format ∙ ap (λ (n : FormatNumber). format_in n page) same ∙ y.of_format,
      sym x.of_version ∙ y.of_version,
      sym x.of_record ∙ ap (λ (n : FormatNumber). superblock_record n page) same ∙ y.of_record,
      sym x.of_extents ∙ y.of_extents,
      sym x.of_pages ∙ y.of_pages,
      sym x.of_sections ∙ y.of_sections,
      sym x.of_section ∙ y.of_section,
      sym x.of_written ∙ ap (λ (n : FormatNumber). superblock_extents n page) same ∙ y.of_written,
    )
