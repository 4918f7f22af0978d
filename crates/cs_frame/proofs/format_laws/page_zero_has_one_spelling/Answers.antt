use Rattle.std.proofs.Common.{◌≡◌, None, inl, inr, refl, ⊎_elim}
use Rattle.cs_frame.specs.Bytes.{number}
use Rattle.cs_frame.specs.FirstFormat.{IsOfFirstFormat, first_format_extents, first_format_fault, zero_format}
use Rattle.cs_frame.specs.FormatNumbers.{number_in}
use Rattle.cs_frame.specs.Superblocks.{SpellsSuperblock, superblock_fault}
use Rattle.cs_frame.proofs.FirstFormatLaws.{apart, spells, spelled_has_none, zero_is_one, zero_of_first, zero_of_section}
use Rattle.cs_frame.proofs.SuperblockLaws.{spells as section_spells, spelled_has_none as section_has_none}
use Rattle.cs_frame.proofs.format_laws.page_zero_has_one_spelling.Goals as goal

pub returns-clause-exact : goal.returns-clause-exact
returns-clause-exact c = λ page is. (
  (λ h. ⊎_elim
      (λ (first : first_format_fault page ≡ None). (
        _,
        _,
        _,
        _,
        _,
        _,
        _,
        _,
        inr (record {
          spells = spells page (number 4 12 page) (number 14 16 page) (first_format_extents page) is first refl refl refl;
          written_in = refl;
          no_record = refl;
          all_extents = refl;
          one_section = refl;
          first_section = refl;
        }),
      ))
      (λ (section : superblock_fault (zero_format page) page ≡ None). (_, _, _, _, _, _, _, _, inl (section_spells page (zero_format page) _ _ _ _ _ _ _ _ is section refl refl refl refl refl refl refl refl)))
      (zero_is_one page h)),
  (λ s. ⊎_elim
      (λ (of_section : SpellsSuperblock page s.0 s.1 s.2 s.3 s.4 s.5 s.6 s.7). zero_of_section (number_in s.0) page (section_has_none page s.0 s.1 s.2 s.3 s.4 s.5 s.6 s.7 of_section))
      (λ (of_first : IsOfFirstFormat page s.0 s.1 s.2 s.3 s.4 s.5 s.6 s.7). zero_of_first page (spelled_has_none page s.1 s.4 s.7 of_first.spells))
      s.8),
)

pub returns-clause-one_format : goal.returns-clause-one_format
returns-clause-one_format c = λ page format f version w recorded r extents e pages p sections s section j written es a b.
    apart (number_in format) page (spelled_has_none page w p es b.spells) (section_has_none page format version recorded extents pages sections section written a)
