use Rattle.std.proofs.Common.{refl, sym, ◌∙◌}
use Rattle.cs_frame.specs.Bytes.{number}
use Rattle.cs_frame.specs.FirstFormat.{first_format_extents}
use Rattle.cs_frame.proofs.FirstFormatLaws.{one_of_first_format, spelled_has_none, spells}
use Rattle.cs_frame.proofs.format_laws.first_format_has_one_spelling.Goals as goal

pub returns-clause-exact : goal.returns-clause-exact
returns-clause-exact c = λ page is. (
  (λ h. (number 4 12 page, number 14 16 page, first_format_extents page, spells page _ _ _ is h refl refl refl)),
  (λ s. spelled_has_none page s.0 s.1 s.2 s.3),
)

pub returns-clause-one_superblock : goal.returns-clause-one_superblock
returns-clause-one_superblock c = λ page version w pages p extents es a b.
    let x = one_of_first_format page version pages extents a in
    let y = one_of_first_format page w p es b in
    (sym x.0 ∙ y.0, sym x.1 ∙ y.1, sym x.2 ∙ y.2)
