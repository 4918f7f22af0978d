use Rattle.std.proofs.Common.{◌≡◌, None, ap, refl, sym, subst, ◌∙◌}
use Rattle.cs_frame.specs.declared.formats.FormatNumber.{FormatNumber}
use Rattle.cs_frame.specs.Roots.{commands_said, root_fault, root_identity, runs_in, version_said}
use Rattle.cs_frame.proofs.RootLaws.{number_read, one_format, one_root, spelled_has_none, spells}
use Rattle.cs_frame.proofs.format_laws.root_has_one_spelling.Goals as goal

pub returns-clause-exact : goal.returns-clause-exact
returns-clause-exact c = λ number page is. (
  (λ h. (root_identity number page, version_said page, commands_said page, runs_in number page, number_read number page, spells page number _ _ _ _ is h refl refl refl refl)),
  (λ s. subst (λ (n : FormatNumber). root_fault n page ≡ None) s.4 (spelled_has_none page s.0 s.1 s.2 s.3 s.5)),
)

pub returns-clause-one_root : goal.returns-clause-one_root
returns-clause-one_root c = λ page store other version w commands n runs ls a b.
    let x = one_root page store version commands runs a in
    let y = one_root page other w n ls b in
    let same = one_format page store other version w commands n runs ls a b in (
      sym x.of_store ∙ ap (λ (k : FormatNumber). root_identity k page) same ∙ y.of_store,
      sym x.of_version ∙ y.of_version,
      sym x.of_commands ∙ y.of_commands,
      sym x.of_runs ∙ ap (λ (k : FormatNumber). runs_in k page) same ∙ y.of_runs,
    )
