use Rattle.std.proofs.Common.{ap, sym, ◌∙◌}
use Rattle.std.proofs.lemmas.Result.{err_from_is_err_and}
use Rattle.cs_frame.specs.declared.formats.FormatNumber.{FormatNumber}
use Rattle.cs_frame.specs.Roots.{root_fault, root_identity, root_number, runs_in}
use Rattle.cs_frame.proofs.RootLaws.{number_read, one_root, root_never_memory, spelled_has_none, spells}
use Rattle.cs_frame.proofs.TestLaws.{same_fault, some_and_none}
use Rattle.cs_frame.proofs.roots.decode_root.Goals as goal

pub returns-in_err-check_root-clause-read : goal.returns-in_err-check_root-clause-read
returns-in_err-check_root-clause-read c = λ store version commands runs same s. some_and_none c.in_err-check_root.ensures.fault
    (ap (λ (n : FormatNumber). root_fault n c.args.page.now) (sym same) ∙ spelled_has_none c.args.page.now store version commands runs s)

pub returns-in_err-check_root-clause-memory : goal.returns-in_err-check_root-clause-memory
returns-in_err-check_root-clause-memory c = λ h.
    let p = err_from_is_err_and c.from_residual.result c.from_residual.ensures.1 in
    absurd (root_never_memory c.args.number c.args.page.now (sym c.in_err-check_root.ensures.fault ∙ same_fault p.1 p.2 h))

pub returns-clause-number : goal.returns-clause-number
returns-clause-number c = ap root_number c.in_ok-root_from.ensures.store ∙ number_read c.args.number c.args.page.now

pub returns-clause-spelled : goal.returns-clause-spelled
returns-clause-spelled c = spells c.args.page.now c.args.number _ _ _ _ c.in_ok-check_root.ensures.page (sym c.in_ok-check_root.ensures.fault) c.in_ok-root_from.ensures.store c.in_ok-root_from.ensures.version c.in_ok-root_from.ensures.commands c.in_ok-root_from.ensures.runs

pub returns-clause-read : goal.returns-clause-read
returns-clause-read c = λ store version commands runs same s.
    let page = c.args.page.now in
    let one = one_root page store version commands runs s in (
      c.in_ok-root_from.ensures.store ∙ ap (λ (n : FormatNumber). root_identity n page) (sym same) ∙ one.of_store,
      c.in_ok-root_from.ensures.version ∙ one.of_version,
      c.in_ok-root_from.ensures.commands ∙ one.of_commands,
      c.in_ok-root_from.ensures.runs ∙ ap (λ (n : FormatNumber). runs_in n page) (sym same) ∙ one.of_runs,
    )
