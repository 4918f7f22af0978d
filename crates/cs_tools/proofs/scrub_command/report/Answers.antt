use Rattle.std.proofs.Common.{◌++◌, ℕ, List, subst}
use Rattle.std.specs.Io.KnownBytes.{Appends}
use Rattle.cs_tools.specs.Pages.{left_count, pages_text}
use Rattle.cs_tools.proofs.Scrubbing.{same_found}
use Rattle.cs_tools.proofs.scrub_command.report.Goals as goal

pub returns-in-Ok-clause-printed : goal.returns-in-Ok-clause-printed
returns-in-Ok-clause-printed g c = λ done.
    let contents = g.W.Write.contents in
    let pages = c.args.pages.now in
    subst (λ (text : List ℕ). Appends (contents c.args.writer.now) (contents c.print_all.new.writer) (pages_text c.args.style pages ++ text))
    (same_found c.args.style c.args.found.now (left_count pages) c.count_all_left-left.result c.count_all_left-left.ensures.count) c.in-Ok.ensures
