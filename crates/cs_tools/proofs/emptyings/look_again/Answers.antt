use Rattle.std.proofs.Common.{refl}
use Rattle.cs_tools.proofs.Readable.{left}
use Rattle.cs_tools.proofs.Tidying.{tidies_reads}
use Rattle.cs_tools.proofs.emptyings.look_again.Goals as goal

pub returns-in-Ok-clause-left : goal.returns-in-Ok-clause-left
returns-in-Ok-clause-left g c = (left g.D.PageDisk c.in-Ok.survey.unreadable c.args.core.now c.look_over.new.core c.look_over.ensures.reads c.in-Ok.ensures.unreadable, refl)

pub returns-in-Ok-clause-tidies : goal.returns-in-Ok-clause-tidies
returns-in-Ok-clause-tidies g c =
    let first = c.args.core.now in
    let reads = c.look_over.ensures.reads in
    tidies_reads g.D.PageDisk first c.look_over.new.core reads.0 reads.1 c.progress.ensures.left (λ honest image since. g.met.D.PageDisk.only_now first.disk image honest since)

pub returns-in-Err-clause-tidies : goal.returns-in-Err-clause-tidies
returns-in-Err-clause-tidies g c =
    let first = c.args.core.now in
    let reads = c.look_over.ensures.reads in
    tidies_reads g.D.PageDisk first c.look_over.new.core reads.0 reads.1 c.progress.ensures.left (λ honest image since. g.met.D.PageDisk.only_now first.disk image honest since)
