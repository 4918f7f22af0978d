use Rattle.std.proofs.Common.{ℕ, List}
use Rattle.cs_chunk.specs.Newest.{AreNewest}
use Rattle.cs_disk.specs.Disk.{seen}
use Rattle.cs_inspect.specs.Scrubs.{IsScrubbed}
use Rattle.cs_inspect.specs.declared.scrubs.Scrubbed.{Scrubbed}
use Rattle.cs_tools.proofs.Scrubbing.{scrubbed}
use Rattle.cs_tools.proofs.scrub_command.scrub.Goals as goal

pub returns-in-Ok-clause-found : goal.returns-in-Ok-clause-found
returns-in-Ok-clause-found g c =
    let disks = g.D.PageDisk in
    let contents = g.W.Write.contents in
    let core = c.args.core.now in
    let IsFound : Scrubbed → Type 0 = λ found. disks.honest core.disk → (view : ℕ → List ℕ) → AreNewest core.store.graph (seen (disks.state core.disk)) view → IsScrubbed core.store.extents view core.store.index found in
    scrubbed IsFound c.args.pages.now c.args.style (disks.failure_count core.disk) (disks.failure_count c.scrub.new.core.disk) (contents c.args.writer.now) (contents c.report.new.writer) c.in-Ok.found c.report.result
    c.in-Ok.ensures.named c.in-Ok.ensures.caused c.in-Ok.ensures.counted c.report.ensures.ends c.report.ensures.printed
