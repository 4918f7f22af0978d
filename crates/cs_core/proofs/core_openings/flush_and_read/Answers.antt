use Rattle.std.proofs.Common.{ap}
use Rattle.cs_disk.specs.Disk.{seen}
use Rattle.cs_core.proofs.Opening.{flush_and_reads, some_made}
use Rattle.cs_core.proofs.core_openings.flush_and_read.Goals as goal

pub returns-in-Ok-clause-made : goal.returns-in-Ok-clause-made
returns-in-Ok-clause-made g c =
    some_made (g.D.PageDisk.state c.args.disk.now) (g.D.PageDisk.state c.flush.new.self) (g.D.PageDisk.honest c.args.disk.now) (g.D.PageDisk.honest c.flush.new.self) (λ h. c.flush.ensures.honest.0 h) (λ h. ap seen (c.in-Ok.ensures.ok h))
    (g.D.PageDisk.page_count c.args.disk.now) (g.D.PageDisk.page_count c.flush.new.self) c.read_store.result c.flush.ensures.pages c.read_store.ensures.made

pub returns-in-Ok-clause-crash : goal.returns-in-Ok-clause-crash
returns-in-Ok-clause-crash g c = λ h.
    flush_and_reads g.D.PageDisk.state g.D.PageDisk.moment g.D.PageDisk.left_since c.flush.result c.args.disk.now c.flush.new.self c.read_store.new.disk (λ i since. g.met.D.PageDisk.only_now c.args.disk.now i h since)
    (c.flush.ensures.time h) (c.flush.ensures.ok h) (c.flush.ensures.err h) (c.read_store.ensures.disk.time (c.flush.ensures.honest.0 h)) (c.read_store.ensures.disk.same (c.flush.ensures.honest.0 h))
