use Rattle.cs_disk.specs.Disk.{seen}
use Rattle.cs_tools.proofs.Salvaging.{all_stand, means_salvage, salvages}
use Rattle.cs_tools.proofs.salvages.export_salvaged.Goals as goal

pub returns-in-Ok-clause-script : goal.returns-in-Ok-clause-script
returns-in-Ok-clause-script g c honest is =
    let disks = g.D.PageDisk in
    let contents = g.W.Write.contents in
    let found = c.args.found.now in
    let image = seen (disks.state c.args.disk.now) in
    salvages image found c.args.named.now (disks.failure_count c.args.disk.now) (disks.failure_count c.print_shards.new.disk) (contents c.args.writer.now) (contents c.print_shards.new.writer) c.in-Ok.whole c.outcome_of.result
    (c.in-Ok.ensures.script honest (all_stand image found is)) c.outcome_of.ensures

pub returns-in-Ok-clause-meant : goal.returns-in-Ok-clause-meant
returns-in-Ok-clause-meant g c =
    let contents = g.W.Write.contents in
    means_salvage c.args.found.now c.args.named.now (g.D.PageDisk.failure_count c.args.disk.now) (g.D.PageDisk.failure_count c.print_shards.new.disk) (contents c.args.writer.now) (contents c.print_shards.new.writer) c.in-Ok.whole c.outcome_of.result c.in-Ok.ensures.meant
    c.outcome_of.ensures
