use Rattle.cs_disk.specs.Disk.{page, seen}
use Rattle.cs_salvage.proofs.Spared.{spared_found}
use Rattle.cs_salvage.proofs.salvage_laws.what_newer_runs_name_is_right.Goals as goal

pub returns : goal.returns
returns g c = λ disk f whole n m id h is are r spared some.
    spared_found (g.D.PageDisk.honest disk) (g.D.PageDisk.page_count disk) (page (seen (g.D.PageDisk.state disk))) whole f n m id h are is r spared some
