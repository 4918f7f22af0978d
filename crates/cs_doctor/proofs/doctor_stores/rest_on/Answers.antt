use Rattle.std.proofs.Common.{subst, sym}
use Rattle.cs_disk.proofs.OnlyRead.{reads_on}
use Rattle.cs_disk.specs.Reads.{OnlyReads}
use Rattle.cs_doctor.proofs.doctor_stores.rest_on.Goals as goal

pub returns-in_ok-rest-in-Ok-clause-disk : goal.returns-in_ok-rest-in-Ok-clause-disk
returns-in_ok-rest-in-Ok-clause-disk g c =
    let D = g.D.PageDisk in
    subst (λ (d : _). OnlyReads D c.args.disk d) (sym c.into_disk.ensures)
    (reads_on D c.args.disk c.in-Ok.rescue.disk c.read_rest.new.rescue.disk c.in-Ok.ensures.disk c.read_rest.ensures.disk)
