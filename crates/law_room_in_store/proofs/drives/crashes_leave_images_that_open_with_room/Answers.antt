use Rattle.cs_disk.proofs.Crashes.{seen_MayLeave}
use Rattle.cs_disk.specs.Disk.{seen}
use Rattle.law_room_in_store.proofs.CrashesWithRoom.{left_now, left_within}
use Rattle.law_room_in_store.proofs.drives.crashes_leave_images_that_open_with_room.Goals as goal

pub returns-clause-now : goal.returns-clause-now
returns-clause-now g c = λ v roomy young. left_now g.D.PageDisk (λ d honest. g.met.D.PageDisk.sized d honest)
    (λ d image honest since. g.met.D.PageDisk.only_now d image honest since) v roomy young

pub returns-clause-within : goal.returns-clause-within
returns-clause-within g c = λ v w roomy ran young. left_within g.D.PageDisk (λ d honest. g.met.D.PageDisk.sized d honest)
    (λ d image honest since. g.met.D.PageDisk.only_now d image honest since) v w roomy ran young

pub returns-clause-seen : goal.returns-clause-seen
returns-clause-seen g c = λ v roomy young. left_now g.D.PageDisk (λ d honest. g.met.D.PageDisk.sized d honest)
    (λ d image honest since. g.met.D.PageDisk.only_now d image honest since) v roomy young
    (seen (g.D.PageDisk.state v.disk)) (seen_MayLeave (g.D.PageDisk.state v.disk))
