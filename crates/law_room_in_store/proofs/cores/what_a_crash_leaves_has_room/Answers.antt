use Rattle.law_room_in_store.proofs.CoreCrashes.{leaves_room, leaves_room_within, opened_has_room}
use Rattle.law_room_in_store.proofs.cores.what_a_crash_leaves_has_room.Goals as goal

pub returns-clause-now : goal.returns-clause-now
returns-clause-now g c = λ v core honest geometry apart has young.
    leaves_room g.D.PageDisk v geometry apart core honest (g.met.D.PageDisk.sized v.disk honest) has young

pub returns-clause-within : goal.returns-clause-within
returns-clause-within g c = λ v w event reply core honest core_then honest_then geometry apart has young applies time.
    leaves_room_within g.D.PageDisk v w event reply geometry apart core honest core_then honest_then
    (g.met.D.PageDisk.sized v.disk honest) (g.met.D.PageDisk.sized w.disk honest_then)
    (λ image since. g.met.D.PageDisk.only_now v.disk image honest since) has young applies (time honest)

pub returns-clause-opened : goal.returns-clause-opened
returns-clause-opened g c = λ v w core honest geometry apart has young may same.
    opened_has_room g.D.PageDisk v w geometry apart core honest (g.met.D.PageDisk.sized v.disk honest) has young may same
