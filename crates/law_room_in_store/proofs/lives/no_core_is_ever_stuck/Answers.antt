use Rattle.law_room_in_store.proofs.CoreLives.{lives_full, lives_room, lives_shape, new_lives_full}
use Rattle.law_room_in_store.proofs.lives.no_core_is_ever_stuck.Goals as goal

pub returns-clause-room : goal.returns-clause-room
returns-clause-room g c = λ v w others geometry apart has lives.
    (lives_room g.D.PageDisk (λ d honest. g.met.D.PageDisk.sized d honest)
    (λ d image honest since. g.met.D.PageDisk.only_now d image honest since) others v w geometry apart has lives).0

pub returns-clause-full : goal.returns-clause-full
returns-clause-full g c = λ v w x others event geometry apart has lives full.
    lives_full g.D.PageDisk (λ d honest. g.met.D.PageDisk.sized d honest)
    (λ d image honest since. g.met.D.PageDisk.only_now d image honest since) others v w x event geometry apart has lives full

pub returns-clause-new : goal.returns-clause-new
returns-clause-new g c = λ v w x others event store device extents pages sections geometry none made lives full.
    new_lives_full g.D.PageDisk (λ d honest. g.met.D.PageDisk.sized d honest)
    (λ d image honest since. g.met.D.PageDisk.only_now d image honest since) others v w x event store device extents pages sections geometry none
    made lives full

pub returns-clause-shape : goal.returns-clause-shape
returns-clause-shape g c = λ v w others lives. lives_shape g.D.PageDisk others v w lives
