use Rattle.law_room_in_store.proofs.LiveTotals.{live_at_most}
use Rattle.law_room_in_store.proofs.room_by_reclaims.no_more_lives_than_is_counted.Goals as goal

pub returns : goal.returns
returns g c = λ v view chunks uses roomy whole graph are used few.
    live_at_most g.D.PageDisk (λ d honest. g.met.D.PageDisk.sized d honest) v view chunks uses roomy whole graph are used.live used.listed used.counted few
