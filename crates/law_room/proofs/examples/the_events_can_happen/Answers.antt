use Rattle.law_room.proofs.examples.the_events_can_happen.Goals as goal
use Rattle.law_room.proofs.Played.{abandoned_played, retired_played}
use Rattle.law_room.proofs.Reopened.{opened_played}

pub returns : goal.returns
returns c = record { retired = retired_played; abandoned = abandoned_played; opened = opened_played }
