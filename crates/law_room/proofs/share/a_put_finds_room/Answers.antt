use Rattle.law_room.proofs.share.a_put_finds_room.Goals as goal
use Rattle.law_room.proofs.Sharing.{put_room}

pub returns : goal.returns
returns c = λ S J n s id sizes keeps some none large few fit. put_room S J n s id sizes keeps some none large few fit
