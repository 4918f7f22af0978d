use Rattle.cs_writeback.proofs.DueRefusals.{sync_refuses}
use Rattle.cs_writeback.proofs.syncs.a_sync_is_never_out_of_turn.Goals as goal

pub returns : goal.returns
returns g c = λ old new r stops. sync_refuses g.D.PageDisk old new r stops
