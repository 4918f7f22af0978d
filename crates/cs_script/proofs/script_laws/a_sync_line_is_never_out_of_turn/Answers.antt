use Rattle.cs_script.proofs.SyncRefusals.{printed_refuses}
use Rattle.cs_script.proofs.script_laws.a_sync_line_is_never_out_of_turn.Goals as goal

pub returns : goal.returns
returns g c = λ old new r before stops. printed_refuses g.D.PageDisk old new r before stops
