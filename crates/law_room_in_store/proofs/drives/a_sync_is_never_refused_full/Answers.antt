use Rattle.std.proofs.Common.{subst}
use Rattle.cs_refusal.specs.declared.refusals.Refusal.{Refusal}
use Rattle.cs_writeback.specs.Syncs.{StopsSync}
use Rattle.law_room_in_store.proofs.KeepingRoom.{state_of}
use Rattle.law_room_in_store.proofs.NeverFull.{sync_full}
use Rattle.law_room_in_store.proofs.drives.a_sync_is_never_refused_full.Goals as goal

pub returns : goal.returns
returns g c = λ v w r roomy young stops full. sync_full g.D.PageDisk v w (state_of g.D.PageDisk v roomy) young
    (subst (λ (f : Refusal). StopsSync g.D.PageDisk v f w) full stops)
