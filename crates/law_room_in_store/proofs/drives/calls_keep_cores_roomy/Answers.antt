use Rattle.law_room_in_store.proofs.KeepingRoom.{called, kept_core, ran_roomy, read_roomy, state_of, young_before}
use Rattle.law_room_in_store.proofs.Reaching.{reaches_ran}
use Rattle.law_room_in_store.proofs.drives.calls_keep_cores_roomy.Goals as goal

pub returns-clause-call : goal.returns-clause-call
returns-clause-call g c = λ v w roomy call. called g.D.PageDisk v w roomy call

pub returns-clause-ran : goal.returns-clause-ran
returns-clause-ran g c = λ v w roomy ran. ran_roomy g.D.PageDisk v w roomy ran

pub returns-clause-kept : goal.returns-clause-kept
returns-clause-kept g c = λ v w roomy core honest same opened. kept_core g.D.PageDisk v w roomy core honest same opened

pub returns-clause-reads : goal.returns-clause-reads
returns-clause-reads g c = λ v w roomy is reads. read_roomy g.D.PageDisk v w roomy is reads

pub returns-clause-worn : goal.returns-clause-worn
returns-clause-worn g c = λ v w roomy ran young.
    young_before g.D.PageDisk v w (state_of g.D.PageDisk v roomy) (reaches_ran g.D.PageDisk v w ran) young
