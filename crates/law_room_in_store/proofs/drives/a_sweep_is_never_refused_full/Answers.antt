use Rattle.std.proofs.Common.{subst}
use Rattle.cs_refusal.specs.declared.refusals.Refusal.{Refusal}
use Rattle.cs_writeback.specs.Sweeps.{IsSweepRefused}
use Rattle.law_room_in_store.proofs.KeepingRoom.{state_of}
use Rattle.law_room_in_store.proofs.NeverFull.{sweep_full}
use Rattle.law_room_in_store.proofs.drives.a_sweep_is_never_refused_full.Goals as goal

pub returns : goal.returns
returns g c = λ v w e r roomy young refused full. sweep_full g.D.PageDisk e v w (state_of g.D.PageDisk v roomy) young
    (subst (λ (f : Refusal). IsSweepRefused g.D.PageDisk e v w f) full refused)
