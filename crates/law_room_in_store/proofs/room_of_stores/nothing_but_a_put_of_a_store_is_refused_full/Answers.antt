use Rattle.std.proofs.Common.{◌≡◌, ◌⊎◌, ℕ, [], subst}
use Rattle.cs_refusal.specs.declared.refusals.Refusal.TheVariants.{OutOfMemory}
use Rattle.cs_core.specs.declared.events.Event.TheVariants.{Abandon, Delete}
use Rattle.cs_core.specs.Views.{View}
use Rattle.cs_writeback.specs.Histories.{IsStopped}
use Rattle.cs_writeback.specs.Syncs.{StopsSync}
use Rattle.cs_store.specs.declared.errors.DeleteError.{DeleteError}
use Rattle.cs_store.specs.declared.errors.SweepError.{SweepError}
use Rattle.cs_store.specs.declared.errors.SyncError.{SyncError}
use Rattle.cs_store.specs.Errors.{delete_refusal, sweep_refusal, sync_refusal}
use Rattle.cs_store.specs.Events.{Declines, IsHalted}
use Rattle.cs_inspect.specs.Choices.{ReadsOn}
use Rattle.cs_store.specs.Sweeps.{DeclinesSweep}
use Rattle.law_room_in_store.proofs.KeepingRoom.{state_of}
use Rattle.law_room_in_store.proofs.StoresFull.{read_put, store_abandon, store_delete, store_reclaim, store_sweep, store_sync}
use Rattle.law_room_in_store.proofs.room_of_stores.nothing_but_a_put_of_a_store_is_refused_full.Goals as goal

pub returns-clause-sync : goal.returns-clause-sync
returns-clause-sync g c = λ v w error roomy young refused full.
    store_sync g.D.PageDisk v w (state_of g.D.PageDisk v roomy) young
    (subst (λ (x : SyncError). IsHalted v (sync_refusal x) w ⊎ StopsSync g.D.PageDisk v (sync_refusal x) w) full refused)

pub returns-clause-delete : goal.returns-clause-delete
returns-clause-delete g c = λ v w id error roomy young refused full.
    store_delete g.D.PageDisk v w id (state_of g.D.PageDisk v roomy) young
    (subst (λ (x : DeleteError). IsHalted v (delete_refusal x) w ⊎ Declines g.D.PageDisk v (Delete id) (delete_refusal x) w) full refused)

pub returns-clause-sweep : goal.returns-clause-sweep
returns-clause-sweep g c = λ v w e error roomy young refused full.
    store_sweep g.D.PageDisk e v w (state_of g.D.PageDisk v roomy) young
    (subst (λ (x : SweepError). IsHalted v (sweep_refusal x) w ⊎ DeclinesSweep g.D.PageDisk e v w (sweep_refusal x)) full refused)

pub returns-clause-abandon : goal.returns-clause-abandon
returns-clause-abandon g c = λ v w e error roomy young refused full.
    store_abandon g.D.PageDisk e v w (state_of g.D.PageDisk v roomy) young
    (subst (λ (x : SweepError). IsHalted v (sweep_refusal x) w ⊎ IsStopped g.D.PageDisk v [] (Abandon e) (sweep_refusal x) w) full refused)

pub returns-clause-reclaim : goal.returns-clause-reclaim
returns-clause-reclaim g c = λ v w error roomy young refused full.
    store_reclaim g.D.PageDisk v w (state_of g.D.PageDisk v roomy) young
    (subst (λ (x : SweepError). IsHalted v (sweep_refusal x) w ⊎ ((read : View g.row.D.Denot) × (extent : ℕ) × ReadsOn g.D.PageDisk v read
    × ((sweep_refusal x ≡ OutOfMemory) × (w ≡ read) ⊎ DeclinesSweep g.D.PageDisk extent read w (sweep_refusal x)))) full refused)

pub returns-clause-put : goal.returns-clause-put
returns-clause-put g c = λ v w id bytes roomy young refuses.
    read_put g.D.PageDisk v w id bytes (state_of g.D.PageDisk v roomy) young refuses
