use Rattle.std.proofs.Common.{◌≡◌, ◌∙◌, ◌⊎◌, inl, inr, refl, subst, sym}
use Rattle.cs_refusal.specs.declared.refusals.Refusal.{Refusal}
use Rattle.cs_disk.specs.Disk.{Leaves}
use Rattle.cs_core.specs.Views.{View}
use Rattle.cs_writeback.proofs.Runs.{ran_none}
use Rattle.cs_writeback.specs.Syncs.{StopsSync}
use Rattle.cs_store.specs.declared.errors.SyncError.{SyncError}
use Rattle.cs_store.specs.Errors.{sync_refusal}
use Rattle.cs_store.specs.Events.{IsHalted}
use Rattle.cs_store.proofs.Accepting.{accepts_none}
use Rattle.cs_store.proofs.Asking.{sync_accepts}
use Rattle.cs_store.proofs.Maps.{map_kept}
use Rattle.cs_store.proofs.Running.{Left, counted_none, if_err, if_ok, ran_leaves, ran_rises, refused_err, refused_ok, rests}
use Rattle.cs_store.proofs.stores.Store.sync.Goals as goal
use Rattle.cs_store.proofs.stores.Store.sync.Goals.{in-Err, in-Ok}

pub returns-clause-all : goal.returns-clause-all
returns-clause-all g c = rw (← c.self.view_is) (λ honest.
    let s = c.progress.ensures.legal honest in
    elim c.match-synced.branch [
      | in-Ok w ↦
          let done = w.in-Ok.ensures.done in
          if_ok c.match-synced.result w.in-Ok.frontier (λ n. n ≡ c.sync-synced.new.core.store.accepted) w.result-is
          (done.1 ∙ rests g.D.PageDisk c.self.inside.core c.sync-synced.new.core s.0 honest s.1 c.sync-synced.ensures.ran done.0.none_waiting done.0.none_changed)
      | in-Err w ↦ if_err c.match-synced.result w.of.result (λ n. n ≡ c.sync-synced.new.core.store.accepted) w.result-is
    ])

pub returns-clause-same : goal.returns-clause-same
returns-clause-same g c = rw (← c.self.view_is) (λ honest.
    let s = c.progress.ensures.legal honest in
    let e = c.sync-synced.ensures in
    counted_none g.D.PageDisk c.self.inside.core c.sync-synced.new.core s.0 honest s.1 e.ran (sync_accepts g.D.PageDisk c.self.inside.core c.sync-synced.new.core c.sync-synced.result e.done e.stopped))

pub returns-clause-map : goal.returns-clause-map
returns-clause-map g c = rw (← c.self.view_is) (
    let e = c.sync-synced.ensures in
    map_kept g.D.PageDisk c.self.inside.core c.sync-synced.new.core (sync_accepts g.D.PageDisk c.self.inside.core c.sync-synced.new.core c.sync-synced.result e.done e.stopped))

pub returns-clause-crash : goal.returns-clause-crash
returns-clause-crash g c = rw (← c.self.view_is) (λ honest.
    let s = c.progress.ensures.legal honest in
    ran_leaves g.D.PageDisk c.self.inside.core c.sync-synced.new.core s.0 honest s.1 (c.progress.ensures.left honest) (λ image since. g.met.D.PageDisk.only_now c.self.inside.core.disk image honest since) c.sync-synced.ensures.ran)

pub returns-clause-honest : goal.returns-clause-honest
returns-clause-honest g c = rw (← c.self.view_is) (
    let e = c.sync-synced.ensures in
    (sync_accepts g.D.PageDisk c.self.inside.core c.sync-synced.new.core c.sync-synced.result e.done e.stopped).honest)

pub returns-clause-rises : goal.returns-clause-rises
returns-clause-rises g c = rw (← c.self.view_is) (ran_rises g.D.PageDisk c.self.inside.core c.sync-synced.new.core c.sync-synced.ensures.ran)

pub returns-clause-refused : goal.returns-clause-refused
returns-clause-refused g c = rw (← c.self.view_is) (
    let stops = λ (error : SyncError). IsHalted c.self.inside.core (sync_refusal error) c.sync-synced.new.core ⊎ StopsSync g.D.PageDisk c.self.inside.core (sync_refusal error) c.sync-synced.new.core in
    elim c.match-synced.branch [
      | in-Ok w ↦ refused_ok c.match-synced.result w.in-Ok.frontier stops w.result-is
      | in-Err w ↦ refused_err c.match-synced.result w.of.result stops w.result-is
          (inr (subst (λ (r : Refusal). StopsSync g.D.PageDisk c.self.inside.core r c.sync-synced.new.core) (sym w.of.ensures) w.in-Err.ensures.stopped))
    ])

pub returns-clause-halted : goal.returns-clause-halted
returns-clause-halted g c = rw (← c.self.view_is) (λ is. absurd (cc (sym is ∙ sym c.is_halted.ensures ∙ c.if-is_halted.false)))

pub returns-then-is_halted-clause-refused : goal.returns-then-is_halted-clause-refused
returns-then-is_halted-clause-refused g c = rw (← c.self.view_is) (inl (sym c.is_halted.ensures ∙ c.if-is_halted.true, refl, refl))

pub returns-then-is_halted-clause-halted : goal.returns-then-is_halted-clause-halted
returns-then-is_halted-clause-halted g c = rw (← c.self.view_is) (λ is. (refl, refl))

pub returns-then-is_halted-clause-crash : goal.returns-then-is_halted-clause-crash
returns-then-is_halted-clause-crash g c = rw (← c.self.view_is) (λ honest.
    let s = c.progress.ensures.legal honest in
    ran_leaves g.D.PageDisk c.self.inside.core c.self.inside.core s.0 honest s.1 (c.progress.ensures.left honest) (λ image since. g.met.D.PageDisk.only_now c.self.inside.core.disk image honest since) (ran_none g.D.PageDisk c.self.inside.core))

pub returns-then-is_halted-clause-left : goal.returns-then-is_halted-clause-left
returns-then-is_halted-clause-left g c =
    subst (λ (v : View g.row.D.Denot). g.D.PageDisk.honest v.disk → Leaves (g.D.PageDisk.state v.disk) (Left v v)) c.self.view_is c.progress.ensures.left

pub returns-then-is_halted-clause-accepts : goal.returns-then-is_halted-clause-accepts
returns-then-is_halted-clause-accepts g c = rw (← c.self.view_is) (accepts_none g.D.PageDisk c.self.inside.core)

pub returns-clause-accepts : goal.returns-clause-accepts
returns-clause-accepts g c = rw (← c.self.view_is) (
    let e = c.sync-synced.ensures in
    sync_accepts g.D.PageDisk c.self.inside.core c.sync-synced.new.core c.sync-synced.result e.done e.stopped)

pub returns-clause-ran : goal.returns-clause-ran
returns-clause-ran g c = rw (← c.self.view_is) c.sync-synced.ensures.ran

pub returns-then-is_halted-clause-ran : goal.returns-then-is_halted-clause-ran
returns-then-is_halted-clause-ran g c = rw (← c.self.view_is) (ran_none g.D.PageDisk c.self.inside.core)
