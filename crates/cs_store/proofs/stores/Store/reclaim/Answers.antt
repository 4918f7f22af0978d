use Rattle.std.proofs.Common.{◌≡◌, ◌∙◌, ◌⊎◌, ℕ, Option, Some, inl, inr, refl, subst, sym}
use Rattle.cs_core.specs.Views.{View}
use Rattle.cs_refusal.specs.declared.refusals.Refusal.{Refusal}
use Rattle.cs_refusal.specs.declared.refusals.Refusal.TheVariants.{OutOfMemory}
use Rattle.cs_disk.specs.Disk.{Leaves}
use Rattle.cs_writeback.proofs.Runs.{ran_none}
use Rattle.cs_index.specs.State.{index_of}
use Rattle.law_machine.specs.Index.{names}
use Rattle.cs_inspect.specs.Choices.{GoesNext, ReadsOn}
use Rattle.cs_inspect.specs.Uses.{heads_of}
use Rattle.cs_store.specs.declared.errors.SweepError.{SweepError}
use Rattle.cs_store.specs.declared.reclaims.Reclaimed.{Reclaimed}
use Rattle.cs_store.specs.Errors.{sweep_refusal}
use Rattle.cs_store.specs.Events.{IsHalted}
use Rattle.cs_store.specs.Reclaims.{DeclinesChosen, Reclaims, reclaimed_extent}
use Rattle.cs_store.specs.Sweeps.{DeclinesSweep, SweepsReady}
use Rattle.cs_store.proofs.Accepting.{accepts_none}
use Rattle.cs_store.proofs.Maps.{map_kept}
use Rattle.cs_store.proofs.Running.{Left, if_err, if_ok, ran_leaves, ran_rises, refused_err, refused_ok}
use Rattle.cs_store.proofs.Refusing.{sweep_is}
use Rattle.cs_store.proofs.stores.Store.reclaim.Goals as goal
use Rattle.cs_store.proofs.stores.Store.reclaim.Goals.{in-Err, in-Ok}

pub returns-clause-chosen : goal.returns-clause-chosen
returns-clause-chosen g c = rw (← c.self.view_is) (λ honest view chunks are live.
    let old = c.self.inside.core in
    let new = c.reclaim_ready-reclaimed.new.core in
    let chosen = λ (found : Option Reclaimed). (read : View g.row.D.Denot) × ReadsOn g.D.PageDisk old read × Reclaims g.D.PageDisk read found new
    × GoesNext g.D.PageDisk (heads_of old.store.extents view chunks) (names (index_of old.store.index)) old read (reclaimed_extent found) in
    elim c.match-reclaimed.branch [
      | in-Ok w ↦ if_ok c.match-reclaimed.result w.in-Ok.found chosen w.result-is (w.in-Ok.ensures.chosen honest view chunks are live)
      | in-Err w ↦ if_err c.match-reclaimed.result w.of.result chosen w.result-is
    ])

pub returns-clause-done : goal.returns-clause-done
returns-clause-done g c = rw (← c.self.view_is) (
    let done = λ (found : Option Reclaimed). (swept : Reclaimed) → found ≡ Some swept → (read : View g.row.D.Denot) × ReadsOn g.D.PageDisk c.self.inside.core read
    × SweepsReady g.D.PageDisk swept.extent read c.reclaim_ready-reclaimed.new.core swept.moved swept.root in
    elim c.match-reclaimed.branch [
      | in-Ok w ↦ if_ok c.match-reclaimed.result w.in-Ok.found done w.result-is w.in-Ok.ensures.done
      | in-Err w ↦ if_err c.match-reclaimed.result w.of.result done w.result-is
    ])

pub returns-clause-refused : goal.returns-clause-refused
returns-clause-refused g c = rw (← c.self.view_is) (
    let old = c.self.inside.core in
    let new = c.reclaim_ready-reclaimed.new.core in
    let declines = λ (r : Refusal). (read : View g.row.D.Denot) × (extent : ℕ) × ReadsOn g.D.PageDisk old read × ((r ≡ OutOfMemory) × (new ≡ read) ⊎ DeclinesSweep g.D.PageDisk extent read new r) in
    let refused = λ (error : SweepError). IsHalted old (sweep_refusal error) new ⊎ declines (sweep_refusal error) in
    elim c.match-reclaimed.branch [
      | in-Ok w ↦ refused_ok c.match-reclaimed.result w.in-Ok.found refused w.result-is
      | in-Err w ↦ refused_err c.match-reclaimed.result w.of.result refused w.result-is (inr (subst declines (sym w.of.ensures) w.in-Err.ensures.refused))
    ])

pub returns-clause-declined : goal.returns-clause-declined
returns-clause-declined g c = rw (← c.self.view_is) (λ honest view chunks are live.
    let old = c.self.inside.core in
    let new = c.reclaim_ready-reclaimed.new.core in
    let declines = λ (r : Refusal). DeclinesChosen g.D.PageDisk (heads_of old.store.extents view chunks) (names (index_of old.store.index)) old r new in
    let declined = λ (error : SweepError). IsHalted old (sweep_refusal error) new ⊎ declines (sweep_refusal error) in
    elim c.match-reclaimed.branch [
      | in-Ok w ↦ refused_ok c.match-reclaimed.result w.in-Ok.found declined w.result-is
      | in-Err w ↦ refused_err c.match-reclaimed.result w.of.result declined w.result-is (inr (subst declines (sym w.of.ensures) (w.in-Err.ensures.declined honest view chunks are live)))
    ])

pub returns-clause-map : goal.returns-clause-map
returns-clause-map g c = rw (← c.self.view_is) (map_kept g.D.PageDisk c.self.inside.core c.reclaim_ready-reclaimed.new.core c.reclaim_ready-reclaimed.ensures.accepts)

pub returns-clause-crash : goal.returns-clause-crash
returns-clause-crash g c = rw (← c.self.view_is) (λ honest.
    let s = c.progress.ensures.legal honest in
    ran_leaves g.D.PageDisk c.self.inside.core c.reclaim_ready-reclaimed.new.core s.0 honest s.1 (c.progress.ensures.left honest) (λ image since. g.met.D.PageDisk.only_now c.self.inside.core.disk image honest since) c.reclaim_ready-reclaimed.ensures.ran)

pub returns-clause-honest : goal.returns-clause-honest
returns-clause-honest g c = rw (← c.self.view_is) c.reclaim_ready-reclaimed.ensures.accepts.honest

pub of-requires : goal.of-requires
of-requires g c = sweep_is c.in-Err.refusal c.in-Err.ensures.refusals

pub returns-clause-rises : goal.returns-clause-rises
returns-clause-rises g c = rw (← c.self.view_is) (ran_rises g.D.PageDisk c.self.inside.core c.reclaim_ready-reclaimed.new.core c.reclaim_ready-reclaimed.ensures.ran)

pub returns-clause-halted : goal.returns-clause-halted
returns-clause-halted g c = rw (← c.self.view_is) (λ is. absurd (cc (sym is ∙ sym c.is_halted.ensures ∙ c.if-is_halted.false)))

pub returns-then-is_halted-clause-refused : goal.returns-then-is_halted-clause-refused
returns-then-is_halted-clause-refused g c = rw (← c.self.view_is) (inl (sym c.is_halted.ensures ∙ c.if-is_halted.true, refl, refl))

pub returns-then-is_halted-clause-halted : goal.returns-then-is_halted-clause-halted
returns-then-is_halted-clause-halted g c = rw (← c.self.view_is) (λ is. (refl, refl))

pub returns-then-is_halted-clause-crash : goal.returns-then-is_halted-clause-crash
returns-then-is_halted-clause-crash g c = rw (← c.self.view_is) (λ honest.
    let s = c.progress.ensures.legal honest in
    ran_leaves g.D.PageDisk c.self.inside.core c.self.inside.core s.0 honest s.1 (c.progress.ensures.left honest) (λ image since. g.met.D.PageDisk.only_now c.self.inside.core.disk image honest since) (ran_none g.D.PageDisk c.self.inside.core))

pub returns-then-is_halted-clause-left : goal.returns-then-is_halted-clause-left
returns-then-is_halted-clause-left g c =
    subst (λ (v : View g.row.D.Denot). g.D.PageDisk.honest v.disk → Leaves (g.D.PageDisk.state v.disk) (Left v v)) c.self.view_is c.progress.ensures.left

pub returns-then-is_halted-clause-accepts : goal.returns-then-is_halted-clause-accepts
returns-then-is_halted-clause-accepts g c = rw (← c.self.view_is) (accepts_none g.D.PageDisk c.self.inside.core)

pub returns-clause-accepts : goal.returns-clause-accepts
returns-clause-accepts g c = rw (← c.self.view_is) c.reclaim_ready-reclaimed.ensures.accepts

pub returns-then-is_halted-clause-declined : goal.returns-then-is_halted-clause-declined
returns-then-is_halted-clause-declined g c = rw (← c.self.view_is) (λ honest view chunks are live. inl (sym c.is_halted.ensures ∙ c.if-is_halted.true, refl, refl))

pub returns-clause-ran : goal.returns-clause-ran
returns-clause-ran g c = rw (← c.self.view_is) c.reclaim_ready-reclaimed.ensures.ran

pub returns-then-is_halted-clause-ran : goal.returns-then-is_halted-clause-ran
returns-then-is_halted-clause-ran g c = rw (← c.self.view_is) (ran_none g.D.PageDisk c.self.inside.core)
