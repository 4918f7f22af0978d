use Rattle.std.proofs.Common.{◌≡◌, ◌∙◌, ◌⊎◌, ◌∷◌, [], inl, inr, refl, subst, sym}
use Rattle.std.specs.Prelude.{false}
use Rattle.cs_refusal.specs.declared.refusals.Refusal.{Refusal}
use Rattle.cs_disk.specs.Disk.{Leaves}
use Rattle.cs_core.specs.Views.{View}
use Rattle.cs_writeback.proofs.Runs.{ran_call, ran_none}
use Rattle.cs_extent.specs.State.{extents_of}
use Rattle.law_machine.specs.Extents.{marked}
use Rattle.cs_core.specs.declared.events.Event.TheVariants.{Abandon}
use Rattle.cs_core.specs.declared.events.Reply.TheVariants.{Abandoned}
use Rattle.cs_writeback.specs.Histories.{IsStopped, Went}
use Rattle.cs_store.specs.declared.errors.SweepError.{SweepError}
use Rattle.cs_store.specs.declared.errors.SweepError.TheVariants as sweep
use Rattle.cs_store.specs.Errors.{sweep_refusal}
use Rattle.cs_store.specs.Events.{IsHalted}
use Rattle.cs_store.proofs.Abandoning.{abandon_is, abandon_told, abandoned, unmarked}
use Rattle.cs_store.proofs.Accepting.{abandon_quiet, accepts_none}
use Rattle.cs_store.proofs.Maps.{map_kept}
use Rattle.cs_store.proofs.Running.{Left, on_err, on_ok, ran_leaves, ran_rises, refused_err, refused_ok}
use Rattle.cs_store.proofs.stores.Store.abandon.Goals as goal
use Rattle.cs_store.proofs.stores.Store.abandon.Goals.{in-Err, in-Ok}

pub returns-clause-done : goal.returns-clause-done
returns-clause-done g c = rw (← c.self.view_is) (
    let done = Went g.D.PageDisk c.self.inside.core ((Abandon c.args.extent, Abandoned) ∷ []) c.ask-asked.new.core in
    elim c.match-asked.branch [
      | in-Ok w ↦ on_ok c.match-asked.result tt done w.result-is (abandoned g.D.PageDisk c.self.inside.core c.ask-asked.new.core c.args.extent w.in-Ok.field-0 w.in-Ok.ensures.no_refusal w.in-Ok.ensures.done)
      | in-Err w ↦ on_err c.match-asked.result w.of.result done w.result-is
    ])

pub returns-clause-mark : goal.returns-clause-mark
returns-clause-mark g c = rw (← c.self.view_is) (λ honest.
    let s = c.progress.ensures.legal honest in
    let taken = extents_of c.ask-asked.new.core.store.extents ≡ marked (extents_of c.self.inside.core.store.extents) c.args.extent false in
    elim c.match-asked.branch [
      | in-Ok w ↦ on_ok c.match-asked.result tt taken w.result-is (unmarked g.D.PageDisk c.self.inside.core c.ask-asked.new.core c.args.extent w.in-Ok.field-0 s.0 honest s.1 w.in-Ok.ensures.no_refusal w.in-Ok.ensures.done)
      | in-Err w ↦ on_err c.match-asked.result w.of.result taken w.result-is
    ])

pub returns-clause-refused : goal.returns-clause-refused
returns-clause-refused g c = rw (← c.self.view_is) (
    let stops = λ (error : SweepError). IsHalted c.self.inside.core (sweep_refusal error) c.ask-asked.new.core ⊎ IsStopped g.D.PageDisk c.self.inside.core [] (Abandon c.args.extent) (sweep_refusal error) c.ask-asked.new.core in
    elim c.match-asked.branch [
      | in-Ok w ↦ refused_ok c.match-asked.result tt stops w.result-is
      | in-Err w ↦ refused_err c.match-asked.result w.of.result stops w.result-is
          (inr (subst (λ (r : Refusal). IsStopped g.D.PageDisk c.self.inside.core [] (Abandon c.args.extent) r c.ask-asked.new.core) (sym w.of.ensures) w.in-Err.ensures.refused))
    ])

pub returns-clause-refusals : goal.returns-clause-refusals
returns-clause-refusals g c =
    let may = λ (error : SweepError). (error ≡ sweep.NotSweepable) ⊎ (error ≡ sweep.Halted) ⊎ (error ≡ sweep.OutOfMemory) in
    elim c.match-asked.branch [
      | in-Ok w ↦ refused_ok c.match-asked.result tt may w.result-is
      | in-Err w ↦ refused_err c.match-asked.result w.of.result may w.result-is (abandon_told c.args.extent w.of.result w.in-Err.refusal w.of.ensures w.in-Err.ensures.refusals)
    ]

pub returns-clause-map : goal.returns-clause-map
returns-clause-map g c = rw (← c.self.view_is) (
    let e = c.ask-asked.ensures in
    map_kept g.D.PageDisk c.self.inside.core c.ask-asked.new.core (abandon_quiet g.D.PageDisk c.args.extent c.self.inside.core c.ask-asked.new.core c.ask-asked.result e.done e.refused))

pub returns-clause-honest : goal.returns-clause-honest
returns-clause-honest g c = rw (← c.self.view_is) (
    let e = c.ask-asked.ensures in
    (abandon_quiet g.D.PageDisk c.args.extent c.self.inside.core c.ask-asked.new.core c.ask-asked.result e.done e.refused).honest)

pub returns-clause-rises : goal.returns-clause-rises
returns-clause-rises g c = rw (← c.self.view_is) (ran_rises g.D.PageDisk c.self.inside.core c.ask-asked.new.core (ran_call g.D.PageDisk c.self.inside.core c.ask-asked.new.core c.ask-asked.ensures.call))

pub returns-clause-crash : goal.returns-clause-crash
returns-clause-crash g c = rw (← c.self.view_is) (λ honest.
    let s = c.progress.ensures.legal honest in
    ran_leaves g.D.PageDisk c.self.inside.core c.ask-asked.new.core s.0 honest s.1 (c.progress.ensures.left honest) (λ image since. g.met.D.PageDisk.only_now c.self.inside.core.disk image honest since)
    (ran_call g.D.PageDisk c.self.inside.core c.ask-asked.new.core c.ask-asked.ensures.call))

pub of-requires : goal.of-requires
of-requires g c = abandon_is c.args.extent c.in-Err.refusal c.in-Err.ensures.refusals

pub returns-clause-halted : goal.returns-clause-halted
returns-clause-halted g c = rw (← c.self.view_is) (λ is. absurd (cc (sym is ∙ sym c.is_halted.ensures ∙ c.if-is_halted.false)))

pub returns-then-is_halted-clause-refused : goal.returns-then-is_halted-clause-refused
returns-then-is_halted-clause-refused g c = rw (← c.self.view_is) (inl (sym c.is_halted.ensures ∙ c.if-is_halted.true, refl, refl))

pub returns-then-is_halted-clause-halted : goal.returns-then-is_halted-clause-halted
returns-then-is_halted-clause-halted g c = rw (← c.self.view_is) (λ is. (refl, refl))

pub returns-then-is_halted-clause-crash : goal.returns-then-is_halted-clause-crash
returns-then-is_halted-clause-crash g c = rw (← c.self.view_is) (λ honest.
    let s = c.progress.ensures.legal honest in
    ran_leaves g.D.PageDisk c.self.inside.core c.self.inside.core s.0 honest s.1 (c.progress.ensures.left honest) (λ image since. g.met.D.PageDisk.only_now c.self.inside.core.disk image honest since) (ran_none g.D.PageDisk c.self.inside.core))

pub returns-then-is_halted-clause-left : goal.returns-then-is_halted-clause-left
returns-then-is_halted-clause-left g c =
    subst (λ (v : View g.row.D.Denot). g.D.PageDisk.honest v.disk → Leaves (g.D.PageDisk.state v.disk) (Left v v)) c.self.view_is c.progress.ensures.left

pub returns-then-is_halted-clause-accepts : goal.returns-then-is_halted-clause-accepts
returns-then-is_halted-clause-accepts g c = rw (← c.self.view_is) (accepts_none g.D.PageDisk c.self.inside.core)

pub returns-clause-accepts : goal.returns-clause-accepts
returns-clause-accepts g c = rw (← c.self.view_is) (
    let e = c.ask-asked.ensures in
    abandon_quiet g.D.PageDisk c.args.extent c.self.inside.core c.ask-asked.new.core c.ask-asked.result e.done e.refused)

pub returns-clause-ran : goal.returns-clause-ran
returns-clause-ran g c = rw (← c.self.view_is) (ran_call g.D.PageDisk c.self.inside.core c.ask-asked.new.core c.ask-asked.ensures.call)

pub returns-then-is_halted-clause-ran : goal.returns-then-is_halted-clause-ran
returns-then-is_halted-clause-ran g c = rw (← c.self.view_is) (ran_none g.D.PageDisk c.self.inside.core)
