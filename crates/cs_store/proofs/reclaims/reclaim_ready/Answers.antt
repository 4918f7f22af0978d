use Rattle.std.proofs.Common.{[], Option, refl, inl, inr, subst}
use Rattle.std.proofs.lemmas.Option.{same_Some}
use Rattle.cs_writeback.proofs.Runs.{ran_then}
use Rattle.cs_index.specs.State.{index_of}
use Rattle.law_machine.specs.Index.{names}
use Rattle.cs_inspect.specs.declared.choices.Choice.{Choice}
use Rattle.cs_inspect.specs.Choices.{GoesNext, chosen_extent}
use Rattle.cs_inspect.specs.Uses.{heads_of}
use Rattle.cs_store.specs.declared.reclaims.Reclaimed.{Reclaimed}
use Rattle.cs_store.specs.Sweeps.{SweepsReady}
use Rattle.cs_store.proofs.Accepting.{accepts_later}
use Rattle.cs_store.proofs.Reclaiming.{read_accepts, read_ran}
use Rattle.cs_store.proofs.reclaims.reclaim_ready.Goals as goal

pub returns-in_default-clause-refused : goal.returns-in_default-clause-refused
returns-in_default-clause-refused g c = (c.choose_sweep.new.core, 0, c.in_default.ensures.reads, inl (refl, refl))

pub returns-in_default-clause-declined : goal.returns-in_default-clause-declined
returns-in_default-clause-declined g c = λ honest view chunks are live. (c.choose_sweep.new.core, c.in_default.ensures.reads, inl (refl, refl))

pub returns-in_default-clause-ran : goal.returns-in_default-clause-ran
returns-in_default-clause-ran g c =
    read_ran g.D.PageDisk c.args.core.now c.choose_sweep.new.core c.choose_sweep.ensures.reads c.progress.ensures.left (λ honest image since. g.met.D.PageDisk.only_now c.args.core.now.disk image honest since)

pub returns-in_default-found-clause-ran : goal.returns-in_default-found-clause-ran
returns-in_default-found-clause-ran g c =
    read_ran g.D.PageDisk c.args.core.now c.choose_sweep.new.core c.choose_sweep.ensures.reads c.progress.ensures.left (λ honest image since. g.met.D.PageDisk.only_now c.args.core.now.disk image honest since)

pub returns-in-Ok-sweep_ready-clause-ran : goal.returns-in-Ok-sweep_ready-clause-ran
returns-in-Ok-sweep_ready-clause-ran g c = ran_then g.D.PageDisk c.args.core.now c.choose_sweep.new.core c.sweep_ready.new.core
    (read_ran g.D.PageDisk c.args.core.now c.choose_sweep.new.core c.choose_sweep.ensures.reads c.progress.ensures.left (λ honest image since. g.met.D.PageDisk.only_now c.args.core.now.disk image honest since))
    c.sweep_ready.ensures.ran

pub returns-in-Err-clause-ran : goal.returns-in-Err-clause-ran
returns-in-Err-clause-ran g c = ran_then g.D.PageDisk c.args.core.now c.choose_sweep.new.core c.sweep_ready.new.core
    (read_ran g.D.PageDisk c.args.core.now c.choose_sweep.new.core c.choose_sweep.ensures.reads c.progress.ensures.left (λ honest image since. g.met.D.PageDisk.only_now c.args.core.now.disk image honest since))
    c.sweep_ready.ensures.ran

pub returns-in-Err-clause-refused : goal.returns-in-Err-clause-refused
returns-in-Err-clause-refused g c = (c.choose_sweep.new.core, c.in-Some.field-0.extent, c.choose_sweep.ensures.reads, inr c.in-Err.ensures.declined)

pub returns-in-Ok-sweep_ready-clause-done : goal.returns-in-Ok-sweep_ready-clause-done
returns-in-Ok-sweep_ready-clause-done g c = λ swept is. (
  c.choose_sweep.new.core,
  c.choose_sweep.ensures.reads,
  subst (λ (s : Reclaimed). SweepsReady g.D.PageDisk s.extent c.choose_sweep.new.core c.sweep_ready.new.core s.moved s.root) (same_Some _ swept is) c.in-Ok-sweep_ready.ensures.done,
)

pub returns-in-Ok-sweep_ready-clause-chosen : goal.returns-in-Ok-sweep_ready-clause-chosen
returns-in-Ok-sweep_ready-clause-chosen g c = λ honest view chunks are live.
    let first = c.args.core.now in (
      c.choose_sweep.new.core,
      c.choose_sweep.ensures.reads,
      c.in-Ok-sweep_ready.ensures.done,
      subst (λ (o : Option Choice). GoesNext g.D.PageDisk (heads_of first.store.extents view chunks) (names (index_of first.store.index)) first c.choose_sweep.new.core (chosen_extent o)) c.in-Some.is
          (c.in-Ok.ensures.chosen honest view chunks are live),
    )

pub returns-in_default-found-clause-chosen : goal.returns-in_default-found-clause-chosen
returns-in_default-found-clause-chosen g c = λ honest view chunks are live.
    let first = c.args.core.now in (
      c.choose_sweep.new.core,
      c.choose_sweep.ensures.reads,
      refl,
      subst (λ (o : Option Choice). GoesNext g.D.PageDisk (heads_of first.store.extents view chunks) (names (index_of first.store.index)) first c.choose_sweep.new.core (chosen_extent o)) c.in_default-found.is
          (c.in-Ok.ensures.chosen honest view chunks are live),
    )

pub returns-in-Err-clause-declined : goal.returns-in-Err-clause-declined
returns-in-Err-clause-declined g c = λ honest view chunks are live.
    let first = c.args.core.now in
    let goes = subst (λ (o : Option Choice). GoesNext g.D.PageDisk (heads_of first.store.extents view chunks) (names (index_of first.store.index)) first c.choose_sweep.new.core (chosen_extent o)) c.in-Some.is
    (c.in-Ok.ensures.chosen honest view chunks are live) in
    (c.choose_sweep.new.core, c.choose_sweep.ensures.reads, inr (c.in-Some.field-0.extent, c.in-Some.field-0.dead, goes, c.in-Err.ensures.declined))

pub returns-in-Ok-sweep_ready-clause-accepts : goal.returns-in-Ok-sweep_ready-clause-accepts
returns-in-Ok-sweep_ready-clause-accepts g c = accepts_later g.D.PageDisk [] c.args.core.now c.choose_sweep.new.core c.sweep_ready.new.core
    (read_accepts g.D.PageDisk c.args.core.now c.choose_sweep.new.core c.choose_sweep.ensures.reads)
    c.sweep_ready.ensures.accepts
