use Rattle.std.proofs.Common.{◌≡◌, map, subst, sym}
use Rattle.cs_disk.specs.Disk.{Rises}
use Rattle.cs_extent.specs.State.{IsWhole}
use Rattle.cs_frame.specs.Formats.{as_locator}
use Rattle.cs_index.specs.State.{id_number, index_of}
use Rattle.law_machine.specs.Index.{live_at}
use Rattle.law_machine.specs.State.{map_now}
use Rattle.cs_store.specs.declared.sizes.SizeError.{SizeError}
use Rattle.cs_store.specs.declared.sizes.SizeError.TheVariants.{DeviceFault}
use Rattle.cs_store.specs.Sizes.{IsSaidByHeaders, IsSized}
use Rattle.cs_store.proofs.Getting.{map_is}
use Rattle.cs_store.proofs.Sizing.{said_not, size_cause, sized, sized_not}
use Rattle.cs_store.proofs.Running.{refused_err, refused_ok}
use Rattle.cs_store.proofs.stores.Store.size_of.Goals as goal
use Rattle.cs_store.proofs.stores.Store.size_of.Goals.{in-Err, in-Ok}

pub returns-clause-answer : goal.returns-clause-answer
returns-clause-answer g c = rw (← c.self.view_is) (λ m has honest.
    let s = c.progress.ensures.legal honest in
    let id = id_number c.args.id in
    let is = map_is g.D.PageDisk.state c.self.inside.core m s.0 (subst IsWhole c.extents.ensures c.extent_count.ensures.whole) has s.1 id in
    elim c.match-size_of.branch [
      | in-Ok w ↦ subst (IsSized (m id)) (sym w.result-is) (sized (m id) (map_now s.0 id) w.in-Ok.found is (w.in-Ok.ensures.answer honest s.0 s.1))
      | in-Err w ↦ subst (IsSized (m id)) (sym w.result-is) (sized_not (m id) (map_now s.0 id) w.in-Err.refusal w.of.result is w.of.ensures (w.in-Err.ensures.answer honest s.0 s.1))
    ])

pub returns-clause-cause : goal.returns-clause-cause
returns-clause-cause g c = rw (← c.self.view_is) (
    let caused = λ (error : SizeError). error ≡ DeviceFault → Rises (g.D.PageDisk.failure_count c.self.inside.core.disk) (g.D.PageDisk.failure_count c.size_of.new.self.disk) in
    elim c.match-size_of.branch [
      | in-Ok w ↦ refused_ok c.match-size_of.result w.in-Ok.found caused w.result-is
      | in-Err w ↦ refused_err c.match-size_of.result w.of.result caused w.result-is (size_cause (g.D.PageDisk.failure_count c.self.inside.core.disk) (g.D.PageDisk.failure_count c.size_of.new.self.disk) w.in-Err.refusal w.of.result w.in-Err.ensures.cause w.of.ensures)
    ])

pub returns-clause-headers : goal.returns-clause-headers
returns-clause-headers g c = rw (← c.self.view_is) (λ honest view are.
    let extents = c.self.inside.core.store.extents in
    let places = map as_locator (live_at (index_of c.self.inside.core.store.index) (id_number c.args.id)) in
    elim c.match-size_of.branch [
      | in-Ok w ↦ subst (IsSaidByHeaders extents view places) (sym w.result-is) (w.in-Ok.ensures.headers honest view are)
      | in-Err w ↦ subst (IsSaidByHeaders extents view places) (sym w.result-is) (said_not extents view places w.in-Err.refusal w.of.result w.of.ensures (w.in-Err.ensures.headers honest view are))
    ])
