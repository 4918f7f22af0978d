use Rattle.std.proofs.Common.{◌≡◌, IfOk, IfSome, subst, sym}
use Rattle.cs_disk.specs.Disk.{Rises}
use Rattle.cs_extent.specs.State.{IsWhole}
use Rattle.cs_index.specs.State.{id_number}
use Rattle.law_machine.specs.State.{map_now}
use Rattle.cs_core.specs.Lookups.{AreMeantBytes}
use Rattle.cs_store.specs.declared.errors.GetError.{GetError}
use Rattle.cs_store.specs.declared.errors.GetError.TheVariants.{DeviceFault}
use Rattle.cs_store.specs.Gets.{IsGot}
use Rattle.cs_store.proofs.Getting.{got, got_not, map_is, told_cause}
use Rattle.cs_store.proofs.Refusing.{get_is}
use Rattle.cs_store.proofs.Running.{refused_err, refused_ok}
use Rattle.cs_store.proofs.stores.Store.get.Goals as goal
use Rattle.cs_store.proofs.stores.Store.get.Goals.{in-Err, in-Ok}

pub returns-clause-answer : goal.returns-clause-answer
returns-clause-answer g c = rw (← c.self.view_is) (λ m has honest.
    let s = c.progress.ensures.legal honest in
    let id = id_number c.args.id in
    let is = map_is g.D.PageDisk.state c.self.inside.core m s.0 (subst IsWhole c.extents.ensures c.extent_count.ensures.whole) has s.1 id in
    elim c.match-read.branch [
      | in-Ok w ↦ subst (IsGot (m id)) (sym w.result-is) (got (m id) (map_now s.0 id) w.in-Ok.found is (w.in-Ok.ensures.answer honest s.0 s.1))
      | in-Err w ↦ subst (IsGot (m id)) (sym w.result-is) (got_not (m id) (map_now s.0 id) w.in-Err.refusal w.of.result is w.of.ensures (w.in-Err.ensures.answer honest s.0 s.1))
    ])

pub of-requires : goal.of-requires
of-requires g c = get_is c.in-Err.refusal c.in-Err.ensures.refusals

pub returns-clause-cause : goal.returns-clause-cause
returns-clause-cause g c = rw (← c.self.view_is) (
    let caused = λ (error : GetError). error ≡ DeviceFault → Rises (g.D.PageDisk.failure_count c.self.inside.core.disk) (g.D.PageDisk.failure_count c.read.new.self.disk) in
    elim c.match-read.branch [
      | in-Ok w ↦ refused_ok c.match-read.result w.in-Ok.found caused w.result-is
      | in-Err w ↦ refused_err c.match-read.result w.of.result caused w.result-is (told_cause (g.D.PageDisk.failure_count c.self.inside.core.disk) (g.D.PageDisk.failure_count c.read.new.self.disk) w.in-Err.refusal w.of.result w.in-Err.ensures.cause w.of.ensures)
    ])

pub returns-clause-meant : goal.returns-clause-meant
returns-clause-meant g c = rw (← c.self.view_is) (elim c.match-read.branch [
  | in-Ok w ↦ subst (λ r. IfOk r (λ found. IfSome found (λ bytes. AreMeantBytes c.self.inside.core.store (id_number c.args.id) bytes.items))) (sym w.result-is) w.in-Ok.ensures.meant
  | in-Err w ↦ subst (λ r. IfOk r (λ found. IfSome found (λ bytes. AreMeantBytes c.self.inside.core.store (id_number c.args.id) bytes.items))) (sym w.result-is) tt
])
