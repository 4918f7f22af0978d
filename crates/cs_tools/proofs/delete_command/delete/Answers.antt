use Rattle.std.proofs.Common.{None, inl, subst}
use Rattle.std.specs.Prelude.{MatchOption}
use Rattle.cs_index.specs.State.{id_number}
use Rattle.law_machine.specs.State.{changed}
use Rattle.cs_store.specs.Errors.{delete_refusal}
use Rattle.cs_store.specs.Maps.{HasMap}
use Rattle.cs_tools.proofs.Changing.{crash_of_delete, deletes, deletes_found, did_none, did_some, refused_delete}
use Rattle.cs_tools.proofs.delete_command.delete.Goals as goal

pub returns-in-Ok-Some-clause-events : goal.returns-in-Ok-Some-clause-events
returns-in-Ok-Some-clause-events g c =
    let mid = c.delete.new.self in
    deletes g.D.PageDisk c.args.id _ c.args.store.now mid c.commit.new.store c.commit.result
    (did_some g.D.PageDisk c.args.id c.in-Ok-Some.field-0 _ c.args.store.now mid c.in-Ok-Some.field-0-is c.in-Ok-Some.ensures.done) c.commit.ensures.events

pub returns-in-Ok-Some-clause-map : goal.returns-in-Ok-Some-clause-map
returns-in-Ok-Some-clause-map g c m has honest =
    let then_too = c.delete.ensures.honest.0 honest in
    deletes_found g.D.PageDisk m c.args.id c.in-Ok-Some.field-0 _ c.args.store.now c.delete.new.self c.commit.new.store c.commit.result c.in-Ok-Some.field-0-is (c.in-Ok-Some.ensures.absent m has honest)
    (c.in-Ok-Some.ensures.number honest) c.in-Ok-Some.ensures.accepted (c.in-Ok-Some.ensures.map m has) c.in-Ok-Some.ensures.done c.commit.ensures.events
    c.commit.ensures.map (c.commit.ensures.same then_too) (c.commit.ensures.all then_too)

pub returns-in-Ok-Some-clause-honest : goal.returns-in-Ok-Some-clause-honest
returns-in-Ok-Some-clause-honest g c = (λ h. c.commit.ensures.honest.0 (c.delete.ensures.honest.0 h), λ h. c.delete.ensures.honest.1 (c.commit.ensures.honest.1 h))

pub returns-in-Ok-Some-clause-crash : goal.returns-in-Ok-Some-clause-crash
returns-in-Ok-Some-clause-crash g c honest =
    let mid = c.delete.new.self in
    let then_too = c.delete.ensures.honest.0 honest in
    crash_of_delete g.D.PageDisk c.args.id _ c.args.store.now mid c.commit.new.store c.commit.result
    (did_some g.D.PageDisk c.args.id c.in-Ok-Some.field-0 _ c.args.store.now mid c.in-Ok-Some.field-0-is c.in-Ok-Some.ensures.done) c.commit.ensures.events
    c.delete.ensures.rises (c.commit.ensures.same then_too) (c.delete.ensures.crash honest) (c.commit.ensures.crash then_too)

pub returns-in-Ok-None-clause-events : goal.returns-in-Ok-None-clause-events
returns-in-Ok-None-clause-events g c = did_none g.D.PageDisk c.args.id c.in-Ok-None.field-0 c.args.store.now c.delete.new.self c.in-Ok-None.field-0-is c.in-Ok-None.ensures.done

pub returns-in-Ok-None-clause-map : goal.returns-in-Ok-None-clause-map
returns-in-Ok-None-clause-map g c m has honest =
    let id = id_number c.args.id in
    let same = subst (λ f. MatchOption f (HasMap c.delete.new.self m) (λ n. HasMap c.delete.new.self (changed m (id, None)))) c.in-Ok-None.field-0-is (c.in-Ok-None.ensures.map m has) in
    ((c.in-Ok-None.ensures.absent m has honest).0 c.in-Ok-None.field-0-is, same)

pub returns-in-Err-clause-events : goal.returns-in-Err-clause-events
returns-in-Err-clause-events g c =
    inl (refused_delete g.D.PageDisk c.args.id c.args.store.now c.delete.new.self (delete_refusal c.in-Err.error) c.refusal.result c.refusal.ensures c.in-Err.ensures.refused)

pub returns-in-Err-clause-map : goal.returns-in-Err-clause-map
returns-in-Err-clause-map g c m has honest =
    inl (c.in-Err.ensures.map m has, refused_delete g.D.PageDisk c.args.id c.args.store.now c.delete.new.self (delete_refusal c.in-Err.error) c.refusal.result c.refusal.ensures c.in-Err.ensures.refused)
