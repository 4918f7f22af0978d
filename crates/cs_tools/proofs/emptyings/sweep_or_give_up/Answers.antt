use Rattle.std.proofs.Common.{inl, inr}
use Rattle.std.proofs.lemmas.Result.{IfErr-weaker, IfOk-weaker}
use Rattle.cs_writeback.specs.Syncs.{StopsSync}
use Rattle.cs_tools.specs.Reclaims.{StopsEmptying}
use Rattle.cs_tools.proofs.Emptying.{given_up, passed_on, refused_so, stops_given_up}
use Rattle.cs_tools.proofs.Tidying.{tidies_sweep, tidies_then}
use Rattle.cs_tools.proofs.emptyings.sweep_or_give_up.Goals as goal

-- ---- the sweep is refused

pub returns-in-Err-clause-tidies : goal.returns-in-Err-clause-tidies
returns-in-Err-clause-tidies g c = tidies_then g.D.PageDisk c.args.core.now c.sweep.new.core c.give_up.new.core
    (tidies_sweep g.D.PageDisk c.args.extent c.args.core.now c.make_room.new.core c.sweep.new.core c.sweep.result c.make_room.ensures.made c.make_room.ensures.ran c.sweep.ensures.done c.sweep.ensures.refused c.sweep.ensures.ran)
    c.give_up.ensures.tidies

pub returns-in-Err-clause-rests : goal.returns-in-Err-clause-rests
returns-in-Err-clause-rests g c honest =
    let swept = tidies_sweep g.D.PageDisk c.args.extent c.args.core.now c.make_room.new.core c.sweep.new.core c.sweep.result c.make_room.ensures.made c.make_room.ensures.ran c.sweep.ensures.done c.sweep.ensures.refused c.sweep.ensures.ran in
    c.give_up.ensures.rests (swept.honest.0 honest)

pub returns-in-Err-clause-tries : goal.returns-in-Err-clause-tries
returns-in-Err-clause-tries g c =
    IfOk-weaker c.give_up.result _ _ (λ tried it. given_up g.D.PageDisk c.args.extent c.args.core.now c.make_room.new.core c.sweep.new.core c.give_up.new.core c.in-Err.refusal tried c.make_room.ensures.made c.in-Err.ensures.refused it)
    c.give_up.ensures.gives_up

pub returns-in-Err-clause-stopped : goal.returns-in-Err-clause-stopped
returns-in-Err-clause-stopped g c =
    IfErr-weaker c.give_up.result _ _
    (λ stop it. refused_so _ (StopsEmptying g.D.PageDisk c.args.extent c.args.core.now c.give_up.new.core)
    (λ r. stops_given_up g.D.PageDisk c.args.extent c.args.core.now c.make_room.new.core c.sweep.new.core c.give_up.new.core c.in-Err.refusal r c.make_room.ensures.made c.in-Err.ensures.refused) stop it) c.give_up.ensures.stopped

-- ---- the sync after the sweep is

pub returns-in_err-sync_all-in-Ok-clause-tidies : goal.returns-in_err-sync_all-in-Ok-clause-tidies
returns-in_err-sync_all-in-Ok-clause-tidies g c = tidies_then g.D.PageDisk c.args.core.now c.sweep.new.core c.sync_all.new.core
    (tidies_sweep g.D.PageDisk c.args.extent c.args.core.now c.make_room.new.core c.sweep.new.core c.sweep.result c.make_room.ensures.made c.make_room.ensures.ran c.sweep.ensures.done c.sweep.ensures.refused c.sweep.ensures.ran)
    c.sync_all.ensures.tidies

pub returns-in_err-sync_all-in-Ok-clause-stopped : goal.returns-in_err-sync_all-in-Ok-clause-stopped
returns-in_err-sync_all-in-Ok-clause-stopped g c =
    let disks = g.D.PageDisk in
    let new = c.sync_all.new.core in
    let stop = c.in_err-sync_all-in-Ok.field-0.0 in
    let stops = StopsEmptying disks c.args.extent c.args.core.now new in
    passed_on stops c.from_residual.result stop c.from_residual.ensures.1
    (refused_so (λ r. StopsSync disks c.sweep.new.core r new) stops
    (λ r it. (c.make_room.new.core, c.make_room.ensures.made, inr (c.sweep.new.core, inl (c.in-Ok.swept.moved, c.in-Ok.swept.root, c.in-Ok.ensures.done), it))) stop c.in_err-sync_all-in-Ok.ensures.stopped)

-- ---- it is emptied

pub returns-in_ok-sync_all-in-Ok-clause-tidies : goal.returns-in_ok-sync_all-in-Ok-clause-tidies
returns-in_ok-sync_all-in-Ok-clause-tidies g c = tidies_then g.D.PageDisk c.args.core.now c.sweep.new.core c.sync_all.new.core
    (tidies_sweep g.D.PageDisk c.args.extent c.args.core.now c.make_room.new.core c.sweep.new.core c.sweep.result c.make_room.ensures.made c.make_room.ensures.ran c.sweep.ensures.done c.sweep.ensures.refused c.sweep.ensures.ran)
    c.sync_all.ensures.tidies

pub returns-in_ok-sync_all-in-Ok-clause-rests : goal.returns-in_ok-sync_all-in-Ok-clause-rests
returns-in_ok-sync_all-in-Ok-clause-rests g c honest =
    let swept = tidies_sweep g.D.PageDisk c.args.extent c.args.core.now c.make_room.new.core c.sweep.new.core c.sweep.result c.make_room.ensures.made c.make_room.ensures.ran c.sweep.ensures.done c.sweep.ensures.refused c.sweep.ensures.ran in
    c.in_ok-sync_all-in-Ok.ensures.rests (swept.honest.0 honest)

pub returns-in_ok-sync_all-in-Ok-clause-tries : goal.returns-in_ok-sync_all-in-Ok-clause-tries
returns-in_ok-sync_all-in-Ok-clause-tries g c = record {
  room = c.make_room.new.core;
  made = c.make_room.ensures.made;
  swept = c.sweep.new.core;
  root = c.in-Ok.swept.root;
  sweeps = c.in-Ok.ensures.done;
  syncs = c.in_ok-sync_all-in-Ok.ensures.syncs;
}
