use Rattle.cs_tools.proofs.Tidying.{tidies_sweep, tidies_then}
use Rattle.cs_tools.proofs.reclaims_v2.sweep_and_sync.Goals as goal

pub returns-in-Err-clause-tidies : goal.returns-in-Err-clause-tidies
returns-in-Err-clause-tidies g c =
    tidies_sweep g.D.PageDisk c.args.extent c.args.core.now c.make_room.new.core c.sweep.new.core c.sweep.result c.make_room.ensures.made c.make_room.ensures.ran c.sweep.ensures.done c.sweep.ensures.refused c.sweep.ensures.ran

pub returns-in_err-sync_all-clause-tidies : goal.returns-in_err-sync_all-clause-tidies
returns-in_err-sync_all-clause-tidies g c = tidies_then g.D.PageDisk c.args.core.now c.sweep.new.core c.sync_all.new.core
    (tidies_sweep g.D.PageDisk c.args.extent c.args.core.now c.make_room.new.core c.sweep.new.core c.sweep.result c.make_room.ensures.made c.make_room.ensures.ran c.sweep.ensures.done c.sweep.ensures.refused c.sweep.ensures.ran)
    c.sync_all.ensures.tidies

pub returns-clause-tidies : goal.returns-clause-tidies
returns-clause-tidies g c = tidies_then g.D.PageDisk c.args.core.now c.sweep.new.core c.sync_all.new.core
    (tidies_sweep g.D.PageDisk c.args.extent c.args.core.now c.make_room.new.core c.sweep.new.core c.sweep.result c.make_room.ensures.made c.make_room.ensures.ran c.sweep.ensures.done c.sweep.ensures.refused c.sweep.ensures.ran)
    c.sync_all.ensures.tidies

pub returns-clause-rests : goal.returns-clause-rests
returns-clause-rests g c honest =
    let swept = tidies_sweep g.D.PageDisk c.args.extent c.args.core.now c.make_room.new.core c.sweep.new.core c.sweep.result c.make_room.ensures.made c.make_room.ensures.ran c.sweep.ensures.done c.sweep.ensures.refused c.sweep.ensures.ran in
    c.in_ok-sync_all.ensures.rests (swept.honest.0 honest)
