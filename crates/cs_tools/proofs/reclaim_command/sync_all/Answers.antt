use Rattle.cs_core.proofs.Resting.{at_rest}
use Rattle.cs_tools.proofs.Tidying.{tidies_sync}
use Rattle.cs_tools.proofs.reclaim_command.sync_all.Goals as goal

pub returns-in-Ok-clause-rests : goal.returns-in-Ok-clause-rests
returns-in-Ok-clause-rests g c honest =
    let tidies = tidies_sync g.D.PageDisk c.args.core.now c.sync.new.core c.sync.result c.sync.ensures.done c.sync.ensures.stopped c.sync.ensures.ran in
    let s = c.progress.ensures.legal (tidies.honest.0 honest) in
    let syncs = c.in-Ok.ensures.done.0 in
    at_rest c.sync.new.core.store s.0 s.1.store syncs.none_waiting syncs.none_changed

pub returns-in-Ok-clause-tidies : goal.returns-in-Ok-clause-tidies
returns-in-Ok-clause-tidies g c = tidies_sync g.D.PageDisk c.args.core.now c.sync.new.core c.sync.result c.sync.ensures.done c.sync.ensures.stopped c.sync.ensures.ran

pub returns-in-Err-clause-tidies : goal.returns-in-Err-clause-tidies
returns-in-Err-clause-tidies g c = tidies_sync g.D.PageDisk c.args.core.now c.sync.new.core c.sync.result c.sync.ensures.done c.sync.ensures.stopped c.sync.ensures.ran

pub returns-in-Ok-clause-syncs : goal.returns-in-Ok-clause-syncs
returns-in-Ok-clause-syncs g c = c.in-Ok.ensures.done.0
