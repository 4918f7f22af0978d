use Rattle.cs_deps.proofs.Folded.{waiting_kept, current_kept, live_kept}
use Rattle.cs_deps.proofs.cleaning.fold_family.Goals as goal

pub returns-clause-waiting : goal.returns-clause-waiting
returns-clause-waiting c = waiting_kept c.args.family c.version_at.result c.args.persistent.now c.version_at.ensures c.args.entries.now.items c.fold.new.entries.items c.fold.ensures.items

pub returns-clause-current : goal.returns-clause-current
returns-clause-current c latest current = current_kept c.args.family c.version_at.result c.args.persistent.now c.version_at.ensures c.args.entries.now.items c.fold.new.entries.items c.fold.ensures.items latest current

pub returns-clause-live : goal.returns-clause-live
returns-clause-live c l floors live = live_kept c.args.family c.version_at.result c.args.entries.now.items c.fold.new.entries.items c.fold.ensures.items l floors live
