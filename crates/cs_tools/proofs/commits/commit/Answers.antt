use Rattle.std.proofs.Common.{◌∙◌, sym}
use Rattle.cs_store.specs.Errors.{sync_refusal}
use Rattle.cs_tools.proofs.Changing.{refused_commit}
use Rattle.cs_tools.proofs.commits.commit.Goals as goal

pub returns-in-Ok-clause-events : goal.returns-in-Ok-clause-events
returns-in-Ok-clause-events g c = c.in-Ok.ensures.done.0

pub returns-in-Ok-clause-all : goal.returns-in-Ok-clause-all
returns-in-Ok-clause-all g c honest done = sym c.in-Ok.ensures.done.1 ∙ c.in-Ok.ensures.all honest

pub returns-in-Err-clause-events : goal.returns-in-Err-clause-events
returns-in-Err-clause-events g c = refused_commit g.D.PageDisk c.args.store.now c.sync.new.self (sync_refusal c.in-Err.error) c.refusal.result c.refusal.ensures c.in-Err.ensures.refused
