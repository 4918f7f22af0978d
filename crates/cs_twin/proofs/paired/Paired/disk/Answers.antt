use Rattle.cs_twin.proofs.Fencing.{over_known}
use Rattle.cs_twin.proofs.paired.Paired.disk.Goals as goal

pub returns-clause-no_older : goal.returns-clause-no_older
returns-clause-no_older g c = λ h. (c.args.self.now.right h).newer

pub returns-clause-guarded : goal.returns-clause-guarded
returns-clause-guarded g c = λ h. (c.args.self.now.right h).guarded

pub returns-clause-no_fence : goal.returns-clause-no_fence
returns-clause-no_fence g c = λ h sound. (c.args.self.now.right h).whole sound

pub returns-clause-over_known : goal.returns-clause-over_known
returns-clause-over_known g c = λ h sound. let right = c.args.self.now.right h in over_known (g.R.PageRules.version c.args.self.now.rules) c.args.self.now.pairs.items (g.D.PageDisk.state c.args.self.now.disk) right.guarded (right.whole sound)
