use Rattle.std.specs.Prelude.{IsTrue}
use Rattle.cs_core.proofs.RootSteps.{root_persistent}
use Rattle.cs_core.proofs.rounds.is_persistent.Goals as goal

pub returns : goal.returns
returns c = root_persistent c.args.graph.now.staging c.args.root.version c.in-Ok.version (IsTrue c.is_persistent.result) c.families.ensures.whole.kept c.in-Ok.ensures.plain c.in-Ok.ensures.version c.is_persistent.ensures
