use Rattle.std.proofs.Common.{refl}
use Rattle.cs_node.proofs.nodes.Node.look.Goals as goal

pub returns : goal.returns
returns g c = (c.core.result.now, c.core.result.now, rw c.core.ensures.core c.core.ensures.behind, (refl, c.look_at.ensures))
