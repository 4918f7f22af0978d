use denote.Param.Send.{sendable}
use Rattle.cs_node.proofs.Crosses.{node_sync}
use Rattle.cs_node.proofs.nodes.Node.abreast.Goals as goal

-- threads may share a node
pub all-requires-sync-N : goal.all-requires-sync-N
all-requires-sync-N g c κs within = search (sendable, node_sync, c.type_bounds) depth 12
