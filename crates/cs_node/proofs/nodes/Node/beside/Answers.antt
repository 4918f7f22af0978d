use denote.Param.Send.{sendable}
use Rattle.cs_node.proofs.Crosses.{node_sync}
use Rattle.cs_node.proofs.nodes.Node.beside.Goals as goal

-- threads may share a node
pub two-requires-sync-N : goal.two-requires-sync-N
two-requires-sync-N g c κs within = search (sendable, node_sync, c.type_bounds) depth 12
