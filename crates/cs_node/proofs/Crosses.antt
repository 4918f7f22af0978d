-- What of a node may cross threads, for the search of whoever starts them.
use denote.RattleType.{RattleType}
use denote.Param.Send.{IsSend, IsSync, Frees, sendable, part_keyless}
use denote.Struct.Struct.{Struct}
use denote.Struct.Owning.{shape}
use Rattle.std.proofs.Crossing.{crosses}
use Rattle.std.proofs.MapsCrossing.{crosses as maps}
use Rattle.atomic_table.specs.declared.shared.TableRule.{Ghosts}
use Rattle.std.specs.declared.alloc.Allocator.{Ghosts as Heaps}
use Rattle.atomic_table.specs.contracts.send_lease.SendLease as lease
use Rattle.atomic_table.proofs.Rights.{right_send}
use Rattle.atomic_table.specs.contracts.shared.Seat as seat
use Rattle.atomic_table.specs.contracts.shared.Shared as shared
use Rattle.atomic_table.proofs.Sent.{seat_keyless, shares_keyless}
use Rattle.cs_disk.specs.declared.disk.PageDisk.{Ghosts as Disks}
use Rattle.cs_core.specs.contracts.events.Bytes as bytes
use Rattle.cs_core.specs.contracts.events.Elements as elements
use Rattle.cs_core.specs.contracts.cores.Core as core
use Rattle.cs_core.specs.contracts.events.Event as event
use Rattle.cs_core.specs.contracts.events.Reply as reply
use Rattle.cs_core.specs.contracts.stores.Store as store
use Rattle.cs_deps.specs.contracts.graphs.Graph as graph
use Rattle.cs_extent.specs.contracts.extents.Extents as extents
use Rattle.cs_core.specs.cs_index.contracts.indexes.Index as index
use Rattle.cs_node.specs.declared.boards.Naming.{Ghosts as Names}
use Rattle.cs_node.specs.contracts.locked.Locked as locked
use Rattle.cs_node.specs.contracts.nodes.Node as node

-- a seat may go to another thread
pub seat_send : (S V : RattleType) → IsSend S → IsSend (seat.the_row S V)
seat_send S V s = record { owned = λ d vs. ((λ vss. (tt, ((λ uss. (tt, tt)), tt))), seat_keyless S s V.coded.code d.table_id d.id d.me); leaving = λ k f vs. tt }

-- threads may share a table
pub shared_sync : (S V K P : RattleType) (g : Ghosts P.Denot S.Denot V.Denot K.Denot) → IsSend S → IsSync (shared.the_row S V K P g)
shared_sync S V K P g s = let fields : IsSync (Struct (shape (shared.the_type S V K P g))) = search sendable depth 20 in
    record { shared = λ d b o ν. (fields.shared (d.words, (d.slots, (tt, tt))) b o ν, shares_keyless S s V.coded.code d.table_id (g.holds d.key) d.words d.slots ν) }

-- threads may share the right to free its memory
pub lease_sync : (T A : RattleType) (g : Heaps A.Denot) → IsSend A → Frees g g.dealloc_token → IsSync (lease.the_row T A g)
lease_sync T A g s f = record { shared = λ d b o ν q. part_keyless (lease.the_row T A g) (right_send T A g f) q d b o }

-- bytes may go to another thread
pub bytes_send : IsSend bytes.the_row
bytes_send = search (sendable, crosses) depth 40 fits 20000

-- and so may elements, events and replies
pub elements_send : IsSend elements.the_row
elements_send = search (sendable, crosses) depth 40 fits 20000

pub event_send : IsSend event.the_row
event_send = search (sendable, crosses, bytes_send) depth 40 fits 20000

pub reply_send : IsSend reply.the_row
reply_send = search (sendable, crosses, bytes_send, elements_send) depth 200 fits 20000

-- the parts of a store may go to another thread, and so may a store
pub graph_send : IsSend graph.the_row
graph_send = search (sendable, crosses, maps) depth 200 fits 20000

pub extents_send : IsSend extents.the_row
extents_send = search (sendable, crosses) depth 200 fits 20000

pub index_send : IsSend index.the_row
index_send = search (sendable, crosses) depth 200 fits 20000

pub store_send : IsSend store.the_row
store_send = search (sendable, crosses, graph_send, extents_send, index_send) depth 200 fits 20000

-- a core may
pub core_send : (D : RattleType) (d : Disks D.Denot) → IsSend D → IsSend (core.the_row D d)
core_send D d s = search (sendable, crosses, event_send, reply_send, store_send) depth 40 fits 20000

-- the locked state may
pub locked_send : (D K : RattleType) (d : Disks D.Denot) (n : Names K.Denot) → IsSend D → IsSend K → IsSend (locked.the_row D K d n)
locked_send D K d n s k = search (sendable, crosses, core_send, seat_send) depth 40 fits 20000

-- threads may share a node
pub node_sync : (D K : RattleType) (d : Disks D.Denot) (n : Names K.Denot) → IsSend D → IsSend K → IsSync K → IsSync (node.the_row D K n d)
node_sync D K d n s k l = search (sendable, crosses, locked_send, shared_sync, lease_sync) depth 40 fits 20000
