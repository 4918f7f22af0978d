use Rattle.std.proofs.Common.{◌≢◌, List, [], map, subst}
use Rattle.std.specs.Prelude.{All}
use Rattle.cs_frame.specs.Identifiers as identifiers
use Rattle.cs_frame.specs.declared.identifiers.ShardId.{ShardId}
use Rattle.cs_index.specs.State.{State as Index, id_number, index_of}
use Rattle.cs_inspect.specs.Listings.{AreFirst}
use Rattle.law_machine.specs.Index.{live_at}
use Rattle.cs_salvage.specs.Namings.{HasShard}
use Rattle.cs_tools.proofs.salvages.look_up.Goals as goal

pub returns-clause-found : goal.returns-clause-found
unfolding identifiers.id_number
returns-clause-found g c = λ none. (
  c.in_ok-ids.ids.items,
  subst (λ (index : Index). AreFirst (λ id. live_at (index_of index) id ≢ []) 0 18446744073709551615 (map id_number c.in_ok-ids.ids.items)) c.index.ensures c.in_ok-ids.ensures,
  subst (λ (ids : List ShardId). All (HasShard c.args.shards.now) ids) c.deref.ensures.value (c.lacking.ensures.all none),
)
