use Rattle.std.proofs.Common.{◌≢◌, List, [], map, subst}
use Rattle.std.specs.Prelude.{flat_map}
use Rattle.std.specs.Io.KnownBytes.{Appends}
use Rattle.cs_frame.specs.declared.identifiers.ShardId.{ShardId}
use Rattle.cs_index.specs.State.{State as Index, id_number, index_of}
use Rattle.law_machine.specs.Index.{live_at}
use Rattle.cs_inspect.specs.Listings.{AreFirst}
use Rattle.cs_advice.specs.Outputs.{id_line}
use Rattle.cs_tools.proofs.rescues.list_rescued.Goals as goal

pub returns-in-Ok-print_ids-clause-lines : goal.returns-in-Ok-print_ids-clause-lines
returns-in-Ok-print_ids-clause-lines g c ends =
    let contents = g.W.Write.contents in (
      c.in-Ok.ids.items,
      subst (λ (index : Index). AreFirst (λ id. live_at (index_of index) id ≢ []) (id_number c.args.from) c.args.most (map id_number c.in-Ok.ids.items)) c.index.ensures c.in-Ok.ensures,
      subst (λ (ids : List ShardId). Appends (contents c.args.writer.now) (contents c.print_ids.new.writer) (flat_map (id_line c.args.style) ids)) c.deref.ensures.value c.in-Ok-print_ids.ensures,
    )

pub returns-in-Ok-2-clause-lines : goal.returns-in-Ok-2-clause-lines
returns-in-Ok-2-clause-lines g c ends =
    let contents = g.W.Write.contents in (
      c.in-Ok.ids.items,
      subst (λ (index : Index). AreFirst (λ id. live_at (index_of index) id ≢ []) (id_number c.args.from) c.args.most (map id_number c.in-Ok.ids.items)) c.index.ensures c.in-Ok.ensures,
      subst (λ (ids : List ShardId). Appends (contents c.args.writer.now) (contents c.print_ids.new.writer) (flat_map (id_line c.args.style) ids)) c.deref.ensures.value c.in-Ok-2.ensures,
    )
