use Rattle.std.proofs.Common.{◌∙◌, ap, sym}
use Rattle.cs_extent.specs.State.{State as Extents, extents_of, shape}
use Rattle.cs_index.specs.State.{State as Index, index_of}
use Rattle.law_machine.specs.Extents.{empties}
use Rattle.law_machine.specs.Tally.{shards}
use Rattle.cs_tools.proofs.overviews.figures_of.Goals as goal

pub returns : goal.returns
returns g c = record {
  shards_there = c.live_count.ensures ∙ sym (ap (λ (i : Index). shards (index_of i)) c.index.ensures.index);
  room = c.chunk_room.ensures;
  empty = c.empty_count.ensures ∙ ap (λ (x : Extents). empties (extents_of x).pointer (shape x).extents) c.extents.ensures;
  unreadable = c.count_unreadable.ensures;
}
