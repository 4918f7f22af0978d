use Rattle.std.proofs.Common.{◌≡◌, map}
use Rattle.cs_index.specs.State.{id_number, index_of}
use Rattle.cs_index.proofs.Merged.{IsSmall, ids_left}
use Rattle.cs_inspect.proofs.Listed.{AreListed}
use Rattle.cs_inspect.proofs.listings.ids_from.Given as goal

abbrev pub invariant-loop-read : goal.invariant-loop-read
invariant-loop-read l = record {
  index : l.read.index ≡ index_of l.index;
  listed : AreListed (index_of l.index) (id_number l.fn.from) l.most l.read.after (map id_number l.ids.items);
  small : IsSmall l.read.after;
}

abbrev pub decreases-loop-read : goal.decreases-loop-read
decreases-loop-read l = ids_left l.read.after
