use Rattle.std.proofs.Common.{arith}
use Rattle.cs_index.proofs.Whole.{length-newest}
use Rattle.cs_index.proofs.indexes.Index.entries_behind.Goals as goal

pub entries_after-requires : goal.entries_after-requires
entries_after-requires c =
    let whole = c.self.invariant.whole in
    rw (c.deref.ensures.value) (rw (c.deref-2.ensures.value) (record {
      ascending = whole.ascending;
      short = whole.short;
      stored = whole.runs;
      few = omega (arith, whole.few, length-newest c.self.inside.runs.items);
    }))
