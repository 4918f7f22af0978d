use Rattle.std.proofs.Common.{arith}
use Rattle.cs_index.specs.contracts.indexes.Index.{the_view}
use Rattle.cs_index.specs.State.{index_of, state_of}
use Rattle.cs_index.proofs.Living.{none_at_first}
use Rattle.cs_index.proofs.Tallies.{nothing_counts}
use Rattle.cs_index.proofs.Whole.{no_ids, nothing_whole}
use Rattle.cs_index.proofs.indexes.Index.become_empty.Goals as goal

pub invariant_of-self : goal.invariant_of-self
invariant_of-self c =
    let all = nothing_whole c.new.result.items c.new-2.result.items c.self.inside.format c.self.inside.limit c.new.ensures.items c.new-2.ensures.items in
    record {
      whole = all.0;
      ids = no_ids c.new.result.items c.new.ensures.items;
      count = all.1;
      lives = all.2;
      weighs = all.3;
      counts = (let none = rw (← c.self.view_is) at c.requires in nothing_counts c.self.inside.on.items (index_of (the_view c.self.inside)) c.new.result.items c.new-2.result.items c.self.inside.format c.self.inside.limit c.new.ensures.items c.new-2.ensures.items none c.self.invariant.counts);
      small = c.self.invariant.small;
      fits = omega (arith, c.new.ensures.len);
      clear = none_at_first (index_of (state_of c.new.result.items c.new-2.result.items c.self.inside.format c.self.inside.limit 0)) 0;
    }
