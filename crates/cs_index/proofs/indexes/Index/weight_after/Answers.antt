use Rattle.std.proofs.Common.{arith}
use Rattle.cs_index.specs.contracts.indexes.Index.{the_view}
use Rattle.cs_index.specs.State.{index_of}
use Rattle.cs_index.proofs.Weights.{dead_light, living_left}
use Rattle.law_machine.specs.Geometry.{weigh_in}
use Rattle.cs_index.proofs.indexes.Index.weight_after.Goals as goal

pub overflow_sub-result : goal.overflow_sub-result
overflow_sub-result c =
    let dead = rw (← c.self.view_is) at c.dead_weight.ensures.value in
    omega (arith, dead, c.self.invariant.weighs, dead_light (weigh_in c.self.inside.format) (index_of (the_view c.self.inside)))

pub returns-then-without_deletions : goal.returns-then-without_deletions
returns-then-without_deletions c =
    let dead = rw (← c.self.view_is) at c.dead_weight.ensures.value in
    rw (← c.self.view_is) (rw (c.if-without_deletions.true) (living_left (weigh_in c.self.inside.format) (index_of (the_view c.self.inside)) c.self.inside.weight c.dead_weight.result c.self.invariant.weighs dead))

pub returns-else-without_deletions : goal.returns-else-without_deletions
returns-else-without_deletions c = rw (← c.self.view_is) (rw (c.if-without_deletions.false) c.self.invariant.weighs)
