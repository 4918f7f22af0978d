use Rattle.std.proofs.Common.{◌≡◌, ◌-◌, ◌*◌, ◌≤◌, ap₂, arith, ℕ}
use Rattle.cs_index.specs.contracts.indexes.Index.{the_view}
use Rattle.cs_index.specs.State.{index_of}
use Rattle.cs_index.proofs.Shards.{shards_few}
use Rattle.cs_index.proofs.Weights.{dead_light}
use Rattle.law_machine.specs.Geometry.{weigh_in}
use Rattle.law_machine.specs.Tally.{dead_weight}
use Rattle.cs_index.proofs.indexes.Index.dead_weight.Goals as goal
use Rattle.cs_index.proofs.indexes.Index.dead_weight.Goals.{After-entry_weight}

pub overflow_sub-dead : goal.overflow_sub-dead
overflow_sub-dead c = omega (arith, shards_few (index_of (the_view c.self.inside)), c.self.invariant.lives, c.self.invariant.count)

value : (c : After-entry_weight) → (c.self.inside.named - c.self.inside.living) * c.entry_weight.result ≡ dead_weight (weigh_in c.self.inside.format) (index_of (the_view c.self.inside))
value c = ap₂ (λ (n m : ℕ). n * m) (ap₂ (λ (n m : ℕ). n - m) c.self.invariant.count c.self.invariant.lives) c.entry_weight.ensures.value

few : (c : After-entry_weight) → dead_weight (weigh_in c.self.inside.format) (index_of (the_view c.self.inside)) ≤ c.self.inside.limit
few c = omega (arith, dead_light (weigh_in c.self.inside.format) (index_of (the_view c.self.inside)), c.self.invariant.whole.weight_fits)

pub overflow_mul-result : goal.overflow_mul-result
overflow_mul-result c =
    let at = (goal.at.overflow_mul-result c).After-entry_weight in
    omega (arith, value at, few at, c.self.invariant.small)

pub returns-clause-value : goal.returns-clause-value
returns-clause-value c = rw (← c.self.view_is) (value (goal.at.returns-clause-value c).After-entry_weight)

pub returns-clause-limit : goal.returns-clause-limit
returns-clause-limit c =
    let at = (goal.at.returns-clause-limit c).After-entry_weight in
    rw (← c.self.view_is) (omega (arith, value at, few at))
