use Rattle.std.proofs.Common.{◌≡◌, ◌≤◌, arith, subst}
use Rattle.cs_core.specs.Views.{View}
use Rattle.cs_node.proofs.rests.Rest.end.Goals as goal

pub returns-clause-within : goal.returns-clause-within
returns-clause-within g c =
    let same : c.core.result.now ≡ c.args.self.core = c.core.ensures.core in
    let p = c.progress-accepted.ensures in
    subst (λ (v : View g.row.D.Denot). v.store.frontier ≤ v.store.accepted) same (let within = p.within in omega (arith, p.accepted, p.frontier))
