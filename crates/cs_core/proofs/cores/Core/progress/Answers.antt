use Rattle.std.proofs.Common.{arith, subst, sym}
use Rattle.cs_disk.specs.Disk.{Leaves}
use Rattle.cs_core.specs.Views.{View}
use Rattle.cs_core.specs.Prefixes.{IsPrefixOf}
use Rattle.cs_core.proofs.Leaving.{left_now}
use Rattle.cs_core.proofs.cores.Core.progress.Goals as goal

pub returns-clause-within : goal.returns-clause-within
returns-clause-within g c = omega (arith, c.frontier.ensures.within, c.accepted.ensures.count)

pub returns-clause-legal : goal.returns-clause-legal
returns-clause-legal g c = rw (← c.self.view_is) (λ honest. c.self.invariant.core.legal honest)

pub returns-clause-left : goal.returns-clause-left
returns-clause-left g c = λ honest.
    let there : g.D.PageDisk.honest c.self.inside.disk = subst (λ (v : View g.row.D.Denot). g.D.PageDisk.honest v.disk) (sym c.self.view_is) honest in
    subst (λ (v : View g.row.D.Denot). Leaves (g.D.PageDisk.state v.disk) (IsPrefixOf v)) c.self.view_is
    (left_now g.D.PageDisk c.self.invariant.core c.extent_count.ensures.whole there (g.met.D.PageDisk.sized c.self.inside.disk there))

pub returns-clause-core : goal.returns-clause-core
returns-clause-core g c = rw (← c.self.view_is) c.self.invariant.core

pub returns-clause-graph : goal.returns-clause-graph
returns-clause-graph g c = rw (← c.self.view_is) (rw (← c.self-inside.view_is) (record {
  kept = c.families.ensures.whole.kept;
  out = c.families.ensures.whole.out;
  writes = c.families.ensures.whole.writes;
}))
