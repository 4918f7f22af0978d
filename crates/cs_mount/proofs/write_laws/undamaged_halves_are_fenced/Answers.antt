use Rattle.cs_mount.specs.StorePairs.{store_version}
use Rattle.cs_mount.proofs.Taken.{fenced_seen, undamaged_fenced}
use Rattle.cs_mount.proofs.write_laws.undamaged_halves_are_fenced.Goals as goal

pub returns-clause-undamaged : goal.returns-clause-undamaged
returns-clause-undamaged g c = λ honest undamaged.
    let D = g.D.PageDisk in
    let p = c.args.core.now.disk in
    undamaged_fenced (store_version p.rules.geometry) p.pairs.items (D.page_count p.disk) (D.state p.disk) p.apart (g.met.D.PageDisk.sized p.disk honest) (g.met.D.PageDisk.whole p.disk honest) undamaged

pub returns-clause-stays : goal.returns-clause-stays
returns-clause-stays g c = λ honest fenced.
    let p = c.args.core.now.disk in
    fenced_seen (store_version p.rules.geometry) p.pairs.items (g.D.PageDisk.state p.disk) (p.right honest).newer fenced
