use Rattle.std.proofs.Common.{◌≡◌, Some, subst, sym, ◌∙◌}
use Rattle.cs_twin.specs.Pairs.{ArePairs}
use Rattle.cs_mount.specs.OfStores.{IsOfStore}
use Rattle.cs_mount.specs.Showing.{findings_on}
use Rattle.cs_mount.specs.StorePairs.{dimensions_on}
use Rattle.cs_mount.specs.Takes.{findings_of}
use Rattle.cs_mount.specs.Torn.{dimensions_of}
use Rattle.cs_mount.proofs.Taken.{its_findings, its_found, its_rules}
use Rattle.cs_mount.proofs.TakenInTwo.{pairs_either}
use Rattle.cs_mount.proofs.write_laws.a_core_lies_in_its_pairs.Goals as goal

pub returns-clause-pairs : goal.returns-clause-pairs
returns-clause-pairs g c = λ honest.
    let v = c.args.core.now in
    let p = v.disk in
    let s = g.D.PageDisk.state p.disk in
    let device = c.progress.ensures.core.device in
    let is = c.progress.ensures.core.legal honest in
    pairs_either (dimensions_of v.store.extents) c.progress.ensures.whole.geometry is.0 is.1.store.sound s (g.met.D.PageDisk.sized p.disk honest ∙ device) p.rules.geometry p.pairs.items
    (subst (λ n. ArePairs p.pairs.items n) device p.apart) is.1.disk (subst (λ n. ∥ IsOfStore p.rules.geometry p.pairs.items n s.durable ∥₁) device (p.fit honest).durable)

pub returns-clause-rules : goal.returns-clause-rules
returns-clause-rules g c = λ honest twins.
    let v = c.args.core.now in
    let p = v.disk in
    let s = g.D.PageDisk.state p.disk in
    let device = c.progress.ensures.core.device in
    let is = c.progress.ensures.core.legal honest in
    its_rules (dimensions_of v.store.extents) c.progress.ensures.whole.geometry twins is.0 is.1.store.sound s (g.met.D.PageDisk.sized p.disk honest ∙ device) p.rules.geometry p.pairs.items is.1.disk
    (subst (λ n. ∥ IsOfStore p.rules.geometry p.pairs.items n s.durable ∥₁) device (p.fit honest).durable)

pub returns-clause-found : goal.returns-clause-found
returns-clause-found g c = λ honest twins.
    let v = c.args.core.now in
    let p = v.disk in
    let s = g.D.PageDisk.state p.disk in
    let device = c.progress.ensures.core.device in
    let is = c.progress.ensures.core.legal honest in
    subst (λ n. dimensions_on n s.durable ≡ Some (dimensions_of v.store.extents)) (sym device) (its_found (dimensions_of v.store.extents) c.progress.ensures.whole.geometry twins is.0 is.1.store.sound s (g.met.D.PageDisk.sized p.disk honest ∙ device) p.rules.geometry p.pairs.items is.1.disk
    (subst (λ n. ∥ IsOfStore p.rules.geometry p.pairs.items n s.durable ∥₁) device (p.fit honest).durable))

pub returns-clause-findings : goal.returns-clause-findings
returns-clause-findings g c = λ honest twins.
    let v = c.args.core.now in
    let p = v.disk in
    let s = g.D.PageDisk.state p.disk in
    let device = c.progress.ensures.core.device in
    let is = c.progress.ensures.core.legal honest in
    subst (λ n. findings_on n s.durable ≡ findings_of p) (sym device) (its_findings (dimensions_of v.store.extents) c.progress.ensures.whole.geometry twins is.0 is.1.store.sound s (g.met.D.PageDisk.sized p.disk honest ∙ device) p.rules.geometry p.pairs.items is.1.disk
    (subst (λ n. ∥ IsOfStore p.rules.geometry p.pairs.items n s.durable ∥₁) device (p.fit honest).durable))
