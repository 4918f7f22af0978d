use Rattle.std.proofs.Common.{refl, subst, ◌∙◌}
use Rattle.cs_mount.specs.OfStores.{IsOfStore}
use Rattle.cs_twin.proofs.Over.{whole_here}
use Rattle.cs_twin.specs.Laws.{sized_shown}
use Rattle.cs_mount.specs.StorePairs.{store_version}
use Rattle.cs_mount.proofs.Torn.{torn_opened}
use Rattle.cs_mount.proofs.mount_laws.a_torn_crash_is_opened.Goals as goal

pub returns-clause-prefix : goal.returns-clause-prefix
returns-clause-prefix g c = λ honest twins image tear count start recovers.
    let D = g.D.PageDisk in
    let v = c.args.core.now in
    let p = v.disk in
    let s = D.state p.disk in
    let long = g.met.D.PageDisk.sized p.disk honest in
    let device = c.progress.ensures.core.device in
    (torn_opened _ v c.progress.ensures.core honest (sized_shown (store_version p.rules.geometry) p.pairs.items s.durable ∙ long) twins s image c.progress.ensures.whole.geometry p.rules.geometry p.pairs.items refl
    (whole_here (store_version p.rules.geometry) p.pairs.items _ _ p.apart long (p.right honest).newer (g.met.D.PageDisk.whole p.disk honest))
    (long ∙ device) (p.right honest).newer (p.right honest).guarded (subst (λ n. ∥ IsOfStore p.rules.geometry p.pairs.items n s.durable ∥₁) device (p.fit honest).durable) tear (c.progress.ensures.left honest)
    count start recovers).1 count start recovers

pub returns-clause-one : goal.returns-clause-one
returns-clause-one g c = λ honest twins image tear count start recovers.
    let D = g.D.PageDisk in
    let v = c.args.core.now in
    let p = v.disk in
    let s = D.state p.disk in
    let long = g.met.D.PageDisk.sized p.disk honest in
    let device = c.progress.ensures.core.device in
    (torn_opened _ v c.progress.ensures.core honest (sized_shown (store_version p.rules.geometry) p.pairs.items s.durable ∙ long) twins s image c.progress.ensures.whole.geometry p.rules.geometry p.pairs.items refl
    (whole_here (store_version p.rules.geometry) p.pairs.items _ _ p.apart long (p.right honest).newer (g.met.D.PageDisk.whole p.disk honest))
    (long ∙ device) (p.right honest).newer (p.right honest).guarded (subst (λ n. ∥ IsOfStore p.rules.geometry p.pairs.items n s.durable ∥₁) device (p.fit honest).durable) tear (c.progress.ensures.left honest)
    count start recovers).0
