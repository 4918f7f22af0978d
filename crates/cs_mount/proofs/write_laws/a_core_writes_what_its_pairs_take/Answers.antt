use Rattle.std.proofs.Common.{ℕ, List, subst, ◌∙◌}
use Rattle.std.proofs.Math.Nat.{le_refl}
use Rattle.cs_disk.specs.Disk.{seen}
use Rattle.cs_twin.specs.Kept.{TakesWrite}
use Rattle.cs_twin.specs.Pairs.{ArePairs}
use Rattle.cs_mount.specs.OfStores.{IsOfStore, is_allowed}
use Rattle.cs_mount.specs.StorePairs.{store_version}
use Rattle.cs_mount.specs.Torn.{dimensions_of}
use Rattle.cs_mount.proofs.LeftOver.{left_in}
use Rattle.cs_mount.proofs.TakenInTwo.{takes_either}
use Rattle.cs_mount.proofs.write_laws.a_core_writes_what_its_pairs_take.Goals as goal

pub returns-clause-takes : goal.returns-clause-takes
returns-clause-takes g c = λ honest fenced running page bytes left.
    let v = c.args.core.now in
    let p = v.disk in
    let s = g.D.PageDisk.state p.disk in
    let device = c.progress.ensures.core.device in
    let is = c.progress.ensures.core.legal honest in
    let m = left_in v.store is.0 is.1.store running page bytes left in
    subst (λ (w : ℕ × List ℕ). TakesWrite (store_version p.rules.geometry) is_allowed p.pairs.items (seen s) w.0 w.1) m.2
    (takes_either (dimensions_of v.store.extents) c.progress.ensures.whole.geometry is.0 is.1.store.sound s (g.met.D.PageDisk.sized p.disk honest ∙ device) p.rules.geometry p.pairs.items
    (subst (λ n. ArePairs p.pairs.items n) device p.apart) is.1.disk (subst (λ n. ∥ IsOfStore p.rules.geometry p.pairs.items n s.durable ∥₁) device (p.fit honest).durable) (p.right honest).newer fenced m.0 m.1)

pub returns-clause-next : goal.returns-clause-next
returns-clause-next g c = λ honest fenced page bytes next.
    returns-clause-takes g c honest fenced next.running page bytes
    (record { place = c.args.core.now.store.issued; member = next.member; unwritten = le_refl c.args.core.now.store.issued; is_there = next.next; kept = next.kept })
