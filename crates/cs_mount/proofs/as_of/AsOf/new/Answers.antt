use Rattle.cs_mount.specs.Lowered.{lowered_at}
use Rattle.cs_mount.proofs.Aging.{lowered_stays}
use Rattle.cs_mount.proofs.Repaging.{repages_kept, whole_repaged}
use Rattle.cs_mount.proofs.as_of.AsOf.new.Goals as goal

pub invariant_of-result : goal.invariant_of-result
invariant_of-result g c =
    let f = lowered_at c.args.geometry c.args.root in
    let s = g.D.PageDisk.state c.args.disk in
    record { lowers = repages_kept f s; whole = λ h. whole_repaged f s (lowered_stays c.args.geometry c.args.root) (g.met.D.PageDisk.whole c.args.disk h) }
