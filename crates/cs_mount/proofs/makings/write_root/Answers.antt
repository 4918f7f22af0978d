use Rattle.std.proofs.Common.{◌≡◌, ◌∙◌, List, OnOk, ap, option_map, subst}
use Rattle.cs_disk.specs.Disk.{Write}
use Rattle.cs_frame.specs.Roots.{identity_in}
use Rattle.cs_mount.specs.Makings.{LeavesSome, after_writes}
use Rattle.cs_mount.proofs.NewPages.{root_writes}
use Rattle.cs_mount.proofs.makings.write_root.Goals as goal

pub returns-clause-written : goal.returns-clause-written
returns-clause-written g c = λ h.
    let D = g.D.PageDisk in
    let same = root_writes c.args.geometry c.store_pair-pair.result (option_map (λ id. id.0) c.store.result) c.encode_root-bytes.result c.new.result.items c.store_pair-pair.ensures (c.store.ensures.store ∙ ap identity_in c.format.ensures.format) c.new.ensures.items c.encode_root-bytes.ensures.spelled in
    subst (λ (l : List Write). OnOk c.write_two.result (D.state c.write_two.new.disk ≡ after_writes (D.state c.args.disk.now) l)) same (c.write_two.ensures.written h)

pub returns-clause-some : goal.returns-clause-some
returns-clause-some g c = λ h.
    let same = root_writes c.args.geometry c.store_pair-pair.result (option_map (λ id. id.0) c.store.result) c.encode_root-bytes.result c.new.result.items c.store_pair-pair.ensures (c.store.ensures.store ∙ ap identity_in c.format.ensures.format) c.new.ensures.items c.encode_root-bytes.ensures.spelled in
    subst (λ (l : List Write). LeavesSome g.D.PageDisk c.args.disk.now c.write_two.new.disk l) same (c.write_two.ensures.some h)
