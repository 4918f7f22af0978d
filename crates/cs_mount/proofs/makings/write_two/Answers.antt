use Rattle.std.proofs.Common.{[], ◌∷◌}
use Rattle.cs_mount.proofs.Laying.{of_more, one_write, then_more}
use Rattle.cs_mount.proofs.makings.write_two.Goals as goal

pub returns-in-Ok-clause-some : goal.returns-in-Ok-clause-some
returns-in-Ok-clause-some g c = λ h.
    let D = g.D.PageDisk in
    let disk = c.args.disk.now in
    let mid = c.write.new.self in
    let bytes = c.args.bytes.now in
    let there = c.write.ensures.honest.0 h in
    then_more D disk mid c.write-in-Ok.new.self ((c.args.first, bytes) ∷ []) ((c.args.second, bytes) ∷ [])
    (one_write D disk mid c.args.first bytes (λ image left. g.met.D.PageDisk.only_now disk image h left) (c.write.ensures.time h) (c.write.ensures.fault h))
    (c.in-Ok.ensures.ok h)
    (one_write D mid c.write-in-Ok.new.self c.args.second bytes (λ image left. g.met.D.PageDisk.only_now mid image there left) (c.write-in-Ok.ensures.time there) (c.write-in-Ok.ensures.fault there))

pub returns-in-Err-clause-some : goal.returns-in-Err-clause-some
returns-in-Err-clause-some g c = λ h.
    let D = g.D.PageDisk in
    let disk = c.args.disk.now in
    let bytes = c.args.bytes.now in
    of_more D disk c.write.new.self ((c.args.first, bytes) ∷ []) ((c.args.second, bytes) ∷ [])
    (one_write D disk c.write.new.self c.args.first bytes (λ image left. g.met.D.PageDisk.only_now disk image h left) (c.write.ensures.time h) (c.write.ensures.fault h))
