use Rattle.std.proofs.Common.{inl, rules, subst}
use Rattle.cs_disk.specs.Disk.{seen}
use Rattle.cs_mount.specs.Seals.{IsSealOf}
use Rattle.cs_core.specs.cs_chunk.Reads.{IsNoAnswer}
use Rattle.cs_mount.proofs.Sealings.{sealed_now, sealed_or_not, sealing_leaves}
use Rattle.cs_mount.proofs.seals.reseal.Goals as goal

pub returns-in-Ok-clause-sealed : goal.returns-in-Ok-clause-sealed
returns-in-Ok-clause-sealed g c = λ h.
    sealed_now g.D.PageDisk c.args.disk.now c.find_seal.new.disk c.write_through.new.disk h c.find_seal.ensures.disk c.in-Ok-Some.bytes (subst (IsSealOf (seen (g.D.PageDisk.state c.args.disk.now))) c.in-Ok-Some.field-0-is (c.in-Ok-Some.ensures.seal h)) (c.in-Ok.ensures.written (c.find_seal.ensures.disk.honesty.0 h))

pub returns-in-Ok-clause-crash : goal.returns-in-Ok-clause-crash
returns-in-Ok-clause-crash g c = λ h.
    sealing_leaves g.D.PageDisk c.args.disk.now c.find_seal.new.disk c.write_through.new.disk h c.find_seal.ensures.disk c.in-Ok-Some.bytes (subst (IsSealOf (seen (g.D.PageDisk.state c.args.disk.now))) c.in-Ok-Some.field-0-is (c.in-Ok-Some.ensures.seal h)) (λ image left. g.met.D.PageDisk.only_now c.args.disk.now image h left)
    (c.write_through.ensures.some (c.find_seal.ensures.disk.honesty.0 h))

pub returns-in-Err-write_through-clause-refused : goal.returns-in-Err-write_through-clause-refused
returns-in-Err-write_through-clause-refused g c = λ h.
    sealed_or_not g.D.PageDisk c.args.disk.now c.find_seal.new.disk c.write_through.new.disk h c.find_seal.ensures.disk c.in-Ok-Some.bytes (subst (IsSealOf (seen (g.D.PageDisk.state c.args.disk.now))) c.in-Ok-Some.field-0-is (c.in-Ok-Some.ensures.seal h)) (c.in-Err-write_through.ensures.refused (c.find_seal.ensures.disk.honesty.0 h))

pub returns-in-Err-write_through-clause-crash : goal.returns-in-Err-write_through-clause-crash
returns-in-Err-write_through-clause-crash g c = λ h.
    sealing_leaves g.D.PageDisk c.args.disk.now c.find_seal.new.disk c.write_through.new.disk h c.find_seal.ensures.disk c.in-Ok-Some.bytes (subst (IsSealOf (seen (g.D.PageDisk.state c.args.disk.now))) c.in-Ok-Some.field-0-is (c.in-Ok-Some.ensures.seal h)) (λ image left. g.met.D.PageDisk.only_now c.args.disk.now image h left)
    (c.write_through.ensures.some (c.find_seal.ensures.disk.honesty.0 h))

pub returns-in-Err-write_through-clause-why : goal.returns-in-Err-write_through-clause-why
returns-in-Err-write_through-clause-why g c = λ h. inl (let it : IsNoAnswer c.refusal_of_disk.result = search rules in it)
