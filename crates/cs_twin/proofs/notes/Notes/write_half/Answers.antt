use Rattle.std.proofs.Common.{arith, refl}
use Rattle.cs_twin.proofs.Right.{still_right}
use Rattle.cs_twin.proofs.Writing.{doubted_at, went_to, written_at}
use Rattle.cs_twin.proofs.notes.Notes.write_half.Goals as goal

pub returns-then-version-index-clause-right : goal.returns-then-version-index-clause-right
returns-then-version-index-clause-right g c = λ h. still_right _ c.args.pairs.now c.args.self.now _ _ _ c.refuse.ensures.notes (c.requires.right h)

pub returns-in-Ok-write-clause-right : goal.returns-in-Ok-write-clause-right
returns-in-Ok-write-clause-right g c = λ h.
    let old = c.write.ensures.honest.1 h in
    written_at (g.R.PageRules.version c.args.rules.now) c.args.pairs.now c.args.self.now (g.D.PageDisk.state c.args.disk.now) (g.D.PageDisk.page_count c.args.disk.now) c.half_of.result c.args.k c.in-Ok.version c.args.bytes.now (record { page = 0; twin = 0 }) c.index-2.result.now c.index.result.now
    c.requires.pairs (g.met.D.PageDisk.sized c.args.disk.now old) (c.requires.right old) c.requires.read c.requires.inside c.index-2.ensures c.index.ensures c.if-version-index.false c.in-Ok.ensures.version c.half_of.ensures
    _ _ (c.in-Ok-write.ensures.ok old) refl refl c.requires.read

pub returns-in-Err-DeviceFault-clause-fault : goal.returns-in-Err-DeviceFault-clause-fault
returns-in-Err-DeviceFault-clause-fault g c = λ h x at.
    went_to (g.R.PageRules.version c.args.rules.now) c.args.pairs.now c.args.self.now (g.D.PageDisk.state c.args.disk.now) _ c.args.k c.half_of.result c.in-Ok.version c.index.result.now.version c.args.bytes.now (record { page = 0; twin = 0 }) c.index-2.result.now
    (c.requires.right h) c.requires.read c.index-2.ensures (omega (arith, c.if-version-index.false)) c.in-Ok.ensures.version c.half_of.ensures (c.write.ensures.fault h) x at

pub returns-in-Err-DeviceFault-clause-right : goal.returns-in-Err-DeviceFault-clause-right
returns-in-Err-DeviceFault-clause-right g c = λ h.
    let old = c.write.ensures.honest.1 h in
    doubted_at (g.R.PageRules.version c.args.rules.now) c.args.pairs.now c.args.self.now (g.D.PageDisk.state c.args.disk.now) (g.D.PageDisk.page_count c.args.disk.now) c.half_of.result c.args.k c.in-Ok.version c.args.bytes.now (record { page = 0; twin = 0 }) c.index-2.result.now c.index.result.now
    c.requires.pairs (g.met.D.PageDisk.sized c.args.disk.now old) (c.requires.right old) c.requires.read c.requires.inside c.index-2.ensures c.index.ensures c.if-version-index.false c.in-Ok.ensures.version c.half_of.ensures
    _ _ (c.write.ensures.fault old) refl
