use Rattle.std.proofs.Common.{List, subst, sym}
use Rattle.cs_frame.specs.declared.superblocks.Superblock.{Superblock}
use Rattle.cs_core.specs.Started.{AreNew, IsHeadWritten}
use Rattle.cs_core.proofs.Heads.{head_none, on_err}
use Rattle.cs_core.proofs.core_openings.start_store.Goals as goal

pub new_store-requires : goal.new_store-requires
new_store-requires g c = subst (λ (ss : List Superblock). AreNew c.args.geometry.format c.args.geometry.extents c.args.geometry.pages c.args.geometry.sections ss) (sym c.deref.ensures.value) c.in_ok-sections.ensures

pub write_heads-requires-clause-new : goal.write_heads-requires-clause-new
write_heads-requires-clause-new g c = subst (λ (ss : List Superblock). AreNew c.args.geometry.format c.args.geometry.extents c.args.geometry.pages c.args.geometry.sections ss) (sym c.deref-2.ensures.value) c.in_ok-sections.ensures

pub returns-in_err-sections-clause-failed : goal.returns-in_err-sections-clause-failed
returns-in_err-sections-clause-failed g c = λ h.
    on_err c.from_residual.result (IsHeadWritten c.args.geometry.extents c.args.geometry.pages (g.D.PageDisk.state c.args.disk.now) (g.D.PageDisk.state c.args.disk.now)) (head_none c.args.geometry.extents c.args.geometry.pages (g.D.PageDisk.state c.args.disk.now))

pub returns-in_err-store-clause-failed : goal.returns-in_err-store-clause-failed
returns-in_err-store-clause-failed g c = λ h.
    on_err c.from_residual-in_err-store.result (IsHeadWritten c.args.geometry.extents c.args.geometry.pages (g.D.PageDisk.state c.args.disk.now) (g.D.PageDisk.state c.args.disk.now)) (head_none c.args.geometry.extents c.args.geometry.pages (g.D.PageDisk.state c.args.disk.now))

pub returns-in-Ok-clause-geometry : goal.returns-in-Ok-clause-geometry
returns-in-Ok-clause-geometry g c = c.in_ok-sections.ensures.geometry
