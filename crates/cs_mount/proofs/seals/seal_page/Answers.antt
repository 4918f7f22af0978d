use Rattle.std.proofs.Common.{◌∙◌, ap, arith}
use Rattle.cs_frame.specs.declared.superblocks.Superblock.{Superblock}
use Rattle.cs_frame.specs.Superblocks.{spelled_superblock}
use Rattle.cs_mount.proofs.seals.seal_page.Goals as goal

pub returns-clause-seal : goal.returns-clause-seal
returns-clause-seal c = (
  c.if-superblock-root.false,
  omega (arith, c.if-superblock-ge-LAST_VERSION.false),
  c.encode_superblock.ensures.spelled ∙ ap (λ (z : Superblock). spelled_superblock z.format z.version z.recorded z.extent_count z.pages z.sections z.section z.extents.items) c.sealed.ensures,
)
