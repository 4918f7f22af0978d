use Rattle.std.proofs.Common.{subst, sym}
use Rattle.cs_frame.specs.declared.superblocks.Superblock.{Superblock}
use Rattle.cs_frame.specs.Superblocks.{IsSuperblock}
use Rattle.cs_mount.proofs.Lowering.{lowered_fits, lowers, stays_by}
use Rattle.cs_mount.proofs.as_of.lower.Goals as goal

pub encode_superblock-requires : goal.encode_superblock-requires
encode_superblock-requires c =
    subst (λ (it : Superblock). IsSuperblock it) (sym c.lowered.ensures.record) (lowered_fits c.in-Ok.superblock c.args.root c.in-Ok.ensures.spelled.fits)

pub returns-in-Ok-clause-lowered : goal.returns-in-Ok-clause-lowered
returns-in-Ok-clause-lowered c =
    lowers c.args.bytes.now c.encode_superblock.result c.args.root c.in-Ok.superblock c.lowered.result c.in-Ok.ensures.number c.in-Ok.ensures.spelled c.lowered.ensures.record c.encode_superblock.ensures

pub returns-in-Err-clause-lowered : goal.returns-in-Err-clause-lowered
returns-in-Err-clause-lowered c =
    stays_by c.decode_section.result c.in-Err.fault tt c.unless_memory.result c.args.bytes.now c.args.root c.decode_section.ensures.fault c.in-Err.is c.unless_memory.ensures.none
