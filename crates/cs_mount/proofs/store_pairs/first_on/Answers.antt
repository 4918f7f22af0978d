use Rattle.cs_frame.proofs.FirstFormatLaws as zeros
use Rattle.cs_mount.proofs.Spelling.{first_faulty}
use Rattle.cs_mount.proofs.store_pairs.first_on.Goals as goal

pub returns-in-Ok-clause-geometry : goal.returns-in-Ok-clause-geometry
returns-in-Ok-clause-geometry c = let it = c.in-Ok.superblock in (zeros.page_zero_fits c.args.bytes.now it.format it.version it.recorded it.extent_count it.pages it.sections it.section it.extents.items c.in-Ok.ensures.spelled).geometry

pub returns-in-Err-clause-first : goal.returns-in-Err-clause-first
returns-in-Err-clause-first c = first_faulty c.decode_superblock.result c.args.bytes.now c.in-Err.fault c.in-Err.is c.unless_memory.result c.decode_superblock.ensures.fault c.unless_memory.ensures.none
