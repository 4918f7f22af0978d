use Rattle.std.proofs.Common.{◌∙◌}
use Rattle.cs_mount.proofs.Spelling.{last_faulty, last_reads}
use Rattle.cs_mount.proofs.store_pairs.geometry_on_last.Goals as goal

pub geometry_of_first-requires : goal.geometry_of_first-requires
geometry_of_first-requires c = c.in-Ok.ensures.spelled.fits.geometry

pub returns-in-Ok-clause-geometry : goal.returns-in-Ok-clause-geometry
returns-in-Ok-clause-geometry c =
    let it = c.in-Ok.superblock in
    c.geometry_of_first.ensures.geometry ∙ last_reads c.args.pages c.args.bytes.now it.format it.version it.recorded it.extent_count it.pages it.sections it.section it.extents.items c.in-Ok.ensures.number c.in-Ok.ensures.spelled

pub returns-in-Err-clause-geometry : goal.returns-in-Err-clause-geometry
returns-in-Err-clause-geometry c = last_faulty c.decode_section.result c.args.bytes.now c.in-Err.fault c.in-Err.is c.args.pages c.unless_memory.result c.decode_section.ensures.fault c.unless_memory.ensures.none
