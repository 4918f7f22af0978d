use Rattle.std.proofs.Common.{◌∙◌}
use Rattle.cs_mount.proofs.Saying.{said_faulty, said_read}
use Rattle.cs_mount.proofs.identities.store_said.Goals as goal

pub returns-in-Ok-clause-store : goal.returns-in-Ok-clause-store
returns-in-Ok-clause-store c =
    let it = c.in-Ok.superblock in
    c.store.ensures.store ∙ said_read c.args.bytes.now it.format it.version it.recorded it.extent_count it.pages it.sections it.section it.extents.items c.in-Ok.ensures.number c.in-Ok.ensures.spelled

pub returns-in-Err-clause-store : goal.returns-in-Err-clause-store
returns-in-Err-clause-store c = said_faulty c.decode_section.result c.args.bytes.now c.in-Err.fault c.unless_memory.result c.in-Err.is c.decode_section.ensures.fault c.unless_memory.ensures.none
