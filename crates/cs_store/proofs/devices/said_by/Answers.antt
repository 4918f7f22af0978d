use Rattle.std.proofs.Common.{◌∙◌}
use Rattle.cs_store.proofs.Saying.{said_not, said_of}
use Rattle.cs_store.proofs.devices.said_by.Goals as goal

pub returns-in-Ok-clause-said : goal.returns-in-Ok-clause-said
returns-in-Ok-clause-said c =
    let it = c.in-Ok.superblock in
    c.device_of.ensures ∙ said_of c.args.bytes.now it.format it.version it.recorded it.extent_count it.pages it.sections it.section it.extents.items c.in-Ok.ensures.number c.in-Ok.ensures.spelled

pub returns-in-Err-clause-said : goal.returns-in-Err-clause-said
returns-in-Err-clause-said c = said_not c.decode_section.result c.args.bytes.now c.in-Err.fault c.none_of.result c.decode_section.ensures.fault c.in-Err.is c.none_of.ensures.none
