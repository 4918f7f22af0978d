use Rattle.cs_tools.proofs.Salvaging.{cut_not, cut_said}
use Rattle.cs_tools.proofs.salvages.cut_geometry.Goals as goal

pub returns-in-Ok-clause-said : goal.returns-in-Ok-clause-said
returns-in-Ok-clause-said c = cut_said c.args.bytes.now c.in-Ok.superblock c.args.pages c.other_geometry.result c.in-Ok.ensures.number c.in-Ok.ensures.spelled c.in-Ok.ensures.read c.other_geometry.ensures

pub returns-in-Err-clause-said : goal.returns-in-Err-clause-said
returns-in-Err-clause-said c = cut_not c.args.bytes.now c.args.pages c.in-Err.fault c.none_of.result c.in-Err.ensures.read c.none_of.ensures.none
