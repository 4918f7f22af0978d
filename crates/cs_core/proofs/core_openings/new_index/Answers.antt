use Rattle.cs_core.proofs.Starting.{new_index_is}
use Rattle.cs_core.proofs.core_openings.new_index.Goals as goal

pub returns-in-Ok : goal.returns-in-Ok
returns-in-Ok c = new_index_is c.args.geometry.format c.args.geometry.extents c.args.geometry.pages c.args.geometry.sections c.format.result c.most_weight.result c.new.result.items c.in-Ok.index c.format.ensures.format c.most_weight.ensures c.new.ensures.items c.in-Ok.ensures.loaded
