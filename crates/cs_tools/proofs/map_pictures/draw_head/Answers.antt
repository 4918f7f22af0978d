use Rattle.std.proofs.Common.{append_assoc}
use Rattle.cs_tools.proofs.map_pictures.draw_head.Goals as goal

pub returns : goal.returns
returns g c = simp append_assoc c.writeln.ensures.bytes
