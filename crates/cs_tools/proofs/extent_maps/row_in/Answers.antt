use Rattle.std.proofs.Common.{◌*◌}
use Rattle.cs_tools.proofs.Rows.{row_taken}
use Rattle.cs_tools.proofs.extent_maps.row_in.Goals as goal

pub returns : goal.returns
returns c = row_taken c.args.uses.now (64 * c.args.number) c.min-end.result c.min-end.ensures
