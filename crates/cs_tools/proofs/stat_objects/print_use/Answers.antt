use Rattle.cs_tools.proofs.Continued.{goes_then}
use Rattle.cs_tools.proofs.stat_objects.print_use.Goals as goal

pub returns : goal.returns
returns g c =
    let contents = g.W.Write.contents in
    goes_then (contents c.args.writer.now) (contents c.print_comma.new.writer) (contents c.print_use_object.new.writer) c.in_ok-print_comma.ensures c.in_ok-print_use_object.ensures
