use Rattle.cs_tools.proofs.Continued.{goes_then}
use Rattle.cs_tools.proofs.stat_objects.print_runs.Goals as goal

pub loop-number-preserved : goal.loop-number-preserved
loop-number-preserved g c =
    let contents = g.W.Write.contents in
    goes_then (contents c.args.writer.now) (contents c.loop-number.writer) (contents c.print_run_object.new.writer) c.loop-number.invariant c.in_ok-print_run_object.ensures
