use Rattle.std.proofs.lemmas.Result.{on_ok_weaker}
use Rattle.cs_script.proofs.HexSteps.{value_written}
use Rattle.cs_script.proofs.outputs.print_value.Goals as goal

pub returns : goal.returns
returns g c =
    let contents = g.W.Write.contents in
    on_ok_weaker c.writeln-2.result
    (value_written (contents c.args.writer.now) (contents c.write.new.self) (contents c.print_bytes.new.writer) (contents c.writeln-2.new.self) c.args.bytes.now c.if-is_empty.ensures c.in_ok-write.ensures.bytes c.in_ok-print_bytes.ensures)
    c.writeln-2.ensures.bytes
