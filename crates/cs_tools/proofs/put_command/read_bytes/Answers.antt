use Rattle.std.proofs.Common.{◌+◌}
use Rattle.cs_tools.proofs.Reading.{taken}
use Rattle.cs_tools.proofs.put_command.read_bytes.Goals as goal

pub returns : goal.returns
returns g c text is =
    taken g.R.Read.remaining c.take.result c.args.reader (c.args.most + 1) text c.new-bytes.result.items c.read_to_end.new.buf.items c.take.ensures.limit c.take.ensures.inner is c.new-bytes.ensures.items c.in_ok-read_to_end.ensures.bytes
