use Rattle.cs_twin.proofs.Becoming.{spliced_is}
use Rattle.cs_twin.proofs.tears.splice.Goals as goal

pub returns : goal.returns
returns c = spliced_is c.args.from c.args.to c.min-start.result c.min-end.result c.args.bytes.now c.args.page.now c.copy_from_slice.new.self c.min-end.ensures c.min-start.ensures c.copy_from_slice.ensures.after
