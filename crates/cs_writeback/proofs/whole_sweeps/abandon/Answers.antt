use Rattle.cs_writeback.proofs.SweepSteps.{abandons}
use Rattle.cs_writeback.proofs.whole_sweeps.abandon.Goals as goal

pub returns-in-Ok-clause-abandons : goal.returns-in-Ok-clause-abandons
returns-in-Ok-clause-abandons g c =
    let e = c.in-Ok.ensures in
    abandons g.D.PageDisk c.args.extent c.args.core.now c.ask.new.core c.in-Ok.field-0 c.args.refusal e.done e.answers e.no_refusal
