use Rattle.cs_salvage.proofs.Standing.{no_part_in}
use Rattle.cs_salvage.proofs.parts.part_in.Goals as goal

pub returns-in-None-clause-part : goal.returns-in-None-clause-part
returns-in-None-clause-part c =
    let spelled = rw c.in-Some.is at c.in_ok-payload.ensures in
    no_part_in c.args.pages.now c.in-Some.payload.items c.deref.result.now spelled c.deref.ensures.value c.in-None.ensures.part
