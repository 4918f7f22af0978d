use Rattle.cs_disk.specs.Reads.{OnlyReads}
use Rattle.cs_advice.proofs.knowns.are_sections.Given as goal

abbrev pub invariant-loop-number : goal.invariant-loop-number
invariant-loop-number g l = OnlyReads g.D.PageDisk l.fn.disk l.disk
