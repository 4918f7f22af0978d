use Rattle.cs_tools.proofs.Tidying.{tidies_none}
use Rattle.cs_tools.proofs.reclaims_v2.settle.Goals as goal

pub returns-then-since-eq0-clause-tidies : goal.returns-then-since-eq0-clause-tidies
returns-then-since-eq0-clause-tidies g c = tidies_none g.D.PageDisk c.args.core.now

pub returns-clause-none : goal.returns-clause-none
returns-clause-none g c is = absurd (c.if-since-eq0.false is)
