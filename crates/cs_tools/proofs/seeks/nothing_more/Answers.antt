use Rattle.std.proofs.Common.{refl}
use Rattle.cs_tools.proofs.Readable.{left}
use Rattle.cs_tools.proofs.seeks.nothing_more.Goals as goal

pub returns-clause-nothing : goal.returns-clause-nothing
returns-clause-nothing g c = (
  c.in_ok-survey.survey.unreadable,
  refl,
  left g.D.PageDisk c.in_ok-survey.survey.unreadable c.args.core.now c.look_over.new.core c.look_over.ensures.reads c.in_ok-survey.ensures.unreadable,
)
