use Rattle.cs_inspect.proofs.Passing.{as_next, as_pair}
use Rattle.cs_inspect.proofs.choices_past.nothing_passed_over_is_no_change.Goals as goal

pub returns-clause-next : goal.returns-clause-next
returns-clause-next g c = λ old read apart chosen past honest view chunks are live. as_next g.D.PageDisk old read _ _ chosen apart (past honest view chunks are live)

pub returns-clause-pair : goal.returns-clause-pair
returns-clause-pair g c = λ old read apart chosen past honest view chunks are live. as_pair g.D.PageDisk old read _ _ chosen apart (past honest view chunks are live)
