use Rattle.cs_deps.specs.View.{pending_of}
use Rattle.cs_check.proofs.Places.{found_or_not}
use Rattle.cs_check.proofs.plans.waits.Goals as goal

pub returns : goal.returns
returns c =
    found_or_not (pending_of c.args.view.now) c.args.element c.find.result c.is_some.result c.is_some.ensures
    (rw c.deref.ensures.value at c.find.ensures)
