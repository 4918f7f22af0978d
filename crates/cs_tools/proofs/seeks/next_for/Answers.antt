use Rattle.std.proofs.Common.{subst, sym}
use Rattle.std.specs.Prelude.{IfOk}
use Rattle.cs_tools.specs.Aims.{IsNextFor}
use Rattle.cs_tools.specs.declared.aims.Aim.{Aim}
use Rattle.cs_tools.proofs.seeks.next_for.Goals as goal

pub returns-in-Pairs-clause-chosen : goal.returns-in-Pairs-clause-chosen
returns-in-Pairs-clause-chosen g c =
    subst (λ (aim : Aim). IfOk c.next_of_pairs.result (IsNextFor g.D.PageDisk aim c.args.passed.now c.args.core.now c.next_of_pairs.new.core)) (sym c.in-Pairs.is) c.next_of_pairs.ensures.chosen

pub returns-in-Room-clause-chosen : goal.returns-in-Room-clause-chosen
returns-in-Room-clause-chosen g c =
    subst (λ (aim : Aim). IfOk c.next_for_put.result (IsNextFor g.D.PageDisk aim c.args.passed.now c.args.core.now c.next_for_put.new.core)) (sym c.in-Room.is) c.next_for_put.ensures.chosen

pub returns-in-Brim-clause-chosen : goal.returns-in-Brim-clause-chosen
returns-in-Brim-clause-chosen g c =
    subst (λ (aim : Aim). IfOk c.next_to_brim.result (IsNextFor g.D.PageDisk aim c.args.passed.now c.args.core.now c.next_to_brim.new.core)) (sym c.in-Brim.is) c.next_to_brim.ensures.chosen
