use Rattle.std.proofs.Common.{Option, inl, subst}
use Rattle.std.specs.Prelude.{IfSome}
use Rattle.std.proofs.lemmas.Result.{IfOk-weaker}
use Rattle.cs_inspect.specs.declared.choices.Choice.{Choice}
use Rattle.cs_inspect.specs.Choices.{chosen_extent}
use Rattle.cs_inspect.specs.Past.{ChoosesPast, IsNoneOf}
use Rattle.cs_tools.specs.declared.aims.Aim.TheVariants.{Brim}
use Rattle.cs_tools.proofs.Aiming.{left_of, next_settled, reads_then}
use Rattle.cs_tools.proofs.seeks.next_to_brim.Goals as goal

pub returns-in-Some-clause-chosen : goal.returns-in-Some-clause-chosen
returns-in-Some-clause-chosen g c = (
  subst (λ (o : Option Choice). ChoosesPast g.D.PageDisk c.args.passed.now c.args.core.now c.choose_past.new.core (chosen_extent o)) c.in-Some.is c.in_ok-found.ensures.chosen,
  subst (λ (o : Option Choice). IfSome o (λ choice. IsNoneOf c.args.passed.now choice.extent)) c.in-Some.is c.in_ok-found.ensures.fresh,
)

pub returns-in-None-clause-chosen : goal.returns-in-None-clause-chosen
returns-in-None-clause-chosen g c =
    let old = c.args.core.now in
    let read = c.choose_past.new.core in
    let passed = c.args.passed.now in
    let none = subst (λ (o : Option Choice). ChoosesPast g.D.PageDisk passed old read (chosen_extent o)) c.in-None.is c.in_ok-found.ensures.chosen in
    IfOk-weaker c.nothing_more.result _ _ (λ next is. next_settled g.D.PageDisk Brim passed old c.nothing_more.new.core next (inl (read, c.choose_past.ensures.reads, none)) is) c.nothing_more.ensures.nothing

pub returns-in-None-clause-left : goal.returns-in-None-clause-left
returns-in-None-clause-left g c = left_of g.D.PageDisk c.nothing_more.new.core c.nothing_more.result c.nothing_more.ensures.nothing

pub returns-in-None-clause-reads : goal.returns-in-None-clause-reads
returns-in-None-clause-reads g c = reads_then g.D.PageDisk c.args.core.now c.choose_past.new.core c.nothing_more.new.core c.choose_past.ensures.reads c.nothing_more.ensures.reads
